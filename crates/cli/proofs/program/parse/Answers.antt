-- The command is that of the program.
use Rattle.std.proofs.lemmas.Result.{IfOk-weaker}
use Rattle.cli.proofs.program.parse.Goals as goal

pub returns : goal.returns
returns g c =
    let made = c.command.ensures.app in
    let law = c.follows.ensures in
    let parsed = c.parse_words.ensures in
    record {
      parses = (
        made.0,
        made.1,
        parsed.parses made.0 made.2 (law.simple made.0 made.1) (law.free made.0 made.1),
      );
      parsed = IfOk-weaker c.parse_words.result _ _ (λ m by. (made.0, made.1, by.0, by.1, by.2))
          (parsed.parsed made.0 made.2);
    }
