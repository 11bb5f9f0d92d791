-- The matches of the words ask as the words do.
use Rattle.std.proofs.Common.{subst}
use Rattle.cli.specs.Asked.{Ask}
use Rattle.cli.proofs.settings.read_words.Goals as goal

pub returns-in-Ok : goal.returns-in-Ok
returns-in-Ok g c =
    let said = c.in-Ok.ensures.parses in
    record {
      asked = (
        said.0,
        said.1,
        (said.2.0, subst (λ rows. Ask g.P.Program.asks rows c.asked_of.result) said.2.1 c.asked_of.ensures),
      );
    }
