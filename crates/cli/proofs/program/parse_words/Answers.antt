-- The command is a simple one, so the words decide.
use Rattle.std.proofs.Common.{◌≡◌, map}
use Rattle.std.proofs.lemmas.Result.{IfOk-weaker}
use Rattle.clap.specs.Words.{app_of}
use Rattle.cli.proofs.AppLemmas.{app_parses}
use Rattle.cli.proofs.program.parse_words.Goals as goal

pub returns-in-Ok : goal.returns-in-Ok
returns-in-Ok g c =
    let parsed = c.try_get_matches_from in
    record {
      parses = λ app is simple free.
          let made : app_of c.in-Ok.command ≡ app = rw c.in-Ok.is at is in
          app_parses app (app_of c.in-Ok.command) (map g.S.AsStr.text c.args.words.now) made simple free parsed.result
          parsed.ensures.matches parsed.ensures.kinds;
      parsed = λ app is.
          let made : app_of c.in-Ok.command ≡ app = rw c.in-Ok.is at is in
          IfOk-weaker parsed.result _ _ (λ m from. (c.in-Ok.command, made, from)) parsed.ensures.parsed;
    }
