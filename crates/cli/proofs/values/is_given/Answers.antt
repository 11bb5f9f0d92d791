-- `clap` records `true` where a flag is given.
use Rattle.std.proofs.Common.{◌∙◌, ap}
use Rattle.clap.specs.Words.{found_of}
use Rattle.clap.proofs.WalkLemmas.{first_value-rows}
use Rattle.cli.specs.Asked.{is_flagged}
use Rattle.cli.proofs.values.is_given.Goals as goal

pub returns-in-Some : goal.returns-in-Some
returns-in-Some c =
    c.eq.ensures
    ∙ ap is_flagged (c.in-Some.ensures ∙ first_value-rows (found_of c.args.matches.now) c.args.id.now)

pub returns-in-None : goal.returns-in-None
returns-in-None c =
    ap is_flagged (c.in-None.ensures ∙ first_value-rows (found_of c.args.matches.now) c.args.id.now)
