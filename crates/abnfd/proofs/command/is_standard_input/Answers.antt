-- `-` names standard input.
use Rattle.std.proofs.Common.{◌∙◌, ap}
use Rattle.abnfd.specs.CompareWords.{is_standard_input}
use Rattle.clap.specs.Words.{found_of}
use Rattle.clap.proofs.WalkLemmas.{first_value-rows}
use Rattle.abnfd.proofs.command.is_standard_input.Goals as goal

pub returns-in-Some : goal.returns-in-Some
returns-in-Some c =
    c.eq.ensures
    ∙ ap is_standard_input (c.in-Some.ensures ∙ first_value-rows (found_of c.args.matches.now) c.args.id.now)

pub returns-in-None : goal.returns-in-None
returns-in-None c =
    ap is_standard_input (c.in-None.ensures ∙ first_value-rows (found_of c.args.matches.now) c.args.id.now)
