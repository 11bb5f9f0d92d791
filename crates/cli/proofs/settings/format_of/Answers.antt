-- The form is that whose name the rows give.
use Rattle.std.proofs.Common.{◌≡◌, ◌∙◌, ap, rules, codes}
use Rattle.clap.specs.Words.{first_value, found_of}
use Rattle.clap.proofs.WalkLemmas.{first_value-rows}
use Rattle.cli.specs.Asked.{format_named}
use Rattle.cli.specs.declared.settings.Format.TheVariants.{Text}
use Rattle.cli.proofs.settings.format_of.Goals as goal

pub returns-in-Some : goal.returns-in-Some
returns-in-Some c = c.format_of_name.ensures
    ∙ ap format_named (c.in-Some.ensures ∙ first_value-rows (found_of c.args.matches.now) (codes "format"))

pub returns-in-None : goal.returns-in-None
returns-in-None c =
    let none : Text ≡ format_named (first_value (found_of c.args.matches.now) (codes "format")) = search rules in
    none ∙ ap format_named (first_value-rows (found_of c.args.matches.now) (codes "format"))
