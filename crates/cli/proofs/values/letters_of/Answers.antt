-- The name is that which the rows give.
use Rattle.std.proofs.Common.{◌≡◌, ◌∙◌, ap, rules, Bool, codes}
use Rattle.std.specs.Prelude.{if◌then◌else◌}
use Rattle.clap.specs.Words.{first_value, found_of}
use Rattle.clap.proofs.WalkLemmas.{first_value-rows}
use Rattle.cli.specs.Asked.{alphabet_named}
use Rattle.ruletable.specs.declared.alphabet.Alphabet.TheVariants.{Bytes, Utf8}
use Rattle.cli.proofs.values.letters_of.Goals as goal

pub returns-in-Some : goal.returns-in-Some
returns-in-Some c =
    ap (λ (b : Bool). if b then Utf8 else Bytes) c.if-eq.ensures
    ∙ ap alphabet_named (c.in-Some.ensures ∙ first_value-rows (found_of c.args.matches.now) (codes "letters"))

pub returns-in_default : goal.returns-in_default
returns-in_default c =
    ap (λ (b : Bool). if b then Utf8 else Bytes) c.if-eq.ensures
    ∙ ap alphabet_named (c.in-Some.ensures ∙ first_value-rows (found_of c.args.matches.now) (codes "letters"))

pub returns-in_default-2 : goal.returns-in_default-2
returns-in_default-2 c =
    let none : Bytes ≡ alphabet_named (first_value (found_of c.args.matches.now) (codes "letters")) = search rules in
    none ∙ ap alphabet_named (first_value-rows (found_of c.args.matches.now) (codes "letters"))
