-- The names have rules, and these are paired.
use Rattle.std.proofs.Common.{◌≡◌, ◌∙◌, ap, length, refl, sym, ℕ, Option}
use Rattle.std.proofs.lemmas.Bool.{eqb-true}
use Rattle.std.proofs.lemmas.Option.{slice_get_read}
use Rattle.std.specs.Prelude.{Some, slice_get}
use Rattle.abnfcheck.proofs.RuleIdLemmas.{id_found}
use Rattle.abnfread.specs.AbnfViews.{rules_of}
use Rattle.abnfread.specs.Element.{id_of}
use Rattle.abnfd.proofs.alike.Pairing.are_paired.Goals as goal

pub returns-in-Some-Some : goal.returns-in-Some-Some
returns-in-Some-Some c = λ is.
    let s = c.args.self.now in
    let first : c.in-Some.id ≡ id_of (rules_of s.old.now) c.args.name.now =
    id_found s.old.now c.args.name.now (Some c.in-Some.id) (length s.old.now.rules) c.requires.old
    (sym c.in-Some.is ∙ c.in_ok-id.ensures.found) refl in
    let second : c.in-Some-2.new_id ≡ id_of (rules_of s.new.now) c.args.other.now =
    id_found s.new.now c.args.other.now (Some c.in-Some-2.new_id) (length s.new.now.rules) c.requires.new
    (sym c.in-Some-2.is ∙ c.in_ok-new_id.ensures.found) refl in
    let same = eqb-true c.in-Some-Some.partner c.in-Some-2.new_id is in
    let entry = c.in-Some-Some.ensures.lookup in
    let there : slice_get s.partners.now c.in-Some.id ≡ Some c.in-Some-Some.field-0.now =
    slice_get_read s.partners.now (length s.partners.now) c.in-Some.id c.in-Some-Some.field-0.now refl (entry.3.0)
    entry.1 in
    rw (sym first, sym second, sym same) (there ∙ ap (λ (p : Option ℕ). Some p) c.in-Some-Some.field-0-is)
