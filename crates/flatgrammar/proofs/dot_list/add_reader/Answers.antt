use Rattle.std.proofs.Common.{◌↔◌, ℕ, arith, subst}
use Rattle.std.proofs.lemmas.Result.{on_ok_weaker}
use Rattle.flatgrammar.specs.Flat.{Has, Exactly, EitherCase, Between}
use Rattle.flatgrammar.specs.FlatViews.{set_of}
use Rattle.flatgrammar.specs.ItemClosures.{Reads}
use Rattle.flatgrammar.proofs.DotListLemmas.{none_added, added_as, added_by_letter}
use Rattle.flatgrammar.proofs.dot_list.add_reader.Goals as goal

one_letter : (v i : ℕ) → Has (Between v v) i ↔ Has (Exactly v) i
one_letter v i = (
  (λ h. let lo = h.0 in let hi = h.1 in omega (arith, lo, hi)),
  (λ same. (omega (arith, same), omega (arith, same))),
)

pub returns-in-Some-Exactly : goal.returns-in-Some-Exactly
returns-in-Some-Exactly c =
    let arm = c.in-Some-Exactly in
    on_ok_weaker c.add_range.result
    (λ added. added_by_letter c.args.flat.now (Has (Exactly arm.value)) c.args.dot c.args.lists.now.items
    c.add_range.new.lists.items
    (subst (λ s. (i : ℕ) → Reads c.args.flat.now i c.args.dot ↔ Has (set_of s) i) arm.field-0-is arm.ensures.some)
    (added_as (Has (Between arm.value arm.value)) (Has (Exactly arm.value)) c.args.dot c.args.lists.now.items
    c.add_range.new.lists.items (λ i lt. one_letter arm.value i) added))
    c.add_range.ensures

pub returns-in-Some-EitherCase : goal.returns-in-Some-EitherCase
returns-in-Some-EitherCase c =
    let arm = c.in-Some-EitherCase in
    on_ok_weaker c.add_both.result
    (added_by_letter c.args.flat.now (Has (EitherCase arm.value)) c.args.dot c.args.lists.now.items
    c.add_both.new.lists.items
    (subst (λ s. (i : ℕ) → Reads c.args.flat.now i c.args.dot ↔ Has (set_of s) i) arm.field-0-is arm.ensures.some))
    c.add_both.ensures

pub returns-in-Some-Between : goal.returns-in-Some-Between
returns-in-Some-Between c =
    let arm = c.in-Some-Between in
    on_ok_weaker c.add_range-in-Some-Between.result
    (added_by_letter c.args.flat.now (Has (Between arm.low arm.high)) c.args.dot c.args.lists.now.items
    c.add_range-in-Some-Between.new.lists.items
    (subst (λ s. (i : ℕ) → Reads c.args.flat.now i c.args.dot ↔ Has (set_of s) i) arm.field-0-is arm.ensures.some))
    c.add_range-in-Some-Between.ensures

pub returns-in-None : goal.returns-in-None
returns-in-None c = added_by_letter c.args.flat.now (λ i. Reads c.args.flat.now i c.args.dot) c.args.dot
    c.args.lists.now.items c.args.lists.now.items (λ i. ((λ h. h), (λ h. h)))
    (none_added (λ i. Reads c.args.flat.now i c.args.dot) c.args.dot c.args.lists.now.items c.in-None.ensures.none)
