use Rattle.std.proofs.Common.{◌∙◌, ◌≡◌, ◌⊎◌, ◌↔◌, ⊎_elim, inl, inr, ℕ, arith, ap, subst}
use Rattle.std.proofs.lemmas.Result.{on_ok_weaker}
use Rattle.ruletable.specs.Letters.{small}
use Rattle.flatgrammar.specs.Flat.{Has, Between, EitherCase}
use Rattle.flatgrammar.specs.ClassBounds.{AreCases}
use Rattle.flatgrammar.proofs.DotListLemmas.{added_as, added_twice}
use Rattle.flatgrammar.proofs.dot_list.add_both.Goals as goal

cases_are_both : (v w : ℕ) → AreCases v w → small w ≡ small v → (i : ℕ)
    → (Has (Between v v) i ⊎ Has (Between w w) i) ↔ Has (EitherCase v) i
cases_are_both v w cases same i = (join, split)
  where
    join : Has (Between v v) i ⊎ Has (Between w w) i → small i ≡ small v
    join (inl h) = let lo = h.0 in let hi = h.1 in let is : i ≡ v = omega (arith, lo, hi) in ap (λ n. small n) is
    join (inr h) = let lo = h.0 in let hi = h.1 in let is : i ≡ w = omega (arith, lo, hi) in
        ap (λ n. small n) is ∙ same

    split : small i ≡ small v → Has (Between v v) i ⊎ Has (Between w w) i
    split h = ⊎_elim (λ is. inl (omega (arith, is), omega (arith, is)))
        (λ is. inr (omega (arith, is), omega (arith, is))) (cases i h)

pub returns-then-other-value : goal.returns-then-other-value
returns-then-other-value c =
    let v = c.args.value in
    let are = cases_are_both v c.other_case-other.result c.other_case-other.ensures.cases
    c.other_case-other.ensures.same in
    added_as (Has (Between v v)) (Has (EitherCase v)) c.args.dot c.args.lists.now.items c.add_range.new.lists.items
    (λ i lt. (
      (λ h. (are i).0 (inl h)),
      (λ h. ⊎_elim (λ is. is) (λ is. subst (λ n. Has (Between n n) i) c.if-other-value.true is) ((are i).1 h)),
    ))
    c.in_ok-add_range.ensures

pub returns : goal.returns
returns c =
    let v = c.args.value in
    let w = c.other_case-other.result in
    let are = cases_are_both v w c.other_case-other.ensures.cases c.other_case-other.ensures.same in
    let f = c.if-other-value.false in
    on_ok_weaker c.add_range-2.result
    (λ second. added_as (λ i. Has (Between v v) i ⊎ Has (Between w w) i) (Has (EitherCase v)) c.args.dot
    c.args.lists.now.items c.add_range-2.new.lists.items (λ i lt. are i)
    (added_twice (Has (Between v v)) (Has (Between w w)) c.args.dot c.args.lists.now.items
    c.add_range.new.lists.items c.add_range-2.new.lists.items
    (λ i a b. let a0 = a.0 in let a1 = a.1 in let b0 = b.0 in let b1 = b.1 in
    let same : w ≡ v = omega (arith, a0, a1, b0, b1) in absurd (f same))
    c.in_ok-add_range.ensures second))
    c.add_range-2.ensures
