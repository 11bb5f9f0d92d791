-- Of some parts those with a property are one list, and a test gives it.
-- Serves: awaited_parts, refusal_is_one.
use Rattle.std.proofs.Common.{◌≡◌, Bool, true, false, cond, List, [], ◌∷◌, map, filter, refl, sym, ◌∙◌, ap, subst}
use Rattle.std.specs.List.{AllByRecursion}
use Rattle.refusedlines.specs.RefusedParts.{AreChosenParts, AreReportedParts, RulePart, ShownPart, chosen, chosen_none}
use Rattle.refusedlines.specs.RefusedParts.{left_out, part_as_shown}

module _ (Q : RulePart → Type 0) where
  pub chosen_one : {all few others : List RulePart} → AreChosenParts Q all few → AreChosenParts Q all others
      → few ≡ others
  chosen_one chosen_none chosen_none = refl
  chosen_one (chosen {p = p} q c) (chosen r d) = ap (λ v. p ∷ v) (chosen_one c d)
  chosen_one (chosen q c) (left_out none d) = absurd (none q)
  chosen_one (left_out none c) (chosen q d) = absurd (none q)
  chosen_one (left_out none c) (left_out other d) = chosen_one c d

  pub reported_one : {all : List RulePart} {shown others : List ShownPart} → AreReportedParts Q all shown
      → AreReportedParts Q all others → shown ≡ others
  reported_one a b =
      a.shown_as ∙ (ap (λ v. map part_as_shown v) (chosen_one a.chosen b.chosen) ∙ sym b.shown_as)

  -- what a test passes, if it is true of exactly the parts with the property
  pub chosen_by : (test : RulePart → Bool) (all : List RulePart)
      → AllByRecursion (λ p. (Q p → test p ≡ true) × (test p ≡ true → Q p)) all → AreChosenParts Q all (filter test all)
  chosen_by test [] each = chosen_none
  chosen_by test (p ∷ all) each = by (test p) refl (chosen_by test all each.1)
    where
      by : (b : Bool) → test p ≡ b → AreChosenParts Q all (filter test all)
          → AreChosenParts Q (p ∷ all) (filter test (p ∷ all))
      by true is rest =
          subst (λ v. AreChosenParts Q (p ∷ all) (cond v (p ∷ filter test all) (filter test all))) (sym is)
          (chosen (each.0.1 is) rest)
      by false is rest =
          subst (λ v. AreChosenParts Q (p ∷ all) (cond v (p ∷ filter test all) (filter test all))) (sym is)
          (left_out (λ q. let passed = each.0.0 q in cc (is, passed)) rest)
