-- Places set to `Done` one by one.
-- Serves: on_cycle (marks)
use Rattle.std.proofs.Common.{◌≡◌, ℕ, ◌+◌, ◌<◌, List, [], ◌∷◌, ◌++◌, length, take, get_or, set, Contains, refl, sym}
use Rattle.std.proofs.Common.{subst, ⊎_elim, inl, inr, add-one, ◌∙◌}
use Rattle.std.proofs.lemmas.Bool.{cases_eq}
use Rattle.std.proofs.lemmas.List.{length-set}
use Rattle.std.proofs.lemmas.List.Elements.{Contains-push, Contains-push_cases, Contains-append_left}
use Rattle.std.proofs.Math.Seq.{take-suc}
use Rattle.fixpoint.specs.Way.{At, Finishes}
use Rattle.fixpoint.specs.declared.cycles.SearchPosition.{SearchPosition}
use Rattle.fixpoint.specs.declared.cycles.SearchPosition.TheVariants as position
use Rattle.fixpoint.proofs.ContainsLemmas.{none_of}
use Rattle.fixpoint.proofs.AtLemmas.{set_same, set_other, set_cases}

pub finishes_none : (positions : List SearchPosition) → Finishes [] positions positions
finishes_none positions = record {
  count = refl;
  all = λ n h. absurd (none_of n h);
  only = λ n p h. inl h;
  other = λ n p h. inl h;
}

finishes_push : (row : List ℕ) (x : ℕ) (a b : List SearchPosition) → Finishes row a b → x < length b →
    Finishes (row ++ x ∷ []) a (set b x position.Done)
finishes_push row x a b g lt = record {
  count = length-set b x position.Done ∙ g.count;
  all = λ n h. ⊎_elim
      (λ is. subst (λ v. At (set b x position.Done) v position.Done) (sym is) (set_same b x position.Done lt))
      (λ ne. set_other b x n position.Done position.Done ne
      (g.all n (⊎_elim (λ old. old) (λ is. absurd (ne (sym is))) (Contains-push_cases row x n h))))
      (cases_eq n x);
  only = λ n p h. ⊎_elim
      (λ is. inr (subst (λ v. Contains (row ++ x ∷ []) v) (sym is.0) (Contains-push row x), is.1))
      (λ old. ⊎_elim (λ o. inl o) (λ new. inr (Contains-append_left row (x ∷ []) n new.0, new.1)) (g.only n p old.1))
      (set_cases b x n position.Done p h);
  other = λ n p h. ⊎_elim
      (λ is. inr (subst (λ v. Contains (row ++ x ∷ []) v) (sym is) (Contains-push row x)))
      (λ ne. ⊎_elim (λ old. inl (set_other b x n position.Done p ne old))
      (λ new. inr (Contains-append_left row (x ∷ []) n new)) (g.other n p h))
      (cases_eq n x);
}

pub finishes_next : (row : List ℕ) (i x : ℕ) (a b : List SearchPosition) → i < length row → x ≡ get_or row i 0 →
    Finishes (take i row) a b → x < length b → Finishes (take (i + 1) row) a (set b x position.Done)
finishes_next row i x a b lt is g in_it =
    rw (add-one i, take-suc row i 0, sym is) (finishes_push (take i row) x a b g in_it)
