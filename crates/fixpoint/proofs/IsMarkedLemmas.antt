-- Marks set one by one.
-- Serves: mark, marks_of, some_marked, on_cycle (marks), reached
use Rattle.std.proofs.Common.{◌≡◌, ℕ, zero, suc, ◌+◌, ◌<◌, Bool, true, false, List, [], ◌∷◌, ◌++◌, length, take, get_or}
use Rattle.std.proofs.Common.{set, Contains, refl, sym, subst, arith, ⊎_elim, inl, inr, add-one, ◌⊎◌, ◌∙◌, replicate}
use Rattle.std.proofs.Common.{drop}
use Rattle.std.proofs.lemmas.Bool.{cases_eq, cases_lt, both_ways}
use Rattle.std.proofs.lemmas.List.{get_or_past, get_or-set_same, get_or-set_other, length-set}
use Rattle.std.proofs.lemmas.List.Elements.{Contains-push, Contains-push_cases, Contains-append_left}
use Rattle.std.proofs.lemmas.Grind.{common_steps}
use Rattle.std.proofs.Math.Seq.{take-suc}
use Rattle.fixpoint.specs.NumberMarks.{IsMarked, MarksThose, AreMarksOf}
use Rattle.fixpoint.proofs.ContainsLemmas.{none_of}

pub marked_lt : (marks : List Bool) (m : ℕ) → IsMarked marks m → m < length marks
marked_lt marks m h = ⊎_elim (λ lt. lt)
    (λ le. absurd (both_ways (get_or marks m false) (get_or_past marks m false le) h)) (cases_lt m (length marks))

pub none_set : (n m : ℕ) → IsMarked (replicate n false) m → ⊥
none_set zero m h = both_ways false refl h
none_set (suc n) zero h = both_ways false refl h
none_set (suc n) (suc m) h = none_set n m h

-- what a mark at i changes
pub marked_here : (marks : List Bool) (i : ℕ) → i < length marks → IsMarked (set marks i true) i
marked_here marks i lt = get_or-set_same marks i true false lt

pub marked_set : (marks : List Bool) (i m : ℕ) → i < length marks → IsMarked marks m → IsMarked (set marks i true) m
marked_set marks i m lt h = ⊎_elim
    (λ is. subst (λ v. IsMarked (set marks i true) v) (sym is) (marked_here marks i lt))
    (λ ne. get_or-set_other marks i m true false ne ∙ h)
    (cases_eq m i)

pub set_marked : (marks : List Bool) (i m : ℕ) → IsMarked (set marks i true) m → (m ≡ i) ⊎ IsMarked marks m
set_marked marks i m h = ⊎_elim (λ is. inl is)
    (λ ne. inr (sym (get_or-set_other marks i m true false ne) ∙ h)) (cases_eq m i)

pub those_none : (marks : List Bool) → MarksThose [] marks marks
those_none marks = record { count = refl; kept = λ m h. h; all = λ m h. absurd (none_of m h); only = λ m h. inl h }

those_push : (row : List ℕ) (x : ℕ) (a b : List Bool) → MarksThose row a b → x < length b →
    MarksThose (row ++ x ∷ []) a (set b x true)
those_push row x a b g lt = record {
  count = length-set b x true ∙ g.count;
  kept = λ m h. marked_set b x m lt (g.kept m h);
  all = λ m h. ⊎_elim
      (λ old. marked_set b x m lt (g.all m old))
      (λ is. subst (λ v. IsMarked (set b x true) v) is (marked_here b x lt))
      (Contains-push_cases row x m h);
  only = λ m h. ⊎_elim
      (λ is. inr (subst (λ v. Contains (row ++ x ∷ []) v) (sym is) (Contains-push row x)))
      (λ old. ⊎_elim (λ o. inl o) (λ new. inr (Contains-append_left row (x ∷ []) m new)) (g.only m old))
      (set_marked b x m h);
}

pub those_next : (row : List ℕ) (i x : ℕ) (a b : List Bool) → i < length row → x ≡ get_or row i 0 →
    MarksThose (take i row) a b → x < length b → MarksThose (take (i + 1) row) a (set b x true)
those_next row i x a b lt is g in_it = rw (add-one i, take-suc row i 0, sym is) (those_push (take i row) x a b g in_it)

pub those_alone : (these : List ℕ) (a b : List Bool) (count : ℕ) → a ≡ replicate count false →
    MarksThose these a b → AreMarksOf these b
those_alone these a b count is g = record {
  all = g.all;
  only = λ m h. ⊎_elim (λ old. absurd (none_set count m (subst (λ v. IsMarked v m) is old))) (λ new. new) (g.only m h);
}

-- what is left of a vector whose slice was written
pub take_written : {A : Type 0} (new old : List A) (n : ℕ) → length new ≡ length old → n ≡ length old →
    take n (new ++ drop (length new) old) ≡ new
take_written new old n e is = grind (arith, common_steps)
