-- The order contains exactly the least set.
-- Serves: least (marks)
use Rattle.std.proofs.Common.{◌≡◌, ℕ, zero, suc, Bool, List, length, take, Contains, arith, ⊎_elim, Some}
use Rattle.std.specs.Prelude.{slice_get}
use Rattle.std.proofs.lemmas.List.{take_all}
use Rattle.fixpoint.proofs.ContainsLemmas.{get_in, in_get, none_of}
use Rattle.fixpoint.specs.Demands.{Demand, All, One, IsMet, IsDerived}
use Rattle.fixpoint.specs.Least.{Comes, by_all, by_one, AreThoseThatCome, AreMarksOfThose}
use Rattle.fixpoint.specs.NumberMarks.{AreMarksOf}
use Rattle.fixpoint.proofs.TimesLemmas.{taken_cases}
use Rattle.fixpoint.proofs.AtLemmas.{at_some, take_at}

taken_in : (i m : ℕ) (order : List ℕ) → Contains (take i order) m → Contains order m
taken_in i m order h = let at = get_in (take i order) m h in
    let t = take_at i order at.0 m at.1 in in_get order at.0 m t.1

module _ (needs : List Demand) (order : List ℕ) (d : IsDerived needs order) where
  by_need : (i n : ℕ) (need : Demand) → slice_get needs n ≡ Some need → IsMet (take i order) need →
      ((m : ℕ) → Contains (take i order) m → Comes needs m) → Comes needs n
  by_need i n (All row) at met old = by_all at (λ m h. old m (met m h))
  by_need i n (One row) at met old = by_one at met.1 (old met.0 met.2)

  comes_to : (i m : ℕ) → Contains (take i order) m → Comes needs m
  comes_to zero m h = absurd (none_of m h)
  comes_to (suc i) m h =
      let old = comes_to i in
      ⊎_elim
      (λ before. old m before)
      (λ at. let need = at_some needs m (d.within m (in_all i m h)) in
      by_need i m need.0 need.1 (d.earned i m need.0 at need.1) old)
      (taken_cases order i m h)
    where
      in_all : (i m : ℕ) → Contains (take (suc i) order) m → Contains order m
      in_all i m h = taken_in (suc i) m order h

  comes_contained : {n : ℕ} → Comes needs n → Contains order n
  comes_contained (by_all {n = n} {row = row} at all) = d.closed n (All row) at (λ m h. comes_contained (all m h))
  comes_contained (by_one {n = n} {m = m} {row = row} at h c) = d.closed n (One row) at (m, h, comes_contained c)

  pub those_that_come : AreThoseThatCome needs order
  those_that_come = λ n. (
    λ h. comes_to (length order) n (rw (take_all (length order) order (omega arith)) h),
    λ c. comes_contained c,
  )

  pub marks_of_those : (marks : List Bool) → AreMarksOf order marks → AreMarksOfThose needs marks
  marks_of_those marks of = λ n. (λ h. (those_that_come n).0 (of.only n h), λ c. of.all n ((those_that_come n).1 c))
