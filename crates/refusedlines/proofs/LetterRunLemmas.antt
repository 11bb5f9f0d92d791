-- Runs that are apart, and their letters.
-- Serves: merge_runs, runs_are_one
use Rattle.std.proofs.Common.{◌≡◌, ◌⊎◌, inl, inr, ◌↔◌, ℕ, zero, suc, ◌+◌, ◌<◌, ◌≤◌, max, List, [], ◌∷◌, ◌++◌, refl, sym}
use Rattle.std.proofs.Common.{subst, arith}
use Rattle.std.proofs.Common.{⊎_elim, Contains, get_or, take, length, All, length-append}
use Rattle.std.proofs.Math.Nat.{le_refl}
use Rattle.std.proofs.Math.Seq.{get_or-append_seam}
use Rattle.std.proofs.lemmas.List.{get_or_append_left, get_or_default, take_more}
use Rattle.std.specs.List.Sorted.{IsNonDecreasingBy, IsPermutation}
use Rattle.std.proofs.lemmas.Bool.{cases_lt}
use Rattle.std.proofs.lemmas.List.Elements.{All-append, All-cons, All-nil}
use Rattle.std.proofs.lemmas.List.Sorted.{Contains-permutation}
use Rattle.refusedlines.specs.LetterRuns.{AreApartFrom, IsSomeRun, RunHas, RunsHave}
use Rattle.refusedlines.specs.declared.letterruns.run.LetterRun.{LetterRun}

-- a number of runs is one of a run among them
have_contained : (runs : List LetterRun) (c : ℕ) → RunsHave runs c
    → (r : LetterRun) × Contains runs r × RunHas r c
have_contained [] c h = elim h [ ]
have_contained (r ∷ runs) c (inl h) = (r, (0, omega arith, refl), h)
have_contained (r ∷ runs) c (inr h) =
    let rest = have_contained runs c h in
    (rest.0, (suc rest.1.0, (let lt = rest.1.1 in omega arith), rest.1.2), rest.2)

contained_have : (runs : List LetterRun) (c : ℕ) (r : LetterRun) (k : ℕ) → k < length runs → get_or runs k r ≡ r
    → RunHas r c → RunsHave runs c
contained_have [] c r k lt is h = absurd (omega arith)
contained_have (s ∷ runs) c r zero lt is h = inl (subst (λ v. RunHas v c) (sym is) h)
contained_have (s ∷ runs) c r (suc k) lt is h = inr (contained_have runs c r k (omega arith) is h)

-- the same runs in another order
pub permutation_has : (runs others : List LetterRun) → IsPermutation runs others → (c : ℕ) → RunsHave runs c
    → RunsHave others c
permutation_has runs others p c h =
    let found = have_contained runs c h in
    let there = Contains-permutation runs others found.0 p found.1 in
    contained_have others c found.0 there.0 there.1 there.2 found.2

has_append : (runs others : List LetterRun) (c : ℕ) → RunsHave (runs ++ others) c → RunsHave runs c ⊎ RunsHave others c
has_append [] others c h = inr h
has_append (r ∷ runs) others c (inl h) = inl (inl h)
has_append (r ∷ runs) others c (inr h) = ⊎_elim (λ g. inl (inr g)) (λ g. inr g) (has_append runs others c h)

has_left : (runs others : List LetterRun) (c : ℕ) → RunsHave runs c → RunsHave (runs ++ others) c
has_left [] others c h = elim h [ ]
has_left (r ∷ runs) others c (inl h) = inl h
has_left (r ∷ runs) others c (inr h) = inr (has_left runs others c h)

has_right : (runs others : List LetterRun) (c : ℕ) → RunsHave others c → RunsHave (runs ++ others) c
has_right [] others c h = h
has_right (r ∷ runs) others c h = inr (has_right runs others c h)

pub append_has : (runs others : List LetterRun) (c : ℕ) → RunsHave (runs ++ others) c
    ↔ (RunsHave runs c ⊎ RunsHave others c)
append_has runs others c = (has_append runs others c, ⊎_elim (has_left runs others c) (has_right runs others c))

-- runs that are apart, the last of them from what begins at m
abbrev pub AreApartTo : ℕ → List LetterRun → ℕ → Type 0
AreApartTo n [] m = n ≤ m
AreApartTo n (run ∷ runs) m = (n ≤ run.first) × IsSomeRun run × AreApartTo (run.last + 2) runs m

pub apart_before : (n : ℕ) (runs : List LetterRun) (last : LetterRun) → AreApartFrom n (runs ++ last ∷ [])
    → AreApartTo n runs last.first × IsSomeRun last
apart_before n [] last h = (h.0, h.1)
apart_before n (r ∷ runs) last h =
    let rest = apart_before (r.last + 2) runs last h.2 in
    ((h.0, h.1, rest.0), rest.1)

pub apart_push : (n : ℕ) (runs : List LetterRun) (m : ℕ) (last : LetterRun) → AreApartTo n runs m → m ≤ last.first
    → IsSomeRun last → AreApartFrom n (runs ++ last ∷ [])
apart_push n [] m last h le some = (omega arith, some, tt)
apart_push n (r ∷ runs) m last h le some = (h.0, h.1, apart_push (r.last + 2) runs m last h.2 le some)

pub apart_further : (n : ℕ) (runs : List LetterRun) (m : ℕ) (last : LetterRun) (k : ℕ) → AreApartTo n runs m
    → m ≤ last.first → IsSomeRun last → last.last + 2 ≤ k → AreApartTo n (runs ++ last ∷ []) k
apart_further n [] m last k h le some far = (omega arith, some, far)
apart_further n (r ∷ runs) m last k h le some far =
    (h.0, h.1, apart_further (r.last + 2) runs m last k h.2 le some far)

-- no number before the first
have_after : (n : ℕ) (runs : List LetterRun) (c : ℕ) → AreApartFrom n runs → RunsHave runs c → n ≤ c
have_after n [] c a h = elim h [ ]
have_after n (r ∷ runs) c a (inl h) = let le = a.0 in let lo = h.0 in omega arith
have_after n (r ∷ runs) c a (inr h) =
    let rest = have_after (r.last + 2) runs c a.2 h in let le = a.0 in let some = a.1 in omega arith

-- a run put after those that are apart from it
module _ (old front : List LetterRun) (last run : LetterRun) (is : old ≡ front ++ last ∷ [])
    (apart : AreApartFrom 0 old) (before : All (λ r. r.first ≤ run.first) old) (some : IsSomeRun run) where
  abbrev parts : AreApartTo 0 front last.first × IsSomeRun last
  parts = apart_before 0 front last (subst (λ v. AreApartFrom 0 v) is apart)

  front_before : All (λ r. r.first ≤ run.first) front
  front_before = λ k d lt.
      let size = length-append front (last ∷ []) in
      let h = subst (λ v. All (λ r. r.first ≤ run.first) v) is before k d (omega arith) in
      subst (λ v. v.first ≤ run.first) (get_or_append_left front (last ∷ []) d k lt) h

  last_before : last.first ≤ run.first
  last_before =
      let size = length-append front (last ∷ []) in
      let h = subst (λ v. All (λ r. r.first ≤ run.first) v) is before (length front) last (omega arith) in
      subst (λ v. v.first ≤ run.first) (get_or-append_seam front last [] last) h

  -- .. further away
  module _ (new : List LetterRun) (are : new ≡ (front ++ last ∷ []) ++ run ∷ []) (far : last.last + 1 < run.first) where
    pub put_apart : AreApartFrom 0 new
    put_apart = subst (λ v. AreApartFrom 0 v) (sym are)
        (apart_push 0 (front ++ last ∷ []) run.first run
        (apart_further 0 front last.first last run.first parts.0 (omega arith) parts.1 (omega arith)) (omega arith)
        some)

  -- .. as one with the last
  module _ (new : List LetterRun) (joined : LetterRun) (are : new ≡ front ++ joined ∷ [])
      (first_is : joined.first ≡ last.first) (last_is : joined.last ≡ max last.last run.last)
      (near : run.first ≤ last.last + 1) where
    pub join_apart : AreApartFrom 0 new
    join_apart = let some_last = parts.1 in subst (λ v. AreApartFrom 0 v) (sym are)
        (apart_push 0 front last.first joined parts.0 (omega arith) (omega arith))

    pub join_before : All (λ r. r.first ≤ run.first) new
    join_before = let le = last_before in subst (λ v. All (λ r. r.first ≤ run.first) v) (sym are)
        (All-append (λ r. r.first ≤ run.first) front (joined ∷ []) front_before
        (All-cons (λ r. r.first ≤ run.first) joined [] (omega arith) (All-nil (λ r. r.first ≤ run.first))))

    joined_has : (c : ℕ) → RunHas joined c ↔ (RunHas last c ⊎ RunHas run c)
    joined_has c = (to, from)
      where
        to : RunHas joined c → RunHas last c ⊎ RunHas run c
        to h = by (cases_lt last.last c)
          where
            by : (last.last < c) ⊎ (c ≤ last.last) → RunHas last c ⊎ RunHas run c
            by (inl after) = let hi = h.1 in inr (omega arith, omega arith)
            by (inr within) = let lo = h.0 in inl (omega arith, within)

        from : RunHas last c ⊎ RunHas run c → RunHas joined c
        from (inl h) = let lo = h.0 in let hi = h.1 in (omega arith, omega arith)
        from (inr h) = let lo = h.0 in let hi = h.1 in let le = last_before in (omega arith, omega arith)

    pub join_same : (c : ℕ) → RunsHave new c ↔ (RunsHave old c ⊎ RunHas run c)
    join_same c = (to, from)
      where
        last_of : (r : LetterRun) → RunsHave (r ∷ []) c → RunHas r c
        last_of r (inl h) = h
        last_of r (inr h) = elim h [ ]

        olds : RunsHave old c → RunsHave front c ⊎ RunsHave (last ∷ []) c
        olds h = (append_has front (last ∷ []) c).0 (subst (λ v. RunsHave v c) is h)

        old_from : RunsHave front c ⊎ RunsHave (last ∷ []) c → RunsHave old c
        old_from h = subst (λ v. RunsHave v c) (sym is) ((append_has front (last ∷ []) c).1 h)

        new_from : RunsHave front c ⊎ RunsHave (joined ∷ []) c → RunsHave new c
        new_from h = subst (λ v. RunsHave v c) (sym are) ((append_has front (joined ∷ []) c).1 h)

        to : RunsHave new c → RunsHave old c ⊎ RunHas run c
        to h = by ((append_has front (joined ∷ []) c).0 (subst (λ v. RunsHave v c) are h))
          where
            either : RunHas last c ⊎ RunHas run c → RunsHave old c ⊎ RunHas run c
            either (inl g) = inl (old_from (inr (inl g)))
            either (inr g) = inr g

            by : RunsHave front c ⊎ RunsHave (joined ∷ []) c → RunsHave old c ⊎ RunHas run c
            by (inl g) = inl (old_from (inl g))
            by (inr g) = either ((joined_has c).0 (last_of joined g))

        from : RunsHave old c ⊎ RunHas run c → RunsHave new c
        from (inl h) = by (olds h)
          where
            by : RunsHave front c ⊎ RunsHave (last ∷ []) c → RunsHave new c
            by (inl g) = new_from (inl g)
            by (inr g) = new_from (inr (inl ((joined_has c).1 (inl (last_of last g)))))
        from (inr h) = new_from (inr (inl ((joined_has c).1 (inr h))))

pub put_same : (old new : List LetterRun) (run : LetterRun) → new ≡ old ++ run ∷ [] → (c : ℕ)
    → RunsHave new c ↔ (RunsHave old c ⊎ RunHas run c)
put_same old new run are c = (to, from)
  where
    to : RunsHave new c → RunsHave old c ⊎ RunHas run c
    to h = by ((append_has old (run ∷ []) c).0 (subst (λ v. RunsHave v c) are h))
      where
        by : RunsHave old c ⊎ RunsHave (run ∷ []) c → RunsHave old c ⊎ RunHas run c
        by (inl g) = inl g
        by (inr (inl g)) = inr g
        by (inr (inr g)) = elim g [ ]

    from : RunsHave old c ⊎ RunHas run c → RunsHave new c
    from (inl h) = subst (λ v. RunsHave v c) (sym are) ((append_has old (run ∷ []) c).1 (inl h))
    from (inr h) = subst (λ v. RunsHave v c) (sym are) ((append_has old (run ∷ []) c).1 (inr (inl h)))

-- the first run of one list begins no later than that of another with the same letters
begins_by : (n : ℕ) (r s : LetterRun) (runs others : List LetterRun) → AreApartFrom n (r ∷ runs)
    → AreApartFrom n (s ∷ others) → ((c : ℕ) → RunsHave (s ∷ others) c → RunsHave (r ∷ runs) c) → r.first ≤ s.first
begins_by n r s runs others a b same =
    have_after r.first (r ∷ runs) s.first (le_refl r.first, a.1, a.2) (same s.first (inl (le_refl s.first, b.1)))

-- nor does it end earlier, if it begins with it
ends_by : (n : ℕ) (r s : LetterRun) (runs others : List LetterRun) → AreApartFrom n (r ∷ runs)
    → AreApartFrom n (s ∷ others) → ((c : ℕ) → RunsHave (s ∷ others) c → RunsHave (r ∷ runs) c)
    → r.first ≡ s.first → s.last ≤ r.last
ends_by n r s runs others a b same begin = by (cases_lt r.last s.last)
  where
    some : r.first ≤ r.last
    some = a.1

    none : r.last < s.last → RunHas r (r.last + 1) ⊎ RunsHave runs (r.last + 1) → ⊥
    none lt (inl h) = let hi = h.1 in omega arith
    none lt (inr h) = let le = have_after (r.last + 2) runs (r.last + 1) a.2 h in omega arith

    by : (r.last < s.last) ⊎ (s.last ≤ r.last) → s.last ≤ r.last
    by (inl lt) = absurd (none lt (same (r.last + 1) (inl (omega arith, omega arith))))
    by (inr le) = le

-- what is not in the first run is after it
rest_same : (n : ℕ) (r s : LetterRun) (runs others : List LetterRun) → AreApartFrom n (r ∷ runs)
    → ((c : ℕ) → RunsHave (r ∷ runs) c → RunsHave (s ∷ others) c) → r.last ≡ s.last
    → (c : ℕ) → RunsHave runs c → RunsHave others c
rest_same n r s runs others a same end c h = by (same c (inr h))
  where
    by : RunHas s c ⊎ RunsHave others c → RunsHave others c
    by (inl g) = absurd (let le = have_after (r.last + 2) runs c a.2 h in let hi = g.1 in omega arith)
    by (inr g) = g

pub apart_one : (n : ℕ) (runs others : List LetterRun) → AreApartFrom n runs → AreApartFrom n others
    → ((c : ℕ) → RunsHave runs c ↔ RunsHave others c) → runs ≡ others
apart_one n [] [] a b same = refl
apart_one n [] (s ∷ others) a b same = absurd ((same s.first).1 (inl (le_refl s.first, b.1)))
apart_one n (r ∷ runs) [] a b same = absurd ((same r.first).0 (inl (le_refl r.first, a.1)))
apart_one n (r ∷ runs) (s ∷ others) a b same =
    let lo = begins_by n r s runs others a b (λ c. (same c).1) in
    let hi = begins_by n s r others runs b a (λ c. (same c).0) in
    let begin : r.first ≡ s.first = omega arith in
    let low = ends_by n r s runs others a b (λ c. (same c).1) begin in
    let high = ends_by n s r others runs b a (λ c. (same c).0) (sym begin) in
    let end : r.last ≡ s.last = omega arith in
    let one : r ≡ s = λ i. record { first = begin i; last = end i } in
    let rest = apart_one (s.last + 2) runs others (subst (λ v. AreApartFrom (v + 2) runs) end a.2) b.2
    (λ c. (
      rest_same n r s runs others a (λ d. (same d).0) end c,
      rest_same n s r others runs b (λ d. (same d).1) (sym end) c,
    )) in
    λ i. one i ∷ rest i

-- one more of some runs
pub more_runs : (runs : List LetterRun) (i : ℕ) (d : LetterRun) (c : ℕ) → i < length runs
    → RunsHave (take (i + 1) runs) c ↔ (RunsHave (take i runs) c ⊎ RunHas (get_or runs i d) c)
more_runs runs i d c lt = put_same (take i runs) (take (i + 1) runs) (get_or runs i d) (take_more runs i d lt) c

-- a loop's step
pub same_more : (runs old new : List LetterRun) (i : ℕ) (d : LetterRun) → i < length runs
    → ((c : ℕ) → RunsHave old c ↔ RunsHave (take i runs) c)
    → ((c : ℕ) → RunsHave new c ↔ (RunsHave old c ⊎ RunHas (get_or runs i d) c))
    → (c : ℕ) → RunsHave new c ↔ RunsHave (take (i + 1) runs) c
same_more runs old new i d lt before step c = (
  λ h. (more_runs runs i d c lt).1 (⊎_elim (λ g. inl ((before c).0 g)) (λ g. inr g) ((step c).0 h)),
  λ h. (step c).1 (⊎_elim (λ g. inl ((before c).1 g)) (λ g. inr g) ((more_runs runs i d c lt).0 h)),
)

pub before_more : (sorted items new : List LetterRun) (i : ℕ) (e : LetterRun) → items ≡ sorted
    → IsNonDecreasingBy (λ (r : LetterRun). r.first) sorted → i < length items
    → All (λ r. r.first ≤ (get_or items i e).first) new → (k : ℕ) (d : LetterRun) → i + 1 ≤ k → k < length items
    → All (λ r. r.first ≤ (get_or items k d).first) new
before_more sorted items new i e same up lt all k d past within = λ j c there.
    let one = all j c there in
    let risen = subst (λ v. IsNonDecreasingBy (λ (r : LetterRun). r.first) v) (sym same) up i k e (omega arith)
    within in
    let default = get_or_default items k e d within in
    let far = subst (λ (v : LetterRun). (get_or items i e).first ≤ v.first) default risen in
    omega arith
