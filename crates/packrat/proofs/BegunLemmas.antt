-- No more evaluations are begun than there are cells of all visited ones, nor than nodes at positions.
-- Serves: steps_hold, Packrat::match_unit
use Rattle.std.proofs.Common.{◌≡◌, inl, inr, ℕ, ◌+◌, ◌*◌, ◌≤◌, Bool, true, false, if◌then◌else◌, List, [], ◌∷◌}
use Rattle.std.proofs.Common.{length, Some, None, Option, refl, sym, subst, arith}
use Rattle.std.specs.Prelude.{slice_get}
use Rattle.pegread.specs.Pattern.{Rule}
use Rattle.pegnodes.specs.Nodes.{Shape}
use Rattle.gramcheck.specs.Sound.{IsRanked}
use Rattle.memo.specs.declared.found.Found.{Found}
use Rattle.memo.specs.Entries.{Entry, found_at, AreDifferent}
use Rattle.memo.specs.declared.found.Found.TheVariants.{Failed}
use Rattle.memo.proofs.FoundAtLemmas.{is_of, is_own}
use Rattle.pegmatch.proofs.AsksLemmas.{visited_there}
use Rattle.pegmatch.proofs.CodeLemmas.{cells_at_most}
use Rattle.pegmatch.specs.VisitedCells.{AreVisitedCells}
use Rattle.pegnodes.specs.KeyMarks.{AreMarks}
use Rattle.memo.specs.Parts.{IsIn, in_here, in_later, Distinct, distinct_none, distinct_more, Reach}
use Rattle.memo.specs.Run.{total}
use Rattle.memo.specs.declared.task.MatchTask.{MatchTask}
use Rattle.memo.specs.declared.task.MatchTask.TheVariants.{Eval, Tail}
use Rattle.packrat.specs.MatchTasks.{Leads, Kids, is_key}
use Rattle.packrat.specs.View.{weight, IsVisitedEval, AreVisitedEvals}
use Rattle.packrat.proofs.EndsLemmas.{reached_ends}
use Rattle.packrat.proofs.TaskReachLemmas.{reached_is_visited}
use Rattle.packrat.proofs.SameCellsLemmas.{no_more}
use Rattle.packrat.specs.MachineSteps.{State, held, start_at, IsGood}
use Rattle.packrat.specs.TaskSteps.{NextOf, TaskSteps}
use Rattle.packrat.proofs.GoodLemmas.{in_front, not_in, steps_are_good}
use Rattle.packrat.proofs.NextOfLemmas.{is_next, forest_of}

abbrev evals : List MatchTask → List MatchTask
evals [] = []
evals (Eval n p ∷ xs) = Eval n p ∷ evals xs
evals (Tail n i p ∷ xs) = evals xs

record IsEval (a : MatchTask) (xs : List MatchTask) : Type 0 where
  pub node : ℕ
  pub position : ℕ
  pub is : a ≡ Eval node position
  pub there : IsIn (Eval node position) xs

eval_later : {a b : MatchTask} {xs : List MatchTask} → IsEval a xs → IsEval a (b ∷ xs)
eval_later h = record { node = h.node; position = h.position; is = h.is; there = in_later h.there }

is_eval : (xs : List MatchTask) (a : MatchTask) → IsIn a (evals xs) → IsEval a xs
is_eval [] a i = absurd (not_in i)
is_eval (Eval n p ∷ xs) a i = elim (in_front i) [
  | inl is ↦ record { node = n; position = p; is = is; there = in_here }
  | inr j ↦ eval_later (is_eval xs a j)
]
is_eval (Tail n k p ∷ xs) a i = eval_later (is_eval xs a i)

evals_distinct : {xs : List MatchTask} → Distinct xs → Distinct (evals xs)
evals_distinct distinct_none = distinct_none
evals_distinct (distinct_more {a = Eval n p} {xs = xs} f d) =
    distinct_more (λ i. let h = is_eval xs (Eval n p) i in f (subst (λ v. IsIn v xs) (sym h.is) h.there))
    (evals_distinct d)
evals_distinct (distinct_more {a = Tail n i p} f d) = evals_distinct d

eval_among : (n p : ℕ) (xs : List MatchTask) → IsIn (Eval n p) xs → IsIn (Eval n p) (evals xs)
eval_among n p [] i = absurd (not_in i)
eval_among n p (Eval m q ∷ xs) i = elim (in_front i) [
  | inl is ↦ subst (λ v. IsIn v (Eval m q ∷ evals xs)) (sym is) in_here
  | inr j ↦ in_later (eval_among n p xs j)
]
eval_among n p (Tail m k q ∷ xs) i = elim (in_front i) [
  | inl is ↦ absurd (cc is)
  | inr j ↦ eval_among n p xs j
]

-- a cell for each evaluation among tasks, whatever it holds
abbrev cells_for : List MatchTask → List Entry
cells_for [] = []
cells_for (Eval n p ∷ xs) = record { node = n; position = p; found = Failed } ∷ cells_for xs
cells_for (Tail n i p ∷ xs) = cells_for xs

for_among : (n p : ℕ) (f : Found) (xs : List MatchTask) → found_at (cells_for xs) n p ≡ Some f → IsIn (Eval n p) xs
for_among n p f [] h = absurd (cc h)
for_among n p f (Eval m q ∷ xs) h = by (is_of (record { node = m; position = q; found = Failed }) n p) refl h
    (λ k. for_among n p f xs k)
  where
    by : (v : Bool) → is_of (record { node = m; position = q; found = Failed }) n p ≡ v
        → (if v then Some Failed else found_at (cells_for xs) n p) ≡ Some f
        → (found_at (cells_for xs) n p ≡ Some f → IsIn (Eval n p) xs) → IsIn (Eval n p) (Eval m q ∷ xs)
    by true same is rec =
        let both = is_own (record { node = m; position = q; found = Failed }) n p same in
        let one : m ≡ n = both.0 in
        let two : q ≡ p = both.1 in
        subst (λ v. IsIn (Eval v p) (Eval m q ∷ xs)) one (subst (λ v. IsIn (Eval m v) (Eval m q ∷ xs)) two in_here)
    by false same is rec = in_later (rec is)
for_among n p f (Tail m i q ∷ xs) h = in_later (for_among n p f xs h)

for_none : (n p : ℕ) (xs : List MatchTask) → (IsIn (Eval n p) xs → ⊥) → found_at (cells_for xs) n p ≡ None
for_none n p xs not = by (found_at (cells_for xs) n p) refl
  where
    by : (v : Option Found) → found_at (cells_for xs) n p ≡ v → v ≡ None
    by None is = refl
    by (Some f) is = absurd (not (for_among n p f xs is))

for_different : {xs : List MatchTask} → Distinct xs → AreDifferent (cells_for xs)
for_different distinct_none = tt
for_different (distinct_more {a = Eval n p} {xs = xs} fresh d) = (for_none n p xs fresh, for_different d)
for_different (distinct_more {a = Tail n i p} fresh d) = for_different d

module _ (rules : List Rule) (start : ℕ) (nodes : List Shape) (bodies ranks x : List ℕ) (more : Bool)
    (sound : IsRanked rules start nodes bodies ranks) (root : ℕ) (is_root : slice_get bodies start ≡ Some root)
    (marks : ℕ → Bool) (tails : ℕ → ℕ → Bool) (are : AreMarks start nodes bodies marks tails) where
  abbrev T : List MatchTask → ℕ
  T xs = total MatchTask (Kids rules nodes bodies x) (is_key marks tails) weight xs

  evals_length : (xs : List MatchTask) → length (evals xs) ≡ T xs
  evals_length [] = refl
  evals_length (Eval n p ∷ xs) = let h = evals_length xs in omega (arith, h)
  evals_length (Tail n i p ∷ xs) = let h = evals_length xs in omega (arith, h)

  for_length : (ps : List MatchTask) → ((a : MatchTask) → IsIn a ps → IsVisitedEval rules start nodes bodies x more a)
      → length (cells_for ps) ≡ length ps
  for_length [] v = refl
  for_length (Eval n p ∷ ps) v = let h = for_length ps (λ a i. v a (in_later i)) in omega (arith, h)
  for_length (Tail n i p ∷ ps) v = absurd (v (Tail n i p) in_here)

  -- visited evaluations at positions up to k are no more than nodes at those
  pub visited_few : (ps : List MatchTask) (k : ℕ) → AreVisitedEvals rules start nodes bodies x more ps
      → ((n p : ℕ) → IsIn (Eval n p) ps → p ≤ k) → length ps ≤ length nodes * (k + 1)
  visited_few ps k v low =
      let most = cells_at_most (cells_for ps) (length nodes) k (for_different v.once)
      (λ m q h.
      let i = for_among m q h.0 ps h.1 in
      ((visited_there rules start nodes bodies ranks x sound m q (v.visited (Eval m q) i)).0, low m q i)) in
      let same = for_length ps v.visited in
      omega (arith, most, same)

  -- the evaluations among what is begun
  pub record HasEvals (begun : List MatchTask) : Type 0 where
    pub evals : List MatchTask
    pub visited : AreVisitedEvals rules start nodes bodies x more evals
    pub count : length evals ≡ T begun
    pub among : (n p : ℕ) → IsIn (Eval n p) begun → IsIn (Eval n p) evals
    pub only : (n p : ℕ) → IsIn (Eval n p) evals → IsIn (Eval n p) begun

  pub evals_begun : (begun : List MatchTask) → Distinct begun
      → ((a : MatchTask) → IsIn a begun → Reach MatchTask (Leads rules nodes bodies x) (Eval root 0) a) → HasEvals begun
  evals_begun begun once reached = record {
    evals = evals begun;
    visited = record {
      visited = λ a i.
          let h = is_eval begun a i in
          subst (IsVisitedEval rules start nodes bodies x more) (sym h.is)
          (reached_is_visited rules start nodes bodies x root is_root h.node h.position
          (reached (Eval h.node h.position) h.there));
      once = evals_distinct once;
    };
    count = evals_length begun;
    among = λ n p i. eval_among n p begun i;
    only = λ n p i.
        let h = is_eval begun (Eval n p) i in
        subst (λ v. IsIn v begun) (sym h.is) h.there;
  }

  module _ (s : State MatchTask)
      (steps : TaskSteps rules nodes bodies x marks tails (start_at MatchTask (Eval root 0)) s) where
    pub held_good : IsGood MatchTask (Leads rules nodes bodies x) (Eval root 0) (is_key marks tails) (held MatchTask s)
    held_good = steps_are_good MatchTask (Leads rules nodes bodies x) (Eval root 0) (Kids rules nodes bodies x)
        (NextOf rules nodes bodies x) (is_key marks tails)
        (forest_of rules start nodes bodies ranks x more sound root is_root marks tails are)
        (is_next rules start nodes bodies ranks x more sound root is_root marks tails are)
        (λ a r. reached_ends rules start nodes bodies ranks x sound root is_root r) s steps

    held_evals : HasEvals (held MatchTask s).begun
    held_evals = evals_begun (held MatchTask s).begun held_good.once held_good.reached

    -- no evaluation stands beyond the window
    held_within : (n p : ℕ) → IsIn (Eval n p) held_evals.evals → p ≤ length x
    held_within n p i =
        (visited_there rules start nodes bodies ranks x sound n p (held_evals.visited.visited (Eval n p) i)).1

    -- no more are begun than nodes at positions
    pub begun_at_positions : T (held MatchTask s).begun ≤ length nodes * (length x + 1)
    begun_at_positions =
        let most = visited_few held_evals.evals (length x) held_evals.visited held_within in
        let same = held_evals.count in
        omega (arith, most, same)

    -- no more are begun than cells of all visited ones
    pub begun_in_cells : (cells : List Entry) → AreVisitedCells rules start nodes bodies x more cells
        → T (held MatchTask s).begun ≤ length cells
    begun_in_cells cells every =
        let h = held_evals in
        let most = no_more (cells_for h.evals) cells (length x) (for_different h.visited.once)
        (λ n p c. held_within n p (for_among n p c.0 h.evals c.1))
        (λ n p c. every.whole n p (h.visited.visited (Eval n p) (for_among n p c.0 h.evals c.1))) in
        let one = for_length h.evals h.visited.visited in
        let two = h.count in
        omega (arith, most, one, two)
