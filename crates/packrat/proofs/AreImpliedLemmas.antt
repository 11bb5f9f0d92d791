-- The cells that the stored keys imply are exactly the visited evaluations with their outcomes.
-- Serves: implied_cells
use Rattle.std.proofs.Common.{◌≡◌, ◌⊎◌, inl, inr, ℕ, Bool, true, false, if◌then◌else◌, List, ◌∷◌}
use Rattle.std.proofs.Common.{Some, None}
use Rattle.std.proofs.Common.{Option, refl, subst}
use Rattle.std.specs.Prelude.{slice_get}
use Rattle.pegread.specs.Pattern.{Rule}
use Rattle.pegnodes.specs.Nodes.{Shape}
use Rattle.gramcheck.specs.Sound.{IsRanked}
use Rattle.memo.specs.declared.found.Found.{Found}
use Rattle.memo.specs.Entries.{Entry, found_at, AreDifferent}
use Rattle.memo.proofs.FoundAtLemmas.{is_of, is_own, is_of_own}
use Rattle.pegmatch.specs.CellOutcomes.{IsFound, HasCell}
use Rattle.pegmatch.proofs.AsksLemmas.{is_visited}
use Rattle.pegnodes.specs.KeyMarks.{AreMarks}
use Rattle.memo.specs.Parts.{IsIn, in_here, in_later, Distinct, distinct_more, Reach, IsForest}
use Rattle.memo.specs.declared.task.MatchTask.{MatchTask}
use Rattle.memo.specs.declared.task.MatchTask.TheVariants.{Eval, Tail}
use Rattle.packrat.specs.MatchTasks.{Leads, Kids, is_key}
use Rattle.packrat.specs.View.{CellsOf, cells_none, cells_rest, cells_eval, AreImplied, AreStored}
use Rattle.pegmatch.specs.VisitedCells.{AreVisitedCells}
use Rattle.memo.proofs.PartsLemmas.{whole_reached, reached_whole, whole_distinct}
use Rattle.packrat.proofs.TaskKidsLemmas.{kid_led_to, led_to_kid, eval_distinct, rest_distinct}
use Rattle.packrat.proofs.TaskAskersLemmas.{one_leads}
use Rattle.packrat.proofs.TaskReachLemmas.{reached_is_visited, visited_is_reached}

first_or_later : {V : Type 0} {a b : V} {l : List V} → IsIn a (b ∷ l) → (a ≡ b) ⊎ IsIn a l
first_or_later in_here = inl refl
first_or_later (in_later i) = inr i

module _ (rules : List Rule) (start : ℕ) (nodes : List Shape) (bodies x : List ℕ) (more : Bool) where
  abbrev CO : List MatchTask → List Entry → Type 0
  CO tasks cells = CellsOf rules start nodes bodies x more tasks cells

  abbrev IF : ℕ → ℕ → Found → Type 0
  IF n p f = IsFound rules start nodes bodies x more n p f

  -- a cell is of an evaluation that is there, and holds its outcome
  pub cell_in : {tasks : List MatchTask} {cells : List Entry} → CO tasks cells → (n p : ℕ) (f : Found)
      → found_at cells n p ≡ Some f → IsIn (Eval n p) tasks × IF n p f
  cell_in cells_none n p f h = absurd (cc h)
  cell_in (cells_rest c) n p f h = let i = cell_in c n p f h in (in_later i.0, i.1)
  cell_in (cells_eval {n = m} {p = q} {f = g} {tasks = tasks} {cells = cells} found c) n p f h =
      by (is_of own n p) refl h (λ k. cell_in c n p f k)
    where
      own : Entry
      own = record { node = m; position = q; found = g }

      by : (v : Bool) → is_of own n p ≡ v → (if v then Some g else found_at cells n p) ≡ Some f
          → (found_at cells n p ≡ Some f → IsIn (Eval n p) tasks × IF n p f)
          → IsIn (Eval n p) (Eval m q ∷ tasks) × IF n p f
      by true same is rec =
          let both = is_own own n p same in
          let one : m ≡ n = both.0 in
          let two : q ≡ p = both.1 in
          let three : g ≡ f = cc is in (
            subst (λ v. IsIn (Eval v p) (Eval m q ∷ tasks)) one
                (subst (λ v. IsIn (Eval m v) (Eval m q ∷ tasks)) two in_here),
            subst (λ v. IF v p f) one (subst (λ v. IF m v f) two (subst (IF m q) three found)),
          )
      by false same is rec = let i = rec is in (in_later i.0, i.1)

  -- an evaluation that is there has a cell
  pub in_cell : {tasks : List MatchTask} {cells : List Entry} → CO tasks cells → (n p : ℕ) → IsIn (Eval n p) tasks
      → HasCell cells n p
  in_cell cells_none n p i = elim i [ ]
  in_cell (cells_rest c) n p (in_later i) = in_cell c n p i
  in_cell (cells_eval {n = m} {p = q} {f = g} {tasks = tasks} {cells = cells} found c) n p i =
      by (is_of own n p) refl (first_or_later i) (λ j. in_cell c n p j)
    where
      own : Entry
      own = record { node = m; position = q; found = g }

      mine : Eval n p ≡ Eval m q → is_of own n p ≡ true
      mine is =
          let one : m ≡ n = cc is in
          let two : q ≡ p = cc is in
          subst (λ v. is_of own v p ≡ true) one (subst (λ v. is_of own m v ≡ true) two (is_of_own own))

      by : (v : Bool) → is_of own n p ≡ v → (Eval n p ≡ Eval m q) ⊎ IsIn (Eval n p) tasks
          → (IsIn (Eval n p) tasks → HasCell cells n p)
          → (f : Found) × ((if v then Some g else found_at cells n p) ≡ Some f)
      by true same is rec = (g, refl)
      by false same is rec = elim is [
        | inl e ↦ absurd (let h = mine e in cc (h, same))
        | inr j ↦ rec j
      ]

  pub cells_different : {tasks : List MatchTask} {cells : List Entry} → CO tasks cells → Distinct tasks
      → AreDifferent cells
  cells_different cells_none d = tt
  cells_different (cells_rest c) (distinct_more apart d) = cells_different c d
  cells_different (cells_eval {n = n} {p = p} {cells = cells} found c) (distinct_more apart d) =
      (by (found_at cells n p) refl, cells_different c d)
    where
      by : (v : Option Found) → found_at cells n p ≡ v → v ≡ None
      by None h = refl
      by (Some f) h = absurd (apart (cell_in c n p f h).0)

module _ (rules : List Rule) (start : ℕ) (nodes : List Shape) (bodies ranks x : List ℕ) (more : Bool)
    (sound : IsRanked rules start nodes bodies ranks) (root : ℕ) (is_root : slice_get bodies start ≡ Some root)
    (marks : ℕ → Bool) (tails : ℕ → ℕ → Bool) (are : AreMarks start nodes bodies marks tails) where
  abbrev L : MatchTask → MatchTask → Type 0
  L a b = Leads rules nodes bodies x a b

  abbrev R : MatchTask → Type 0
  R a = Reach MatchTask (Leads rules nodes bodies x) (Eval root 0) a

  task_distinct : (a : MatchTask) (ks : List MatchTask) → R a → Kids rules nodes bodies x a ks → Distinct ks
  task_distinct (Eval n p) ks r k =
      let v = is_visited rules start nodes bodies ranks x sound
      (reached_is_visited rules start nodes bodies x root is_root n p r) in
      eval_distinct rules start nodes bodies ranks x sound n p ks v.spelled k
  task_distinct (Tail n i p) ks r k = rest_distinct rules start nodes bodies ranks x sound n i p ks k

  pub is_forest : IsForest MatchTask (Leads rules nodes bodies x) (Eval root 0) (Kids rules nodes bodies x)
      (is_key marks tails)
  is_forest =
      record {
        root_key = are.root root is_root;
        leads = λ a b ks k i. kid_led_to rules start nodes bodies ranks x sound a b ks k i;
        listed = λ a b ks k l. led_to_kid rules start nodes bodies ranks x sound a b ks k l;
        distinct = λ a ks r k. task_distinct a ks r k;
        one_asker = λ a b c t r l s k. one_leads rules start nodes bodies ranks x sound root is_root marks tails are
            a b c t r l s k;
      }

  pub implied_are_all : (stored : List MatchTask) (cells : List Entry)
      → AreStored rules start nodes bodies x more marks tails root stored
      → AreImplied rules start nodes bodies x more marks tails stored cells
      → AreVisitedCells rules start nodes bodies x more cells
  implied_are_all stored cells st im =
      record {
        visited = λ n p f h. reached_is_visited rules start nodes bodies x root is_root n p
            (whole_reached MatchTask (Leads rules nodes bodies x) (Eval root 0) (Kids rules nodes bodies x)
            (is_key marks tails) is_forest im.whole st.reached
            (cell_in rules start nodes bodies x more im.cells_of n p f h).0);
        whole = λ n p v. in_cell rules start nodes bodies x more im.cells_of n p
            (reached_whole MatchTask (Leads rules nodes bodies x) (Eval root 0) (Kids rules nodes bodies x)
            (is_key marks tails) is_forest (visited_is_reached rules start nodes bodies x root is_root v) im.whole
            st.all);
        found = λ n p f h. (cell_in rules start nodes bodies x more im.cells_of n p f h).1;
        different = cells_different rules start nodes bodies x more im.cells_of
            (whole_distinct MatchTask (Leads rules nodes bodies x) (Eval root 0) (Kids rules nodes bodies x)
            (is_key marks tails) is_forest im.whole st.once (λ k i. (st.reached k i, st.keys k i)));
      }
