-- An evaluation from nothing stores the keys that are reached, and has begun as many evaluations as they imply.
-- Serves: evaluated_once, implied_cells
use Rattle.std.proofs.Common.{◌≡◌, ℕ, ◌≤◌, Bool, List, [], ◌∷◌, length, Some}
use Rattle.std.proofs.Common.{refl, arith}
use Rattle.std.specs.Prelude.{slice_get}
use Rattle.pegread.specs.Pattern.{Rule}
use Rattle.pegnodes.specs.Nodes.{Shape}
use Rattle.gramcheck.specs.Outcome.{Outcome, Fails, Takes}
use Rattle.gramcheck.specs.Sound.{IsRanked}
use Rattle.memo.specs.declared.found.Found.{Found}
use Rattle.memo.specs.declared.found.Found.TheVariants.{Failed, Took}
use Rattle.memo.specs.Entries.{Entry}
use Rattle.pegmatch.specs.Answers.{WasEnough}
use Rattle.pegmatch.specs.CellOutcomes.{IsFound}
use Rattle.pegmatch.specs.Visits.{NodeGives}
use Rattle.pegmatch.proofs.VisitsLemmas.{visits_within}
use Rattle.pegnodes.specs.KeyMarks.{AreMarks}
use Rattle.memo.specs.Parts.{IsIn, in_here, in_later, distinct_none, Reach, reach_root}
use Rattle.memo.specs.Run.{total}
use Rattle.memo.specs.declared.task.MatchTask.{MatchTask}
use Rattle.memo.specs.declared.task.MatchTask.TheVariants.{Eval, Tail}
use Rattle.packrat.specs.MatchTasks.{Leads, Kids, is_key}
use Rattle.packrat.specs.View.{weight, CellsOf, cells_none, cells_rest, cells_eval, AreImplied, AreStored}
use Rattle.packrat.specs.View.{Evaluates, AreBegun}
use Rattle.packrat.proofs.AreImpliedLemmas.{is_forest, implied_are_all}
use Rattle.packrat.proofs.EndsLemmas.{reached_ends}
use Rattle.memo.proofs.PartsLemmas.{whole_reached}
use Rattle.packrat.proofs.TaskReachLemmas.{reached_is_visited}
use Rattle.memo.proofs.RunLemmas.{stays_distinct, stays_reached, run_done, all_stored, run_weighed}

module _ (rules : List Rule) (start : ℕ) (nodes : List Shape) (bodies ranks x : List ℕ) (more : Bool)
    (sound : IsRanked rules start nodes bodies ranks) (root : ℕ) (is_root : slice_get bodies start ≡ Some root)
    (marks : ℕ → Bool) (tails : ℕ → ℕ → Bool) (are : AreMarks start nodes bodies marks tails) where
  abbrev R : MatchTask → Type 0
  R a = Reach MatchTask (Leads rules nodes bodies x) (Eval root 0) a

  abbrev S : List MatchTask → Type 0
  S stored = AreStored rules start nodes bodies x more marks tails root stored

  abbrev Ev : List MatchTask → ℕ → Type 0
  Ev stored begun = Evaluates rules start nodes bodies x more marks tails root stored begun

  nothing_in : {V : Type 0} {a : V} → IsIn a [] → ⊥
  nothing_in i = elim i [ ]

  pub evaluated_stores : (stored : List MatchTask) (begun : ℕ) → Ev stored begun → S stored
  evaluated_stores stored begun run =
      let forest = is_forest rules start nodes bodies ranks x more sound root is_root marks tails are in
      let reached = stays_reached MatchTask (Leads rules nodes bodies x) (Eval root 0) (Kids rules nodes bodies x)
      (is_key marks tails) weight forest run reach_root (λ a i. absurd (nothing_in i)) in
      let d = run_done MatchTask (Leads rules nodes bodies x) (Eval root 0) (Kids rules nodes bodies x)
      (is_key marks tails) weight forest run (λ a i. absurd (nothing_in i)) in
      record {
        reached = λ a i. (reached a i).0;
        keys = λ a i. (reached a i).1;
        all = λ a r t. all_stored MatchTask (Leads rules nodes bodies x) (Eval root 0) (Kids rules nodes bodies x)
            (is_key marks tails) weight forest r d.all (d.stored (are.root root is_root)) t;
        once = stays_distinct MatchTask (Leads rules nodes bodies x) (Eval root 0) (Kids rules nodes bodies x)
            (is_key marks tails) weight forest
            (λ a r. reached_ends rules start nodes bodies ranks x sound root is_root r) run reach_root distinct_none;
      }

  module _ (o : Outcome) (k : ℕ) (d : NodeGives rules nodes bodies x root 0 o k) (enough : WasEnough x more k) where
    -- each reached evaluation has an outcome, for which the window is long enough
    pub record HasFound (n p : ℕ) : Type 0 where
      pub f : Found
      pub found : IsFound rules start nodes bodies x more n p f

    found_of : (n p j : ℕ) (c : Outcome) → j ≤ k → NodeGives rules nodes bodies x n p c j → HasFound n p
    found_of n p j Fails le g =
        record {
          f = Failed;
          found = record {
            events = [];
            looked = j;
            gives = g;
            enough = λ is. let h = enough is in omega (arith, h, le);
          };
        }
    found_of n p j (Takes q es) le g =
        record {
          f = Took q;
          found = record {
            events = es;
            looked = j;
            gives = g;
            enough = λ is. let h = enough is in omega (arith, h, le);
          };
        }

    pub has_found : (n p : ℕ) → R (Eval n p) → HasFound n p
    has_found n p r =
        let v = reached_is_visited rules start nodes bodies x root is_root n p r in
        let w = visits_within rules start nodes bodies ranks x sound v root k o is_root d in
        found_of n p w.looked w.outcome w.less w.gives

    pub record HasCells (tasks : List MatchTask) : Type 0 where
      pub cells : List Entry
      pub of_tasks : CellsOf rules start nodes bodies x more tasks cells
      pub count : length cells ≡ total MatchTask (Kids rules nodes bodies x) (is_key marks tails) weight tasks

    pub has_cells : (tasks : List MatchTask) → ((a : MatchTask) → IsIn a tasks → R a) → HasCells tasks
    has_cells [] r = record { cells = []; of_tasks = cells_none; count = refl }
    has_cells (Eval n p ∷ tasks) r =
        let h = has_cells tasks (λ a i. r a (in_later i)) in
        let f = has_found n p (r (Eval n p) in_here) in
        let is = h.count in
        record {
          cells = record { node = n; position = p; found = f.f } ∷ h.cells;
          of_tasks = cells_eval f.found h.of_tasks;
          count = omega (arith, is);
        }
    has_cells (Tail n i p ∷ tasks) r =
        let h = has_cells tasks (λ a i. r a (in_later i)) in
        let is = h.count in
        record { cells = h.cells; of_tasks = cells_rest h.of_tasks; count = omega (arith, is) }

    pub evaluated_begins : (stored : List MatchTask) (begun : ℕ) → Ev stored begun
        → AreBegun rules start nodes bodies x more marks tails stored begun
    evaluated_begins stored begun run =
        let forest = is_forest rules start nodes bodies ranks x more sound root is_root marks tails are in
        let s = evaluated_stores stored begun run in
        let w = run_weighed MatchTask (Leads rules nodes bodies x) (Eval root 0) (Kids rules nodes bodies x)
        (is_key marks tails) weight forest run (are.root root is_root) in
        let c = has_cells w.tasks (λ a i. whole_reached MatchTask (Leads rules nodes bodies x) (Eval root 0)
        (Kids rules nodes bodies x) (is_key marks tails) forest w.whole s.reached i) in
        let implied : AreImplied rules start nodes bodies x more marks tails stored c.cells =
        record { tasks = w.tasks; whole = w.whole; cells_of = c.of_tasks } in
        let one = c.count in
        let two = w.count in
        record {
          cells = c.cells;
          implied = implied;
          count = omega (arith, one, two);
          every = implied_are_all rules start nodes bodies ranks x more sound root is_root marks tails are stored
              c.cells
              s implied;
        }
