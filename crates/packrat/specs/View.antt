-- The cells that a few stored keys imply.
use Rattle.std.specs.Prelude.{◌≡◌, ℕ, Bool, true, List, [], ◌∷◌, length}
use Rattle.pegread.specs.Pattern.{Rule}
use Rattle.pegnodes.specs.Nodes.{Shape}
use Rattle.memo.specs.declared.found.Found.{Found}
use Rattle.memo.specs.Entries.{Entry}
use Rattle.pegmatch.specs.CellOutcomes.{IsFound}
use Rattle.pegmatch.specs.VisitedCells.{AreVisitedCells}
use Rattle.pegmatch.specs.Visits.{Visits}
use Rattle.memo.specs.Parts.{IsIn, Distinct, Reach, Whole}
use Rattle.memo.specs.Run.{Run}
use Rattle.memo.specs.declared.task.MatchTask.{MatchTask}
use Rattle.memo.specs.declared.task.MatchTask.TheVariants.{Eval, Tail}
use Rattle.packrat.specs.MatchTasks.{Leads, Kids, is_key}

-- an evaluation counts, and the rest of a node does not
abbrev pub weight : MatchTask → ℕ
weight (Eval n p) = 1
weight (Tail n i p) = 0

module _ (rules : List Rule) (start : ℕ) (nodes : List Shape) (bodies x : List ℕ) (more : Bool) where
  -- of each evaluation among tasks its cell
  pub data CellsOf : List MatchTask → List Entry → Type 0 where
    cells_none : CellsOf [] []
    cells_rest : {n i p : ℕ} {tasks : List MatchTask} {cells : List Entry} → CellsOf tasks cells
        → CellsOf (Tail n i p ∷ tasks) cells
    cells_eval : {n p : ℕ} {f : Found} {tasks : List MatchTask} {cells : List Entry}
        → IsFound rules start nodes bodies x more n p f → CellsOf tasks cells
        → CellsOf (Eval n p ∷ tasks) (record { node = n; position = p; found = f } ∷ cells)

  -- The cells that the stored keys imply: with each key all below it that is reached without passing another key.
  pub record AreImplied (marks : ℕ → Bool) (tails : ℕ → ℕ → Bool) (stored : List MatchTask)
      (cells : List Entry) : Type 0
    where
      pub tasks : List MatchTask
      pub whole : Whole MatchTask (Kids rules nodes bodies x) (is_key marks tails) stored tasks
      pub cells_of : CellsOf tasks cells

  -- Stored are keys that are reached, each once.
  pub record AreReachedKeys (marks : ℕ → Bool) (tails : ℕ → ℕ → Bool) (root : ℕ)
      (stored : List MatchTask) : Type 0 where
    pub reached : (a : MatchTask) → IsIn a stored → Reach MatchTask (Leads rules nodes bodies x) (Eval root 0) a
    pub keys : (a : MatchTask) → IsIn a stored → is_key marks tails a ≡ true
    pub once : Distinct stored

  -- Stored are exactly the keys that are reached, each once.
  pub record AreStored (marks : ℕ → Bool) (tails : ℕ → ℕ → Bool) (root : ℕ) (stored : List MatchTask) : Type 0 where
    pub reached : (a : MatchTask) → IsIn a stored → Reach MatchTask (Leads rules nodes bodies x) (Eval root 0) a
    pub keys : (a : MatchTask) → IsIn a stored → is_key marks tails a ≡ true
    pub all : (a : MatchTask) → Reach MatchTask (Leads rules nodes bodies x) (Eval root 0) a → is_key marks tails a
        ≡ true
        → IsIn a stored
    pub once : Distinct stored

  -- an evaluation that is visited
  abbrev pub IsVisitedEval : MatchTask → Type 0
  IsVisitedEval (Eval n p) = Visits rules nodes bodies x start n p
  IsVisitedEval (Tail n i p) = ⊥

  -- evaluations that are visited, each once
  pub record AreVisitedEvals (evals : List MatchTask) : Type 0 where
    pub visited : (a : MatchTask) → IsIn a evals → IsVisitedEval a
    pub once : Distinct evals

  -- The start rule's body is evaluated at the front of the window, where nothing is stored; that begins so many
  -- evaluations, and then these keys are stored.
  abbrev pub Evaluates : (ℕ → Bool) → (ℕ → ℕ → Bool) → ℕ → List MatchTask → ℕ → Type 0
  Evaluates marks tails root stored begun =
      Run MatchTask (Kids rules nodes bodies x) (is_key marks tails) weight [] (Eval root 0) stored begun

  -- as many as begun are implied
  pub record AreBegun (marks : ℕ → Bool) (tails : ℕ → ℕ → Bool) (stored : List MatchTask) (begun : ℕ) : Type 0 where
    pub cells : List Entry
    pub implied : AreImplied marks tails stored cells
    pub count : length cells ≡ begun
    pub every : AreVisitedCells rules start nodes bodies x more cells
