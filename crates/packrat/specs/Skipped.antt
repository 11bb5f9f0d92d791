-- A choice whose first alternatives the byte at its position decides to fail.
use Rattle.std.specs.Prelude.{◌≡◌, ◌⊎◌, ℕ, ◌+◌, ◌<◌, Bool, true, List, Option, length, slice_get, Some, None}
use Rattle.gramcheck.specs.Grammar.{Grammar}
use Rattle.pegnodes.specs.ChoiceTables.{FailFirst}
use Rattle.pegnodes.specs.KeyLists.{Marks, node_marks, tail_marks}
use Rattle.pegnodes.specs.Nodes.{Choice, shapes_of}
use Rattle.memo.specs.declared.task.MatchTask.{MatchTask}
use Rattle.memo.specs.declared.task.MatchTask.TheVariants.{Eval}
use Rattle.packrat.specs.Onward.{entering_of}
use Rattle.packrat.specs.declared.onward.Entering.{Entering}
use Rattle.packrat.specs.declared.skips.Skips.{Skips}

-- the tail of choice n at position p from alternative i on, if there is one
abbrev pub IsRest : Marks → ℕ → List ℕ → ℕ → ℕ → Option Entering → Type 0
IsRest marks n ms i p (Some e) = (i < length ms) × (e ≡ entering_of marks n ms i p)
IsRest marks n ms i p None = length ms ≡ i

module _ (g : Grammar) (x : List ℕ) (more : Bool) (marks : Marks) where
  -- The byte at position p decides that the first i alternatives of choice n fail there, which is so many evaluations.
  -- If
  -- more bytes follow the window, the byte is not its last one.
  pub record AreFailed (n p : ℕ) (ms : List ℕ) (i evals : ℕ) : Type 0 where
    pub byte : ℕ
    pub here : slice_get x p ≡ Some byte
    pub last : more ≡ true → p + 1 < length x
    pub fail : FailFirst (shapes_of g.nodes) g.bodies (node_marks marks) (tail_marks marks) byte n ms i evals

  -- the byte decides so, or there are none of them
  abbrev pub ArePassed : ℕ → ℕ → List ℕ → ℕ → ℕ → Type 0
  ArePassed n p ms i evals = AreFailed n p ms i evals ⊎ ((i ≡ 0) × (evals ≡ 0))

  -- the task is a choice, and these are the tail after the alternatives that fail, and their evaluations
  pub record AreSkipped (a : MatchTask) (s : Skips) : Type 0 where
    pub node : ℕ
    pub position : ℕ
    pub members : List ℕ
    pub index : ℕ
    pub task : a ≡ Eval node position
    pub at : slice_get (shapes_of g.nodes) node ≡ Some (Choice members)
    pub passed : ArePassed node position members index s.evals
    pub rest : IsRest marks node members index position s.rest
