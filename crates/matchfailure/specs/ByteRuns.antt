-- Repetitions of a set of bytes, which are passed at once.
use Rattle.std.specs.Prelude.{◌≡◌, ℕ, ◌<◌, ◌≤◌, Bool, true, false, List, length, slice_get, Some}
use Rattle.gramcheck.specs.Grammar.{Grammar}
use Rattle.memo.specs.declared.task.MatchTask.{MatchTask}
use Rattle.memo.specs.declared.task.MatchTask.TheVariants.{Eval}
use Rattle.pegnodes.specs.Nodes.{Set, Star, shapes_of}
use Rattle.memo.specs.KeyLog.{LogView}
use Rattle.memo.specs.declared.found.Found.TheVariants.{Took}
use Rattle.matchfailure.specs.FailureStates.{AreFailures, IsResult, IsStack, IsStored}
use Rattle.matchfailure.specs.declared.tasks.frames.TaskFrame.{TaskFrame}
use Rattle.matchfailure.specs.declared.tasks.kept.KeptFailures.{KeptFailures}
use Rattle.matchfailure.specs.declared.tasks.runs.ByteRun.{ByteRun}

-- The task is a repetition of a set from a position on. The set has each byte short of the end, and not the byte there.
pub record IsByteRun (g : Grammar) (x : List ℕ) (a : MatchTask) (run : ByteRun) : Type 0 where
  pub task : a ≡ Eval run.star run.from
  pub star_at : slice_get (shapes_of g.nodes) run.star ≡ Some (Star run.operand)
  pub members : ℕ → Bool
  pub set_at : slice_get (shapes_of g.nodes) run.operand ≡ Some (Set members)
  pub low : run.from ≤ run.end
  pub within : run.end ≤ length x
  pub taken : (r : ℕ) → run.from ≤ r → r < run.end → (b : ℕ) × (slice_get x r ≡ Some b) × (members b ≡ true)
  pub stops : (b : ℕ) → slice_get x run.end ≡ Some b → members b ≡ false

-- The state where a task is passed that is such a repetition: at each of its positions it ends there.
pub record IsRunPassed (g : Grammar) (x : List ℕ) (log : LogView) (frames : List TaskFrame) (kept : KeptFailures)
    (a : MatchTask) (outside : Bool) (run : ByteRun) : Type 0 where
  pub stored : IsStored g x kept log
  pub failures : AreFailures g x kept
  pub task : a ≡ Eval run.star run.from
  pub low : run.from ≤ run.end
  pub stack : IsStack g x kept frames a outside
  pub results : (r : ℕ) → run.from ≤ r → r ≤ run.end → IsResult g x kept (Eval run.star r) outside (Took run.end)
