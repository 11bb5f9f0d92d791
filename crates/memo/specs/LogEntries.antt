-- The entries of the log, and the index over them.
use Rattle.std.specs.Prelude.{◌≡◌, ℕ, ◌+◌, ◌<◌, ◌≤◌, List, [], ◌∷◌, ◌++◌, length, reverse, slice_get, Some}
use Rattle.memo.specs.declared.found.Found.{Found}
use Rattle.memo.specs.declared.found.Found.TheVariants.{Failed, Took}
use Rattle.memo.specs.Parts.{IsIn}
use Rattle.memo.specs.KeyLog.{run_of, steps_of, row_of, position_of, number_of, IsNarrow, AreBelow}
use Rattle.memo.specs.TaskLinks.{Position}
use Rattle.memo.specs.declared.entry.Entry.{Entry}
use Rattle.memo.specs.declared.entry.Entry.TheVariants.{Member, Run, Steps}
use Rattle.memo.specs.declared.entry.Extent.{Extent}
use Rattle.memo.specs.declared.entry.EvaluationEnding.{EvaluationEnding}
use Rattle.memo.specs.declared.entry.EvaluationEnding.TheVariants.{Missed, Ended}
use Rattle.memo.specs.declared.key_log.Given.{Given}
use Rattle.memo.specs.declared.key_log.Mark.{Mark}
use Rattle.memo.specs.declared.key_log.Stored.{Stored}
use Rattle.memo.specs.declared.task.MatchTask.TheVariants.{Tail}

-- what was found, by how it ended and where
abbrev pub found_of : EvaluationEnding → ℕ → Found
found_of Missed e = Failed
found_of Ended e = Took e

abbrev pub given_of : EvaluationEnding → ℕ → ℕ → Given
given_of o e events = record { found = found_of o e; events = events }

abbrev pub node_of : Entry → ℕ
node_of (Member o n i p e events) = n
node_of (Run o n from to e events) = n
node_of (Steps n from to) = n

-- what an entry stands for
abbrev pub evals_of : Entry → List Stored
evals_of (Member o n i p e events) = record { task = Tail n i p; given = given_of o e events } ∷ []
evals_of (Run o n from to e events) = run_of n from to (given_of o e events)
evals_of (Steps n from to) = steps_of n from to

-- what the entries stand for, one after the other
abbrev pub stored_of : List Entry → List Stored
stored_of [] = []
stored_of (e ∷ es) = evals_of e ++ stored_of es

-- the extent of an entry: the row, the highest position, how many they are, and their numbers from the first one on
pub record IsExtent (entry : Entry) (x : Extent) : Type 0 where
  pub node : x.row ≡ node_of entry
  pub row : (s : Stored) → IsIn s (evals_of entry) → row_of s.task ≡ x.row
  pub position : (s : Stored) → IsIn s (evals_of entry) → position_of s.task ≤ x.highest
  pub narrow : (s : Stored) → IsIn s (evals_of entry) → IsNarrow s.task
  pub first : (s : Stored) → IsIn s (evals_of entry) → x.first ≤ number_of s.task
  pub last : (s : Stored) → IsIn s (evals_of entry) → number_of s.task < x.first + x.count
  pub count : x.count ≡ length (evals_of entry)

-- the index has each key of the first so many entries
abbrev pub AreCovered : ℕ → List Entry → List Position → Type 0
AreCovered covered entries positions = (i : ℕ) (e : Entry) (s : Stored) → i < covered → slice_get entries i ≡ Some e →
    IsIn s (evals_of e) → IsIn (record { number = number_of s.task; entry = i }) positions

-- what holds of the fields of the log
pub record IsLog (unit count covered : ℕ) (high : List Mark) (entries : List Entry) (positions : List Position)
    : Type 0 where
  pub below : AreBelow unit high (stored_of (reverse entries))
  pub narrow : (s : Stored) → IsIn s (stored_of (reverse entries)) → IsNarrow s.task
  pub indexed : AreCovered covered entries positions
  pub within : covered ≤ length entries
  pub counted : count ≡ length (stored_of (reverse entries))
