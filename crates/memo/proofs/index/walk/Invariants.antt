use Rattle.std.proofs.Common.{◌≡◌, ℕ, List, length, slice_get, Some}
use Rattle.memo.specs.KeyLog.{tasks_of}
use Rattle.memo.specs.LogEntries.{evals_of}
use Rattle.memo.specs.Parts.{IsIn}
use Rattle.memo.specs.TaskLinks.{bucket_of, bucket_of_cell}
use Rattle.memo.specs.declared.entry.Entry.{Entry}
use Rattle.memo.specs.declared.index.IndexCell.{IndexCell}
use Rattle.memo.specs.declared.task.MatchTask.{MatchTask}
use Rattle.memo.proofs.TaskLinksLemmas.{IsSoughtCell}
use Rattle.memo.proofs.index.walk.Given as goal

-- the cell is of that number, and its entry has the key
abbrev pub Sought : List Entry → ℕ → MatchTask → IndexCell → Type 0
Sought entries number task c =
    (c.number ≡ number) × (e : Entry) × (slice_get entries c.entry ≡ Some e) × IsIn task (tasks_of (evals_of e))

abbrev pub invariant-loop-at : goal.invariant-loop-at
invariant-loop-at l =
    IsSoughtCell (bucket_of_cell (length l.heads)) l.cells (Sought l.entries l.number l.task)
    (bucket_of (length l.heads) l.number) l.at

abbrev pub decreases-loop-at : goal.decreases-loop-at
decreases-loop-at l = l.at
