use Rattle.std.proofs.Common.{◌≡◌, ◌<◌, List, ap, arith, sym, ◌∙◌}
use Rattle.memo.specs.Parts.{IsIn}
use Rattle.memo.specs.KeyLog.{tasks_of, row_of, position_of}
use Rattle.memo.specs.declared.key_log.Stored.{Stored}
use Rattle.memo.specs.declared.task.MatchTask.{MatchTask}
use Rattle.memo.proofs.KeyLogLemmas.{stored_of_task}
use Rattle.memo.proofs.key_log.KeyLog.get.Goals as goal

-- where no key of the row stands at the position or beyond, the key is not stored
none_beyond : (stored : List Stored) (task : MatchTask)
    → ((s : Stored) → IsIn s stored → row_of s.task ≡ row_of task → position_of s.task < position_of task)
    → IsIn task (tasks_of stored) → ⊥
none_beyond stored task below i =
    let h = stored_of_task stored task i in
    let less = below h.entry h.there (ap row_of h.is) in
    let position : position_of h.entry.task ≡ position_of task = ap position_of h.is in
    omega arith

pub returns-then-is_new-clause-none : goal.returns-then-is_new-clause-none
returns-then-is_new-clause-none c =
    none_beyond c.args.self.now.stored c.args.task (λ s i is.
    rw c.position.ensures at (c.is_new.ensures c.if-is_new.true s i (is ∙ sym c.row.ensures)))
