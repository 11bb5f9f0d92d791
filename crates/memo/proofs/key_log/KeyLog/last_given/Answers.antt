use Rattle.std.proofs.Common.{◌≡◌, ℕ, List}
use Rattle.std.proofs.Common.{ap, slice_get, Some, None, Option, IfSome, reverse}
use Rattle.memo.specs.Parts.{IsIn}
use Rattle.memo.specs.LogEntries.{evals_of, stored_of}
use Rattle.memo.specs.declared.entry.Entry.{Entry}
use Rattle.memo.specs.declared.key_log.Given.{Given}
use Rattle.memo.specs.declared.task.MatchTask.{MatchTask}
use Rattle.memo.proofs.LogEntriesLemmas.{stored_of_entry}
use Rattle.memo.proofs.key_log.KeyLog.last_given.Goals as goal

some_at : (items : List Entry) (at : ℕ) (task : MatchTask) (v : Option Given)
    → IfSome v (λ g. (e : Entry) × (slice_get items at ≡ Some e)
    × IsIn (record { task = task; given = g }) (evals_of e))
    → IfSome v (λ g. IsIn (record { task = task; given = g }) (stored_of (reverse items)))
some_at items at task None h = tt
some_at items at task (Some g) h = stored_of_entry items at h.0 (record { task = task; given = g }) h.1 h.2

pub returns-in-Some : goal.returns-in-Some
returns-in-Some c =
    rw (← ap (λ v. v.stored) c.self.view_is) (some_at c.self.inside.entries.items c.in-Some.mark.now.last c.args.task
    c.given_in.result (rw c.deref-in-Some.ensures.value at c.given_in.ensures.some))
