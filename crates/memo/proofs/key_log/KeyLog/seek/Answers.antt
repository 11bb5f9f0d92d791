use Rattle.std.proofs.Common.{◌≡◌, ℕ, ◌≤◌, List, length, sym}
use Rattle.std.proofs.Common.{◌∙◌, subst, ap, arith, slice_get, Some, None, Option, IfSome, IfNone, reverse}
use Rattle.std.proofs.lemmas.Option.{slice_get_within}
use Rattle.memo.specs.Parts.{IsIn}
use Rattle.memo.specs.KeyLog.{tasks_of, number_of, IsNarrow}
use Rattle.memo.specs.LogEntries.{evals_of, stored_of, AreCovered}
use Rattle.memo.specs.TaskLinks.{Position}
use Rattle.memo.specs.declared.entry.Entry.{Entry}
use Rattle.memo.specs.declared.key_log.Given.{Given}
use Rattle.memo.specs.declared.key_log.Stored.{Stored}
use Rattle.memo.specs.declared.task.MatchTask.{MatchTask}
use Rattle.memo.proofs.KeyLogLemmas.{stored_of_task, task_of_stored}
use Rattle.memo.proofs.LogEntriesLemmas.{entry_of_stored, stored_of_entry}
use Rattle.memo.proofs.key_log.KeyLog.seek.Goals as goal

-- where an entry has the key, it is stored
some_stored : (items : List Entry) (task : MatchTask) (v : Option Given)
    → IfSome v (λ g. (i : ℕ) × (e : Entry) × (slice_get items i ≡ Some e)
    × IsIn (record { task = task; given = g }) (evals_of e))
    → IfSome v (λ g. IsIn (record { task = task; given = g }) (stored_of (reverse items)))
some_stored items task None h = tt
some_stored items task (Some g) h = stored_of_entry items h.0 h.1 (record { task = task; given = g }) h.2 h.3

-- where no entry that the index names has the key, it is not stored
none_stored : (covered : ℕ) (items : List Entry) (positions : List Position) (task : MatchTask) (number : ℕ)
    (v : Option Given)
    → AreCovered covered items positions → length items ≤ covered → number ≡ number_of task
    → IfNone v ((i : ℕ) (e : Entry) → IsIn (record { number = number; entry = i }) positions → slice_get items i
    ≡ Some e
    → IsIn task (tasks_of (evals_of e)) → ⊥)
    → IfNone v (IsIn task (tasks_of (stored_of (reverse items))) → ⊥)
none_stored covered items positions task number (Some g) all full is h = tt
none_stored covered items positions task number None all full is h = λ i.
    let s = stored_of_task (stored_of (reverse items)) task i in
    let e = entry_of_stored items s.entry s.there in
    let lt = slice_get_within items e.index e.entry e.at in
    let there = all e.index e.entry s.entry (omega arith) e.at e.has in
    h e.index e.entry
    (subst (λ n. IsIn (record { number = n; entry = e.index }) positions) (ap number_of s.is ∙ sym is) there) e.at
    (subst (λ v. IsIn v (tasks_of (evals_of e.entry))) s.is (task_of_stored e.has))

-- a key whose numbers do not fit is not stored
none_narrow : (stored : List Stored) (task : MatchTask) → ((s : Stored) → IsIn s stored → IsNarrow s.task)
    → (IsNarrow task → ⊥) → IsIn task (tasks_of stored) → ⊥
none_narrow stored task all great i =
    let s = stored_of_task stored task i in great (subst IsNarrow s.is (all s.entry s.there))

pub returns-in_ok-cover-in-Ok-clause-some : goal.returns-in_ok-cover-in-Ok-clause-some
returns-in_ok-cover-in-Ok-clause-some c =
    rw (← ap (λ v. v.stored) c.self.view_is) (some_stored c.self.inside.entries.items c.args.task c.find.result
    (rw c.deref-in-Ok.ensures.value at c.find.ensures.some))

pub returns-in_ok-cover-in-Ok-clause-none : goal.returns-in_ok-cover-in-Ok-clause-none
returns-in_ok-cover-in-Ok-clause-none c =
    let items = c.deref.ensures.value in
    rw (← ap (λ v. v.stored) c.self.view_is) (none_stored c.cover.new.covered c.self.inside.entries.items
    c.cover.new.index c.args.task c.in-Ok.number c.find.result (rw items at c.in_ok-cover-in-Ok.ensures.covered)
    (rw items at c.in_ok-cover-in-Ok.ensures.all) c.in-Ok.ensures.same
    (rw c.deref-in-Ok.ensures.value at c.find.ensures.none))

pub returns-in-Err-clause-none : goal.returns-in-Err-clause-none
returns-in-Err-clause-none c =
    rw (← ap (λ v. v.stored) c.self.view_is)
    (none_narrow _ c.args.task c.self.invariant.narrow c.in-Err.ensures.great)
