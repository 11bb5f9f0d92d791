use Rattle.std.proofs.Common.{◌≡◌, ℕ, ◌+◌, ◌-◌, List}
use Rattle.std.proofs.Common.{sym, ◌∙◌, ap}
use Rattle.memo.specs.Parts.{IsIn, in_here}
use Rattle.memo.specs.KeyLog.{tasks_of, spread, rising}
use Rattle.memo.specs.declared.key_log.Given.{Given}
use Rattle.memo.specs.declared.key_log.Stored.{Stored}
use Rattle.memo.specs.declared.task.MatchTask.TheVariants.{Eval, Tail}
use Rattle.memo.proofs.KeyLogLemmas.{stored_of_task}
use Rattle.memo.proofs.KeyLogLemmas.{IsSpread, of_spread, of_rising}
use Rattle.memo.specs.LogEntries.{given_of}
use Rattle.memo.proofs.LogEntriesLemmas.{at_eval, step_at}
use Rattle.memo.proofs.entry.Entry.given_for_tail.Goals as goal

-- a tail is not among them
no_tail_of_spread : (own : ℕ) (given : ℕ → Given) (from n node index position : ℕ) (evals : List Stored)
    → ((s : Stored) → IsIn s evals → IsSpread (at_eval own given) from n s)
    → IsIn (Tail node index position) (tasks_of evals) → ⊥
no_tail_of_spread own given from n node index position evals are i =
    let h = stored_of_task evals (Tail node index position) i in
    let one = are h.entry h.there in
    let same : Eval own one.position ≡ Tail node index position = sym (ap (λ v. v.task) one.is) ∙ h.is in
    absurd (cc same)

pub returns-then-position-there-clause-some : goal.returns-then-position-there-clause-some
returns-then-position-there-clause-some c =
    let k = c.in-Member in
    rw (k.is, c.given.ensures, c.if-node-own.true, c.if-index-member.true, c.if-position-there.true) in_here

pub returns-in-Run-clause-none : goal.returns-in-Run-clause-none
returns-in-Run-clause-none c i =
    let k = c.in-Run in
    let given : ℕ → Given = λ _. given_of k.ending k.end k.events in
    no_tail_of_spread k.node given k.from (k.to + 1 - k.from) c.args.node c.args.index c.args.position
    (rising (at_eval k.node given) k.from (k.to + 1 - k.from))
    (of_rising (at_eval k.node given) k.from (k.to + 1 - k.from)) (rw k.is at i)

pub returns-in-Steps-clause-none : goal.returns-in-Steps-clause-none
returns-in-Steps-clause-none c i =
    let k = c.in-Steps in
    no_tail_of_spread k.node step_at k.from (k.to - k.from) c.args.node c.args.index c.args.position
    (spread (at_eval k.node step_at) k.from (k.to - k.from))
    (of_spread (at_eval k.node step_at) k.from (k.to - k.from)) (rw k.is at i)
