use Rattle.std.proofs.Common.{◌≡◌, ℕ, ◌+◌, ◌-◌, ◌<◌, ◌≤◌, List}
use Rattle.std.proofs.Common.{refl, sym, ◌∙◌, subst, ap, arith}
use Rattle.memo.specs.Parts.{IsIn}
use Rattle.memo.specs.KeyLog.{tasks_of, spread, rising}
use Rattle.memo.specs.declared.key_log.Given.{Given}
use Rattle.memo.specs.declared.key_log.Stored.{Stored}
use Rattle.memo.specs.declared.task.MatchTask.TheVariants.{Eval}
use Rattle.memo.proofs.KeyLogLemmas.{stored_of_task}
use Rattle.memo.proofs.KeyLogLemmas.{IsSpread, of_spread, in_spread, of_rising, in_rising}
use Rattle.memo.specs.LogEntries.{given_of}
use Rattle.memo.proofs.LogEntriesLemmas.{at_eval, step_at}
use Rattle.memo.proofs.entry.Entry.given_for_eval.Goals as goal

-- an evaluation among evaluations of a node at positions in a row
eval_of_spread : (own : ℕ) (given : ℕ → Given) (from n node position : ℕ) (evals : List Stored)
    → ((s : Stored) → IsIn s evals → IsSpread (at_eval own given) from n s) → IsIn (Eval node position) (tasks_of evals)
    → (node ≡ own) × (from ≤ position) × (position < from + n)
eval_of_spread own given from n node position evals are i =
    let h = stored_of_task evals (Eval node position) i in
    let one = are h.entry h.there in
    let same : Eval own one.position ≡ Eval node position = sym (ap (λ v. v.task) one.is) ∙ h.is in
    let node_is : node ≡ own = cc same in
    let position_is : position ≡ one.position = cc same in
    let low = one.low in
    let high = one.high in
    (node_is, omega arith, omega arith)

eval_in_spread : (own : ℕ) (given : ℕ → Given) (node position : ℕ) (g : Given) (evals : List Stored) → node ≡ own
    → given position ≡ g → IsIn (at_eval own given position) evals
    → IsIn (record { task = Eval node position; given = g }) evals
eval_in_spread own given node position g evals is same i =
    rw is (subst (λ v. IsIn (record { task = Eval own position; given = v }) evals) same i)

pub returns-then-is_within-clause-some : goal.returns-then-is_within-clause-some
returns-then-is_within-clause-some c =
    let k = c.in-Run in
    let yes = c.is_within.ensures.yes c.if-is_within.true in
    let below = yes.2 in
    let given : ℕ → Given = λ _. given_of k.ending k.end k.events in
    rw k.is (eval_in_spread k.own given c.args.node c.args.position c.given.result
    (rising (at_eval k.own given) k.from (k.to + 1 - k.from)) yes.0 (sym c.given.ensures)
    (in_rising (at_eval k.own given) k.from (k.to + 1 - k.from) c.args.position yes.1 (omega arith)))

pub returns-else-is_within-clause-none : goal.returns-else-is_within-clause-none
returns-else-is_within-clause-none c i =
    let k = c.in-Run in
    let given : ℕ → Given = λ _. given_of k.ending k.end k.events in
    let h = eval_of_spread k.own given k.from (k.to + 1 - k.from) c.args.node c.args.position
    (rising (at_eval k.own given) k.from (k.to + 1 - k.from))
    (of_rising (at_eval k.own given) k.from (k.to + 1 - k.from)) (rw k.is at i) in
    let low = h.1 in
    let high = h.2 in
    c.is_within.ensures.no c.if-is_within.false h.0 low (omega arith)

pub returns-then-is_within-2-clause-some : goal.returns-then-is_within-2-clause-some
returns-then-is_within-2-clause-some c =
    let k = c.in-Steps in
    let yes = c.is_within-in-Steps.ensures.yes c.if-is_within-2.true in
    let below = yes.2 in
    rw k.is (eval_in_spread k.own step_at c.args.node c.args.position (step_at c.args.position)
    (spread (at_eval k.own step_at) k.from (k.to - k.from)) yes.0 refl
    (in_spread (at_eval k.own step_at) k.from (k.to - k.from) c.args.position yes.1 (omega arith)))

pub returns-else-is_within-2-clause-none : goal.returns-else-is_within-2-clause-none
returns-else-is_within-2-clause-none c i =
    let k = c.in-Steps in
    let h = eval_of_spread k.own step_at k.from (k.to - k.from) c.args.node c.args.position
    (spread (at_eval k.own step_at) k.from (k.to - k.from))
    (of_spread (at_eval k.own step_at) k.from (k.to - k.from)) (rw k.is at i) in
    let low = h.1 in
    let high = h.2 in
    c.is_within-in-Steps.ensures.no c.if-is_within-2.false h.0 low (omega arith)
