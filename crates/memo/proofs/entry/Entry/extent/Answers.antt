use Rattle.std.proofs.Common.{◌≡◌, ℕ, ◌+◌, ◌-◌, ◌*◌, ◌^◌, ◌<◌, ◌≤◌, length}
use Rattle.std.proofs.Common.{sym, ◌∙◌, subst, ap, arith}
use Rattle.memo.specs.Parts.{IsIn}
use Rattle.memo.specs.KeyLog.{row_of, position_of, number_of, IsNarrow}
use Rattle.memo.specs.LogEntries.{evals_of, node_of, IsExtent}
use Rattle.memo.specs.declared.entry.Entry.{Entry}
use Rattle.memo.specs.declared.key_log.Given.{Given}
use Rattle.memo.specs.declared.key_log.Stored.{Stored}
use Rattle.memo.proofs.KeyLogLemmas.{IsSpread, of_spread, length_spread, of_rising, length_rising}
use Rattle.std.proofs.Common.{rules}
use Rattle.memo.specs.LogEntries.{given_of}
use Rattle.memo.proofs.LogEntriesLemmas.{at_eval, step_at}
use Rattle.memo.proofs.entry.Entry.extent.Goals as goal

-- evaluations of a node at positions in a row have an extent
spread_extent : (entry : Entry) (node : ℕ) (given : ℕ → Given) (from n highest first : ℕ)
    → ((s : Stored) → IsIn s (evals_of entry) → IsSpread (at_eval node given) from n s) → length (evals_of entry) ≡ n
    → node_of entry ≡ node → node < 2 ^ 32 → highest < 2 ^ 32 → (0 < n → from + n ≤ highest + 1)
    → first ≡ node * 668265263 + from
    → IsExtent entry (record { row = node; highest = highest; count = n; first = first })
spread_extent entry node given from n highest first one many own small low within is =
    record {
      node = sym own;
      row = λ s i. ap (λ v. row_of v.task) (one s i).is;
      position = λ s i.
          let h = one s i in
          let below = h.high in
          let above = h.low in
          let most = within (omega arith) in
          subst (λ v. position_of v.task ≤ highest) (sym h.is) (omega arith);
      narrow = λ s i.
          let h = one s i in
          let below = h.high in
          let above = h.low in
          let most = within (omega arith) in
          subst (λ v. IsNarrow v.task) (sym h.is) (small, omega arith);
      first = λ s i.
          let h = one s i in
          let above = h.low in
          subst (λ v. first ≤ number_of v.task) (sym h.is) (omega arith);
      last = λ s i.
          let h = one s i in
          let below = h.high in
          subst (λ v. number_of v.task < first + n) (sym h.is) (omega arith);
      count = sym many;
    }

pub returns-in-Run-clause-extent : goal.returns-in-Run-clause-extent
returns-in-Run-clause-extent c =
    let k = c.in-Run in
    let small : k.node < 2 ^ 32 = search rules in
    let low : k.to < 2 ^ 32 = search rules in
    let given : ℕ → Given = λ _. given_of k.ending k.end k.events in
    let evals = ap evals_of k.is in
    rw c.saturating_sub.ensures (spread_extent c.args.self k.node given k.from
    (k.to + 1 - k.from) k.to c.eval_number.result
    (λ s i. of_rising (at_eval k.node given) k.from (k.to + 1 - k.from) s (subst (λ v. IsIn s v) evals i))
    (ap length evals ∙ length_rising (at_eval k.node given) k.from (k.to + 1 - k.from)) (ap node_of k.is) small low
    (λ some. omega arith) c.eval_number.ensures.same)

pub returns-in-Steps-clause-extent : goal.returns-in-Steps-clause-extent
returns-in-Steps-clause-extent c =
    let k = c.in-Steps in
    let small : k.node < 2 ^ 32 = search rules in
    let wide : k.to < 2 ^ 32 = search rules in
    let low : k.to - 1 < 2 ^ 32 = omega arith in
    let evals = ap evals_of k.is in
    rw (c.saturating_sub-in-Steps.ensures, c.saturating_sub-in-Steps-2.ensures) (spread_extent c.args.self k.node
    step_at k.from (k.to - k.from) (k.to - 1) c.eval_number-in-Steps.result
    (λ s i. of_spread (at_eval k.node step_at) k.from (k.to - k.from) s (subst (λ v. IsIn s v) evals i))
    (ap length evals ∙ length_spread (at_eval k.node step_at) k.from (k.to - k.from)) (ap node_of k.is) small low
    (λ some. omega arith)
    c.eval_number-in-Steps.ensures.same)
