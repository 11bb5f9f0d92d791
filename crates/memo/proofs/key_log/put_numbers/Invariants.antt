use Rattle.std.proofs.Common.{ℕ, ◌<◌, ◌≤◌}
use Rattle.memo.specs.Parts.{IsIn}
use Rattle.memo.specs.TaskLinks.{Position}
use Rattle.memo.proofs.key_log.put_numbers.Given as goal

-- the numbers so far are in
abbrev pub invariant-loop-number : goal.invariant-loop-number
invariant-loop-number l = record {
  kept : (p : Position) → IsIn p l.fn.index → IsIn p l.index;
  numbers : (n : ℕ) → l.first ≤ n → n < l.number → IsIn (record { number = n; entry = l.entry }) l.index;
}
