use Rattle.std.proofs.Common.{◌≡◌}
use Rattle.memo.specs.LogEntries.{AreCovered}
use Rattle.memo.proofs.key_log.cover.Given as goal

-- the entries so far are in
abbrev pub invariant-loop-at : goal.invariant-loop-at
invariant-loop-at l = record {
  covered : AreCovered l.covered l.entries l.index;
  here : l.covered ≡ l.at;
}
