use Rattle.std.proofs.Common.{ℕ, ◌<◌, get_or}
use Rattle.fixpoint.proofs.rows.are_below.Given as goal

abbrev pub invariant-loop-m : goal.invariant-loop-m
invariant-loop-m l = (i : ℕ) → i < l.m-index → get_or l.these i 0 < l.count
