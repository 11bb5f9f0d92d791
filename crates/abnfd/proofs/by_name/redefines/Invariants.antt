-- None of the ids so far is that of a rule.
use Rattle.std.proofs.Common.{◌<◌, ℕ, get_or}
use Rattle.abnfd.proofs.by_name.redefines.Given as goal

abbrev pub invariant-loop-id : goal.invariant-loop-id
invariant-loop-id l = (j : ℕ) → j < l.id-index → get_or l.again j 0 < l.count → ⊥
