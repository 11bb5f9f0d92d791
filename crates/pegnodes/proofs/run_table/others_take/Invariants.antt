use Rattle.std.proofs.Common.{◌≡◌, ℕ, ◌<◌, slice_get}
use Rattle.pegnodes.specs.RunTables.{iteration_evals}
use Rattle.pegnodes.proofs.run_table.others_take.Given as goal

-- of the bytes so far
abbrev pub invariant-loop-b : goal.invariant-loop-b
invariant-loop-b l = (b : ℕ) → b < l.b → (b ≡ l.byte → ⊥) → iteration_evals (slice_get l.entries b) ≡ l.evals
