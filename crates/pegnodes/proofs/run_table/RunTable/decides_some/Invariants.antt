use Rattle.std.proofs.Common.{◌≡◌, ℕ, ◌<◌, slice_get, Some}
use Rattle.pegnodes.specs.declared.by_byte.Decided.{Decided}
use Rattle.pegnodes.proofs.run_table.RunTable.decides_some.Given as goal

-- of the bytes so far
abbrev pub invariant-loop-b : goal.invariant-loop-b
invariant-loop-b l =
    (b : ℕ) (d : Decided) → b < l.b → slice_get l.self.entries.items b ≡ Some (Some d) → ⊥
