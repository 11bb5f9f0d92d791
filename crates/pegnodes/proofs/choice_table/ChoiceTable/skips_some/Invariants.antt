use Rattle.std.proofs.Common.{◌≡◌, ℕ, ◌<◌, slice_get, Some}
use Rattle.pegnodes.specs.declared.choice_table.Skip.{Skip}
use Rattle.pegnodes.proofs.choice_table.ChoiceTable.skips_some.Given as goal

-- of the bytes so far
abbrev pub invariant-loop-b : goal.invariant-loop-b
invariant-loop-b l = (b : ℕ) (s : Skip) → b < l.b → slice_get l.self.entries.items b ≡ Some s → s.index ≡ 0
