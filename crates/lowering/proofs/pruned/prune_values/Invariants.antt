use Rattle.std.proofs.Common.{◌≡◌, take}
use Rattle.abnfcheck.specs.Derivable.{AreLetters}
use Rattle.ruletable.specs.Letters.{has}
use Rattle.lowering.proofs.pruned.prune_values.Given as goal

abbrev pub invariant-loop-value : goal.invariant-loop-value
invariant-loop-value l = AreLetters (has l.alphabet) (take l.value-index l.values)
    × (l.copied.items ≡ take l.value-index l.values)
