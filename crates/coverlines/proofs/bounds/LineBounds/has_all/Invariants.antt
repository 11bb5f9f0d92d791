-- A line may have the symbols so far.
use Rattle.std.proofs.Common.{take}
use Rattle.abnfcheck.specs.Derivable.{AreLetters}
use Rattle.coverlines.specs.Shortest.{may}
use Rattle.coverlines.proofs.bounds.LineBounds.has_all.Given as goal

abbrev pub invariant-loop-symbol : goal.invariant-loop-symbol
invariant-loop-symbol l = AreLetters (may l.self) (take l.symbol-index l.word)
