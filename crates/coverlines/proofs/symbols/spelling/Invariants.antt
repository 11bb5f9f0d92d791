-- The symbols so far.
use Rattle.std.proofs.Common.{ℕ, List, take}
use Rattle.abnfcheck.specs.Derivable.{AreLetters, Spelled}
use Rattle.coverlines.specs.Shortest.{may}
use Rattle.coverlines.proofs.symbols.spelling.Given as goal

abbrev pub invariant-loop-byte : goal.invariant-loop-byte
invariant-loop-byte l = record {
  spelled : Spelled l.folds (take l.byte-index l.text) l.word.items;
  best : (w : List ℕ) → Spelled l.folds (take l.byte-index l.text) w → AreLetters (may l.bounds) w
      → AreLetters (may l.bounds) l.word.items;
}
