-- The symbols so far.
use Rattle.std.proofs.Common.{◌≡◌, map, take}
use Rattle.coverlines.specs.Goals.{swapped_case}
use Rattle.coverlines.proofs.symbols.other_symbols.Given as goal

abbrev pub invariant-loop-byte : goal.invariant-loop-byte
invariant-loop-byte l = l.word.items ≡ map swapped_case (take l.byte-index l.text)
