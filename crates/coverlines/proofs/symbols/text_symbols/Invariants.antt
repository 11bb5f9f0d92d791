-- The symbols so far.
use Rattle.std.proofs.Common.{◌≡◌, take}
use Rattle.coverlines.proofs.symbols.text_symbols.Given as goal

abbrev pub invariant-loop-byte : goal.invariant-loop-byte
invariant-loop-byte l = l.word.items ≡ take l.byte-index l.text
