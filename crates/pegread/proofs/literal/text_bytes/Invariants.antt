use Rattle.std.proofs.Common.{List, ℕ, ◌++◌, length}
use Rattle.pegread.specs.Chars.{Chars, Paired}
use Rattle.pegread.proofs.literal.text_bytes.Given as goal

-- the bytes so far and then what the rest spells are what the text spells
abbrev pub invariant-loop-byte : goal.invariant-loop-byte
invariant-loop-byte l = record {
  paired : Paired l.rest;
  chars : (bs : List ℕ) → Chars l.rest bs → Chars l.text (l.bytes.items ++ bs);
}

abbrev pub decreases-loop-byte : goal.decreases-loop-byte
decreases-loop-byte l = length l.rest
