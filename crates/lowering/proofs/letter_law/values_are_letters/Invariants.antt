use Rattle.std.proofs.Common.{map, take}
use Rattle.abnfcheck.specs.Derivable.{AreLetters}
use Rattle.ruletable.specs.Letters.{has}
use Rattle.lowering.proofs.letter_law.values_are_letters.Given as goal

-- the values seen are those of letters
abbrev pub invariant-loop-letter : goal.invariant-loop-letter
invariant-loop-letter g l = AreLetters (has g.L.Letter.ALPHABET) (map g.L.Letter.number (take l.letter-index l.line))
