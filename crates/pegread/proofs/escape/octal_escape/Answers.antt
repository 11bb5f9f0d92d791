use Rattle.std.proofs.Common.{arith, inl, inr}
use Rattle.pegread.specs.Chars.{octal_digit}
use Rattle.pegread.proofs.CharFormLemmas.{char-one_octal, char-two_octal, char-three_octal, char-at}
use Rattle.pegread.proofs.escape.octal_escape.Goals as goal

pub returns-in_default : goal.returns-in_default
returns-in_default c = char-one_octal (octal_digit c.requires) c.in_default.ensures

pub returns-then-first-gt3 : goal.returns-then-first-gt3
returns-then-first-gt3 c = char-at (char-two_octal (octal_digit c.requires) c.in-Some.ensures.1
    (inl c.if-first-gt3.true)) (omega arith)

pub returns-in-Some-next_octal : goal.returns-in-Some-next_octal
returns-in-Some-next_octal c = char-at (char-three_octal (octal_digit c.requires) c.if-first-gt3.false
    c.in-Some.ensures.1 c.in-Some-next_octal.ensures.1) (omega arith)

pub returns-in-None : goal.returns-in-None
returns-in-None c = char-at (char-two_octal (octal_digit c.requires) c.in-Some.ensures.1 (inr c.in-None.ensures))
    (omega arith)
