use Rattle.pegread.specs.Chars.{letter_a, letter_b, letter_e, letter_f, letter_n, letter_r, letter_t, letter_v}
use Rattle.pegread.proofs.escape.letter_byte.Goals as goal

pub returns-in-97 : goal.returns-in-97
returns-in-97 c = rw (c.in-97.is) letter_a

pub returns-in-98 : goal.returns-in-98
returns-in-98 c = rw (c.in-98.is) letter_b

pub returns-in-101 : goal.returns-in-101
returns-in-101 c = rw (c.in-101.is) letter_e

pub returns-in-102 : goal.returns-in-102
returns-in-102 c = rw (c.in-102.is) letter_f

pub returns-in-110 : goal.returns-in-110
returns-in-110 c = rw (c.in-110.is) letter_n

pub returns-in-114 : goal.returns-in-114
returns-in-114 c = rw (c.in-114.is) letter_r

pub returns-in-116 : goal.returns-in-116
returns-in-116 c = rw (c.in-116.is) letter_t

pub returns-in-118 : goal.returns-in-118
returns-in-118 c = rw (c.in-118.is) letter_v
