use Rattle.std.proofs.Common.{arith}
use Rattle.pegread.proofs.CharFormLemmas.{char-x, char-one_hex, char-two_hex, char-at}
use Rattle.pegread.proofs.escape.hex_escape.Goals as goal

pub returns-in_default : goal.returns-in_default
returns-in_default c = char-x c.in_default.ensures

pub returns-in-Some-next_hex : goal.returns-in-Some-next_hex
returns-in-Some-next_hex c = char-at (char-two_hex c.in-Some.ensures.1 c.in-Some-next_hex.ensures.1) (omega arith)

pub returns-in-None : goal.returns-in-None
returns-in-None c = char-one_hex c.in-Some.ensures.1 c.in-None.ensures
