use Rattle.std.proofs.Common.{arith}
use Rattle.pegread.proofs.CharFormLemmas.{hex-digit, hex-upper, hex-lower}
use Rattle.pegread.proofs.escape.hex_digit.Goals as goal

pub returns-in-48-to-57 : goal.returns-in-48-to-57
returns-in-48-to-57 c = (omega arith, hex-digit _ _ (omega arith) (omega arith))

pub returns-in-65-to-70 : goal.returns-in-65-to-70
returns-in-65-to-70 c = (omega arith, hex-upper _ _ (omega arith) (omega arith) (omega arith))

pub returns-in-97-to-102 : goal.returns-in-97-to-102
returns-in-97-to-102 c = (omega arith, hex-lower _ _ (omega arith) (omega arith) (omega arith))
