use Rattle.pegread.proofs.FirstByteLemmas.{first-arrow, first-begin}
use Rattle.pegread.proofs.lexing.angle_token.Goals as goal

pub returns-in-Some : goal.returns-in-Some
returns-in-Some c = first-arrow c.in-Some.ensures

pub returns-in-None : goal.returns-in-None
returns-in-None c = first-begin c.in-None.ensures
