use Rattle.abnfread.proofs.AbnfFirstLemmas.{longest-adds, longest-is}
use Rattle.abnfread.proofs.scan.equals_token.Goals as goal

pub returns-in-Some : goal.returns-in-Some
returns-in-Some c = longest-adds c.in-Some.ensures

pub returns-in-None : goal.returns-in-None
returns-in-None c = longest-is c.in-None.ensures
