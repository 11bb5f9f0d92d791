use Rattle.abnfread.proofs.AbnfFirstLemmas.{first-found, first-bad, first-end}
use Rattle.abnfread.proofs.scan.first_of.Goals as goal

pub returns-in_default : goal.returns-in_default
returns-in_default c = first-end _ c.in_default.ensures.cases

pub returns-in-Some-token_at : goal.returns-in-Some-token_at
returns-in-Some-token_at c = first-found _ c.in-Some.ensures.cases.0 c.in-Some-token_at.ensures

pub returns-in-None : goal.returns-in-None
returns-in-None c = first-bad c.in-Some.ensures.cases.0 c.requires c.in-None.ensures
