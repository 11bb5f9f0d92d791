use Rattle.abnftexts.proofs.SpelledRulesLemmas.{joined-alone, joined-long, joined-reads}
use Rattle.abnftexts.proofs.laws.joined_reading.Goals as goal

pub returns-clause-reads : goal.returns-clause-reads
returns-clause-reads c = λ lists texts j a some le. joined-reads a some le

pub returns-clause-rules : goal.returns-clause-rules
returns-clause-rules c = λ lists texts j definitions a h. let x = joined-alone a h in x.3

pub returns-clause-spelled : goal.returns-clause-spelled
returns-clause-spelled c = λ lists texts j definitions a h. let x = joined-alone a h in (x.0, x.1, x.2)

pub returns-clause-long : goal.returns-clause-long
returns-clause-long c = λ lists texts j fault a some h n. joined-long fault a some h n
