use Rattle.abnfread.proofs.SaysNumLemmas.{letter-reported}
use Rattle.abnfread.proofs.words.split_base.Goals as goal

pub returns-in-Some-base_of-clause-reported : goal.returns-in-Some-base_of-clause-reported
returns-in-Some-base_of-clause-reported c = λ base d text e t. letter-reported c.in-Some.ensures
    c.in-Some-split_first.ensures.cases.0 c.in-Some-base_of.ensures.0 e t
