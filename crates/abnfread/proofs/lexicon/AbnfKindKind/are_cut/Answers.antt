use Rattle.abnfread.proofs.AbnfSliceLemmas.{white-alone, first-ends, first-longest, first-less, first-last, one-next}
use Rattle.abnfread.proofs.lexicon.AbnfKindKind.are_cut.Goals as goal

pub returns-clause-white : goal.returns-clause-white
returns-clause-white c = λ t r h. white-alone h

pub returns-clause-ends : goal.returns-clause-ends
returns-clause-ends c = λ k t r h. first-ends h

pub returns-clause-longest : goal.returns-clause-longest
returns-clause-longest c = λ k t r h. first-longest h

pub returns-clause-less : goal.returns-clause-less
returns-clause-less c = λ k t r e h. first-less e h

pub returns-clause-last : goal.returns-clause-last
returns-clause-last c = λ k t r e h. first-last e h

pub returns-clause-one : goal.returns-clause-one
returns-clause-one c = one-next
