use Rattle.rfcforms.proofs.ListLemmas.{expansion-same, lines-same}
use Rattle.rfcforms.proofs.lists.written.one_expansion.Goals as goal

pub returns-clause-expanded : goal.returns-clause-expanded
returns-clause-expanded c = λ form text a b x y. expansion-same x y

pub returns-clause-lines : goal.returns-clause-lines
returns-clause-lines c = λ text a b x y. lines-same x y
