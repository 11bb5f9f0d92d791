use Rattle.fixpoint.proofs.ShortChainsLemmas as t
use Rattle.fixpoint.proofs.laws.one_chain.Goals as goal

pub returns-clause-one : goal.returns-clause-one
returns-clause-one c = λ rows s v a b x y. t.chain_is_one rows s v a b x y

pub returns-clause-short : goal.returns-clause-short
returns-clause-short c = λ rows s v n a x d. t.chain_is_short rows s v n a x d
