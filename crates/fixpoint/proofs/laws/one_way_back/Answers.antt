use Rattle.fixpoint.proofs.RoundsLemmas as t
use Rattle.fixpoint.proofs.laws.one_way_back.Goals as goal

pub returns : goal.returns
returns c = λ rows s a b x y. t.round_is_one rows s a b x y
