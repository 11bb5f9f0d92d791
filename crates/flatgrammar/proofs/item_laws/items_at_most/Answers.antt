use Rattle.flatgrammar.proofs.PositionsLemmas as counting
use Rattle.flatgrammar.proofs.item_laws.items_at_most.Goals as goal

pub returns : goal.returns
returns c = λ flat x j set different sound. counting.items_at_most flat x j set different sound
