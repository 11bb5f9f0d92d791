use Rattle.pegread.proofs.SpellsSetLemmas.{one-class}
use Rattle.pegread.proofs.spelling_laws.spells_one_class.Goals as goal

pub returns : goal.returns
returns c = one-class
