use Rattle.pegread.proofs.SpellsSetLemmas.{some-class}
use Rattle.pegread.proofs.spelling_laws.spells_some_class.Goals as goal

pub returns : goal.returns
returns c = some-class
