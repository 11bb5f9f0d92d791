use Rattle.pegread.proofs.SpellsBytesLemmas.{some-literal}
use Rattle.pegread.proofs.spelling_laws.spells_some_literal.Goals as goal

pub returns : goal.returns
returns c = some-literal
