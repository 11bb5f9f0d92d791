use Rattle.pegread.proofs.SpellsBytesLemmas.{one-literal}
use Rattle.pegread.proofs.spelling_laws.spells_one_literal.Goals as goal

pub returns : goal.returns
returns c = one-literal
