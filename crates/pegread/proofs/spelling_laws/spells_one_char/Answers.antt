use Rattle.pegread.proofs.CharFrontLemmas.{char-one}
use Rattle.pegread.proofs.spelling_laws.spells_one_char.Goals as goal

pub returns : goal.returns
returns c = char-one
