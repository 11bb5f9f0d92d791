use Rattle.pegread.proofs.CharFrontLemmas.{some-char, no-char}
use Rattle.pegread.proofs.spelling_laws.spells_some_char.Goals as goal

pub returns : goal.returns
returns c = record { some = some-char; none = no-char }
