use Rattle.pegread.proofs.CharFormLemmas.{char-plain}
use Rattle.pegread.proofs.escape.next_char.Goals as goal

pub returns-else-first-eq92 : goal.returns-else-first-eq92
returns-else-first-eq92 c = rw (c.in_ok-first.ensures.cases.0) (char-plain c.if-first-eq92.false)
