use Rattle.pegread.proofs.CharFormLemmas.{char-letter, char-itself}
use Rattle.pegread.proofs.escape.next_escape.Goals as goal

pub returns-in-Some-letter_byte : goal.returns-in-Some-letter_byte
returns-in-Some-letter_byte c = rw (c.in_ok-first.ensures.cases.0) (char-letter c.in-Some-letter_byte.ensures)

pub returns-in-None : goal.returns-in-None
returns-in-None c = rw (c.in_ok-first.ensures.cases.0)
    (char-itself c.in-None.ensures (record { octal = c.in_default.ensures; hex = c.if-first-eq120.false }))
