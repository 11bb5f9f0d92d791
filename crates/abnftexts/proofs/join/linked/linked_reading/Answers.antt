use Rattle.abnftexts.proofs.LinkedTextLemmas.{spells-linked, spells-after, spells-reads, reads-spells}
use Rattle.abnftexts.proofs.join.linked.linked_reading.Goals as goal

pub returns-clause-linked : goal.returns-clause-linked
returns-clause-linked c = λ a b first second l h k. spells-linked l h k

pub returns-clause-after : goal.returns-clause-after
returns-clause-after c = λ a b definitions l w h. spells-after l w h

pub returns-clause-reads : goal.returns-clause-reads
returns-clause-reads c = λ text definitions h le. spells-reads h le

pub returns-clause-spells : goal.returns-clause-spells
returns-clause-spells c = λ b bytes definitions letter h. reads-spells letter h
