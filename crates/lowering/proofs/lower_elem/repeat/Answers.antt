use Rattle.lowering.specs.Lowered.{shows_rep, shows_iterations}
use Rattle.lowering.proofs.IsEmptyRepeatLemmas.{reversed_is_nothing}
use Rattle.lowering.proofs.lower_elem.repeat.Goals as goal

pub returns-then-is_reversed-clause-shows : goal.returns-then-is_reversed-clause-shows
returns-then-is_reversed-clause-shows c = λ rules nodes el reported sp. reversed_is_nothing _ _ _ _ _ _
    (c.is_reversed.ensures.yes c.if-is_reversed.true)

pub returns-then-made-clause-shows : goal.returns-then-made-clause-shows
returns-then-made-clause-shows c = λ rules nodes el reported sp. shows_iterations c.capped_most.ensures
    (c.is_reversed.ensures.no c.if-is_reversed.false) (reported.yes c.if-made.true) sp

pub returns-else-made-clause-shows : goal.returns-else-made-clause-shows
returns-else-made-clause-shows c = λ rules nodes el reported sp. shows_rep c.capped.ensures
    c.capped_most-else-made.ensures
    (c.is_reversed.ensures.no c.if-is_reversed.false) (reported.no c.if-made.false) sp
