-- Values among which the letter stands, and others.
use Rattle.abnfread.proofs.ElementLemmas.{element-Values}
use Rattle.abnfhints.specs.WithoutLetter.{keeps_values, drops_values}
use Rattle.abnfhints.proofs.WithoutLemmas.{any_holds, none_holds}
use Rattle.abnfhints.proofs.without.values_without.Goals as goal

pub returns-then-contains : goal.returns-then-contains
returns-then-contains c = rw c.nothing.ensures (drops_values
    (any_holds c.args.values.now c.from.result c.args.letter c.from.ensures c.if-contains.ensures.cases))

pub returns : goal.returns
returns c = rw (element-Values, c.in_ok-values.ensures.items) (keeps_values
    (none_holds c.args.values.now c.from.result c.args.letter c.from.ensures c.if-contains.ensures.cases))
