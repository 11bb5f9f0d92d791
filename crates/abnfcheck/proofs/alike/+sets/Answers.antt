-- The values of an element.
use Rattle.std.proofs.Common.{sym}
use Rattle.abnfread.proofs.ElementLemmas.{element-Values}
use Rattle.abnfcheck.proofs.alike.+sets.Goals as goal

pub is_alike-returns-in-Values : goal.is_alike-returns-in-Values
is_alike-returns-in-Values t c =
    rw (c.in-Values.is, element-Values, sym c.deref-in-Values.ensures.value) c.are_values_alike.ensures
