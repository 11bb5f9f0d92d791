use Rattle.std.proofs.Common.{rules}
use Rattle.pegread.specs.Slices.{none}
use Rattle.pegread.proofs.SliceLemmas.{names-on, names-longest}
use Rattle.pegread.proofs.lexing.after_name.Goals as goal

pub loop-first-preserved : goal.loop-first-preserved
loop-first-preserved c = λ r n. c.loop-first.invariant r (names-on c.in-Some.ensures.cases.0 (search rules) n)

pub returns-then-not-is_inner-clause-names : goal.returns-then-not-is_inner-clause-names
returns-then-not-is_inner-clause-names c = c.loop-first.invariant _ none

pub returns-then-not-is_inner-clause-longest : goal.returns-then-not-is_inner-clause-longest
returns-then-not-is_inner-clause-longest c = λ r n. names-longest (c.loop-first.invariant _ none)
    (rw c.in-Some.ensures.cases.0 (search rules)) n

pub returns-in_default-clause-names : goal.returns-in_default-clause-names
returns-in_default-clause-names c = c.loop-first.invariant _ none
