use Rattle.std.proofs.Common.{rules}
use Rattle.abnfread.specs.AbnfSlices.{none}
use Rattle.abnfread.proofs.ByteRunLemmas.{run-on, stops-nothing}
use Rattle.abnfread.proofs.scan.after_run.Goals as goal

pub loop-first-preserved : goal.loop-first-preserved
loop-first-preserved c = λ r n. c.loop-first.invariant r (run-on c.in-Some.ensures.cases.0 (search rules) n)

pub returns-then-not-is_in-clause-run : goal.returns-then-not-is_in-clause-run
returns-then-not-is_in-clause-run c = c.loop-first.invariant _ none

pub returns-then-not-is_in-clause-all : goal.returns-then-not-is_in-clause-all
returns-then-not-is_in-clause-all c = rw c.in-Some.ensures.cases.0 (search rules)

pub returns-in_default-clause-run : goal.returns-in_default-clause-run
returns-in_default-clause-run c = c.loop-first.invariant _ none

pub returns-in_default-clause-all : goal.returns-in_default-clause-all
returns-in_default-clause-all c = stops-nothing _ _ c.in_default.ensures.cases
