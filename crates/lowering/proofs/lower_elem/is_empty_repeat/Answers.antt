use Rattle.std.proofs.Common.{arith}
use Rattle.std.proofs.lemmas.Bool.Decides.{nat_tests}
use Rattle.lowering.proofs.IsEmptyRepeatLemmas as o
use Rattle.lowering.proofs.lower_elem.is_empty_repeat.Goals as goal

pub returns-then-least-eq0 : goal.returns-then-least-eq0
returns-then-least-eq0 c = λ rules el t. let z = c.if-least-eq0.true in let le = c.if-least-most.true in
    rw c.in-Some.is (o.rep_zero rules _ _ el _ (grind (arith, nat_tests, z)) (omega (arith, z)) (omega (arith, le)))

pub returns-else-least-eq0 : goal.returns-else-least-eq0
returns-else-least-eq0 c = λ rules el t. let z = c.if-least-eq0.false in let le = c.if-least-most.true in
    rw c.in-Some.is (o.rep_operand rules _ _ el _ (omega (arith, z)) (omega (arith, le)) t)

pub returns-then-least-eq0-2 : goal.returns-then-least-eq0-2
returns-then-least-eq0-2 c = λ rules el t. let z = c.if-least-eq0-2.true in
    rw c.in-None.is (o.rep_zero rules _ _ el _ (grind (arith, nat_tests, z)) (omega (arith, z)) tt)

pub returns-else-least-eq0-2 : goal.returns-else-least-eq0-2
returns-else-least-eq0-2 c = λ rules el t. let z = c.if-least-eq0-2.false in
    rw c.in-None.is (o.rep_operand rules _ _ el _ (omega (arith, z)) tt t)
