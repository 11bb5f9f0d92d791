use Rattle.abnfread.proofs.ElementLemmas.{element-Concat, element-Rep}
use Rattle.lowering.specs.Pruned.{keep_rep}
use Rattle.lowering.proofs.PruneLemmas as o
use Rattle.lowering.proofs.pruned.prune_repeat.Goals as goal

pub returns-then-not-is_within : goal.returns-then-not-is_within
returns-then-not-is_within c test rules el left =
    o.reversed_unproductive test rules c.args.least c.args.most el
    (λ within. absurd (cc (c.if-not-is_within.true, c.is_within.ensures.1 within)))

pub returns-in_ok-operand-in-Some : goal.returns-in_ok-operand-in-Some
returns-in_ok-operand-in-Some c test rules el left =
    rw (element-Rep, c.in_ok-operand-in-Some.ensures.ok)
    (keep_rep (c.is_within.ensures.0 c.if-not-is_within.false) (rw c.in-Some.is at left))

pub returns-then-least-eq0 : goal.returns-then-least-eq0
returns-then-least-eq0 c test rules el left =
    rw (element-Concat, c.new-then-least-eq0.ensures.items)
    (o.empty_left test rules c.args.least c.args.most el c.if-least-eq0.true (rw c.in-None.is at left))

pub returns-else-least-eq0 : goal.returns-else-least-eq0
returns-else-least-eq0 c test rules el left = o.no_iteration test rules c.args.least c.args.most el c.if-least-eq0.false
    (rw c.in-None.is at left)
