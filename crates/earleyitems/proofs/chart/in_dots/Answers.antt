use Rattle.std.proofs.Common.{refl}
use Rattle.earleyitems.proofs.ViewsLemmas.{dots_none, dots_some}
use Rattle.earleyitems.proofs.chart.in_dots.Goals as goal

pub returns-then-same : goal.returns-then-same
returns-then-same c = (
  (λ u. dots_some c.args.number c.args.item c.args.dots.now c.loop-dot.dot-index _
      c.loop-dot-test.true (c.same.ensures.0 c.if-same.true)),
  (λ h. refl),
)

pub loop-dot-preserved : goal.loop-dot-preserved
loop-dot-preserved c = dots_none c.args.number c.args.item c.args.dots.now c.loop-dot.dot-index _
    c.loop-dot-test.true c.loop-dot.invariant
    (λ is. let t = c.same.ensures.1 is in let f = c.if-same.false in absurd cc)
