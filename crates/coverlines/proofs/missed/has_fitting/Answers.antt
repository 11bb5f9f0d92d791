-- One list more.
use Rattle.std.proofs.Common.{refl}
use Rattle.coverlines.proofs.MissedGoalsLemmas as m
use Rattle.coverlines.proofs.missed.has_fitting.Goals as goal

pub loop-one-init : goal.loop-one-init
loop-one-init c = m.none_fits c.args.made.now c.args.way c.args.limit c.args.room

pub loop-one-preserved : goal.loop-one-preserved
loop-one-preserved c = m.next_unfit c.args.made.now c.args.way c.args.limit c.args.room c.loop-one.one-index
    c.one-item.result c.loop-one-test.true c.one-item.is c.loop-one.invariant (λ h.
    let yes = c.is_fitting.ensures.1 h in let no = c.if-is_fitting.false in absurd (cc (yes, no)))

pub returns-then-is_fitting : goal.returns-then-is_fitting
returns-then-is_fitting c = (
  λ is. m.one_fits c.args.made.now c.args.way c.args.limit c.args.room c.loop-one.one-index c.one-item.result
      c.loop-one-test.true c.one-item.is (c.is_fitting.ensures.0 c.if-is_fitting.true),
  λ h. refl,
)

pub returns : goal.returns
returns c = (
  λ is. absurd (cc is),
  λ h. absurd (m.all_unfit c.args.made.now c.args.way c.args.limit c.args.room c.loop-one.one-index
      c.loop-one-test.false c.loop-one.invariant h),
)
