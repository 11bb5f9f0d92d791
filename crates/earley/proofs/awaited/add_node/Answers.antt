use Rattle.std.proofs.Common.{◌+◌, ◌∙◌, ap, subst, sym}
use Rattle.earley.proofs.OldDotsLemmas.{AddsFirst, first_all, first_more, first_none, first_same}
use Rattle.earley.proofs.awaited.add_node.Goals.{then-dot-node+in_ok-push, else-dot-node}
use Rattle.earley.proofs.awaited.add_node.Goals as goal

pub loop-dot-init : goal.loop-dot-init
loop-dot-init c = first_none c.args.dots.now c.args.node c.args.old.now.items

pub loop-dot-preserved : goal.loop-dot-preserved
loop-dot-preserved c =
    elim c.if-dot-node.branch [
      | then-dot-node+in_ok-push w ↦ first_more c.args.dots.now c.args.node c.args.old.now.items c.loop-dot.dot-index _
          c.loop-dot.old.items c.loop-dot-test.true c.loop-dot.invariant _
          (ap (λ v. v.items) w.old-is ∙ w.in_ok-push.ensures.items) w.if-dot-node.true
      | else-dot-node w ↦ subst
          (λ v. AddsFirst c.args.dots.now (c.loop-dot.dot-index + 1) c.args.node c.args.old.now.items v.items)
          (sym w.old-is)
          (first_same c.args.dots.now c.args.node c.args.old.now.items c.loop-dot.dot-index _ c.loop-dot.old.items
          c.loop-dot-test.true c.loop-dot.invariant w.if-dot-node.false)
    ]

pub returns : goal.returns
returns c =
    first_all c.args.dots.now c.args.node c.args.old.now.items c.loop-dot.dot-index c.loop-dot.old.items
    c.loop-dot-test.false c.loop-dot.invariant
