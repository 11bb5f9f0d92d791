use Rattle.std.proofs.Common.{ap, ◌∙◌}
use Rattle.flatgrammar.specs.ItemClosures.{ReadsAny}
use Rattle.flatgrammar.proofs.DotListLemmas.{pick_one, leave_one}
use Rattle.flatgrammar.proofs.dot_list.readers_of.Goals as goal
use Rattle.flatgrammar.proofs.dot_list.readers_of.Goals.{then-reads_any+in_ok-push, else-reads_any}

pub loop-dot-preserved : goal.loop-dot-preserved
loop-dot-preserved c = elim c.if-reads_any.branch [
  | then-reads_any+in_ok-push w ↦ pick_one (ReadsAny c.args.flat.now) c.args.from.now c.loop-dot.list.items _
      c.loop-dot.dot-index _ c.loop-dot-test.true (ap (λ v. v.items) w.list-is ∙ w.in_ok-push.ensures.items)
      c.loop-dot.invariant
  | else-reads_any w ↦ leave_one (ReadsAny c.args.flat.now) c.args.from.now c.loop-dot.list.items _
      c.loop-dot.dot-index _ c.loop-dot-test.true (ap (λ v. v.items) w.list-is)
      (λ is. let t = c.reads_any.ensures is in let f = w.if-reads_any.false in absurd (cc (t, f))) c.loop-dot.invariant
]
