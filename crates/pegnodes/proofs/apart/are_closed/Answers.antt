use Rattle.std.proofs.Common.{◌≡◌, ◌∙◌, ℕ, true, arith}
use Rattle.std.proofs.lemmas.Option.{slice_get_within}
use Rattle.fixpoint.specs.NumberMarks.{IsMarked}
use Rattle.pegnodes.specs.ClosedMarks.{wanted_step}
use Rattle.pegnodes.specs.Nodes.{Shape, shape_of, shapes_of}
use Rattle.pegnodes.proofs.HasShapeLemmas.{node_at, length-shapes}
use Rattle.pegnodes.proofs.IsApartLemmas.{each_before_next, marked_here}
use Rattle.pegnodes.proofs.apart.are_closed.Goals as goal
use Rattle.pegnodes.proofs.apart.are_closed.Goals.{else-is_wanted-via-then-is_wanted+else-not-mark_or}
use Rattle.pegnodes.proofs.apart.are_closed.Goals.{else-is_wanted-via-else-is_wanted}

pub loop-n-preserved : goal.loop-n-preserved
loop-n-preserved c =
    let marked : c.is_wanted.result ≡ true → IsMarked c.args.marks.now c.loop-n.n = elim c.else-is_wanted.branch [
      | else-is_wanted-via-then-is_wanted+else-not-mark_or w ↦
          λ _. marked_here c.args.marks.now c.loop-n.n w.mark_or.result w.mark_or.ensures w.if-not-mark_or.false
      | else-is_wanted-via-else-is_wanted w ↦ λ is. let no = w.if-is_wanted.false in absurd (cc (is, no))
    ] in
    each_before_next
    (λ (n : ℕ) (shape : Shape). wanted_step c.args.wanted c.args.bodies.now c.args.marks.now n shape ≡ true →
    IsMarked c.args.marks.now n)
    (shapes_of c.args.nodes.now) c.loop-n.n (shape_of c.index-nodes-n.result)
    (node_at _ _ _ c.loop-n-test.true c.index-nodes-n.is) (λ wanted. marked (c.is_wanted.ensures ∙ wanted))
    c.loop-n.invariant

pub returns : goal.returns
returns c = λ _ n shape at.
    let within = slice_get_within (shapes_of c.args.nodes.now) n shape at in
    let end = c.loop-n-test.false in
    let count = length-shapes c.args.nodes.now in
    c.loop-n.invariant n (omega (arith, within, end, count)) shape at
