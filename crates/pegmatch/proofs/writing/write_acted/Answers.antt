use Rattle.std.proofs.Common.{refl, ap, Some, ◌∙◌}
use Rattle.std.specs.Prelude.{slice_range}
use Rattle.ruletable.proofs.AppendsLemmas.{Appends-same}
use Rattle.pegmatch.proofs.NodeShapeLemmas.{shape_at}
use Rattle.pegmatch.proofs.WrittenTextLemmas.{acts_so, quiet_event}
use Rattle.pegmatch.proofs.writing.write_acted.Goals as goal

pub returns-in-Act-clause-bytes : goal.returns-in-Act-clause-bytes
returns-in-Act-clause-bytes g c = λ e m.
    let same = acts_so m _ _ c.in-Acted.is (shape_at c.args.peg.now.nodes c.in-Acted.n _
    (c.node.ensures ∙ ap Some c.in-Act.is)) in
    rw same (rw c.deref.ensures.value at c.write_action.ensures.bytes)

pub returns-in_default : goal.returns-in_default
returns-in_default g c = record {
  bytes = λ e m. rw (quiet_event m c.in_default.not-Acted c.args.style
      (slice_range c.args.window.now c.args.capture.from c.args.capture.to)) (Appends-same _);
  flag = refl;
}
