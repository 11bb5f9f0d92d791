use Rattle.std.proofs.Common.{◌∙◌, arith, length, refl, sym}
use Rattle.std.proofs.lemmas.Option.{slice_get-get_or}
use Rattle.std.proofs.Math.Seq.{map-set_same}
use Rattle.memo.specs.TaskLinks.{position_of_cell}
use Rattle.memo.proofs.TaskLinksLemmas.{linked_set}
use Rattle.memo.proofs.index.relink.Goals as goal

pub loop-i-preserved : goal.loop-i-preserved
loop-i-preserved c = record {
  linked = linked_set (length c.loop-i.heads) c.loop-i.cells c.loop-i.heads c.loop-i.i c.bucket-at.result _
      (omega arith) refl c.loop-i.invariant.linked (c.loop-i.invariant.linked.heads _ _
      (slice_get-get_or c.loop-i.heads c.bucket-at.result 0 c.bucket-at.ensures.within))
      (sym c.bucket-at.ensures.value);
  same = map-set_same position_of_cell c.loop-i.cells c.loop-i.i _ _ refl ∙ c.loop-i.invariant.same;
}
