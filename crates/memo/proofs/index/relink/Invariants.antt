use Rattle.std.proofs.Common.{◌≡◌, length, take}
use Rattle.memo.specs.TaskLinks.{positions_of, bucket_of_cell, AreLinkedCells}
use Rattle.memo.proofs.index.relink.Given as goal

abbrev pub invariant-loop-i : goal.invariant-loop-i
invariant-loop-i l = record {
  linked : AreLinkedCells (bucket_of_cell (length l.heads)) (take l.i l.cells) l.heads;
  same : positions_of l.cells ≡ positions_of l.fn.cells;
}
