use Rattle.std.proofs.Common.{◌≡◌, ◌+◌, length}
use Rattle.rfcforms.specs.XmlPieces.{run_size}
use Rattle.rfcforms.proofs.xml.piece.run_size.Given as goal

abbrev pub invariant-loop-first : goal.invariant-loop-first
invariant-loop-first l = record {
  size : l.size + length l.rest ≡ length l.text;
  same : l.size + run_size l.a l.b l.rest ≡ run_size l.a l.b l.text;
}

abbrev pub decreases-loop-first : goal.decreases-loop-first
decreases-loop-first l = length l.rest
