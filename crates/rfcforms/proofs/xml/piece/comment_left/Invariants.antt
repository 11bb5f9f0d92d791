use Rattle.std.proofs.Common.{◌≡◌, ◌+◌, length}
use Rattle.rfcforms.specs.XmlPieces.{comment_left}
use Rattle.rfcforms.proofs.xml.piece.comment_left.Given as goal

abbrev pub invariant-loop-tail : goal.invariant-loop-tail
invariant-loop-tail l = record {
  size : l.size + length l.rest ≡ length l.text;
  same : l.size + comment_left l.rest ≡ comment_left l.text;
}

abbrev pub decreases-loop-tail : goal.decreases-loop-tail
decreases-loop-tail l = length l.rest
