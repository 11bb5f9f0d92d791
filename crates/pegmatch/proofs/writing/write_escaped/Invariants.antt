use Rattle.std.proofs.Common.{◌≡◌, length}
use Rattle.pegmatch.proofs.FilledEscapedLemmas.{ArePiecesWritten}
use Rattle.pegmatch.proofs.writing.write_escaped.Given as goal

abbrev pub invariant-loop-piece : goal.invariant-loop-piece
invariant-loop-piece g l = record {
  text : ArePiecesWritten (g.W.Sink.contents l.initial.out) (g.W.Sink.contents l.out) l.text l.capture l.rest;
  flag : g.W.Sink.failed l.out ≡ g.W.Sink.failed l.initial.out;
}

abbrev pub decreases-loop-piece : goal.decreases-loop-piece
decreases-loop-piece g l = length l.rest
