-- The lines before the rest have been written, and no call has failed.
use Rattle.std.proofs.Common.{◌≡◌, length}
use Rattle.toolrun.proofs.NotesTextLemmas.{Wrote}
use Rattle.toolrun.proofs.notes.write_notes.Given as goal

abbrev pub invariant-loop-rest : goal.invariant-loop-rest
invariant-loop-rest g l = record {
  wrote : Wrote (g.W.Sink.contents l.fn.w) (g.W.Sink.contents l.w) l.notes l.rest;
  flag : g.W.Sink.failed l.w ≡ g.W.Sink.failed l.fn.w;
}

abbrev pub decreases-loop-rest : goal.decreases-loop-rest
decreases-loop-rest g l = length l.rest
