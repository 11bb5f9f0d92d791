-- The notes so far have been written, and no call has failed.
use Rattle.std.proofs.Common.{◌≡◌, take}
use Rattle.std.specs.Io.KnownBytes.{Appends}
use Rattle.std.specs.List.{flat_map}
use Rattle.ruletable.specs.Notes.{note_text, said_of}
use Rattle.toolrun.proofs.notes.write_lines.Given as goal

abbrev pub invariant-loop-note : goal.invariant-loop-note
invariant-loop-note g l = record {
  taken : Appends (g.W.Sink.contents l.fn.w) (g.W.Sink.contents l.w)
      (flat_map (λ n. note_text (said_of n)) (take l.note-index l.notes));
  flag : g.W.Sink.failed l.w ≡ g.W.Sink.failed l.fn.w;
}
