-- The pieces so far have been taken, and no call has failed.
use Rattle.std.proofs.Common.{◌≡◌, take}
use Rattle.std.specs.Io.KnownBytes.{Appends}
use Rattle.std.specs.List.{flat_map}
use Rattle.ruletable.proofs.sink.write_pieces.Given as goal

abbrev pub invariant-loop-piece : goal.invariant-loop-piece
invariant-loop-piece g l = record {
  taken : Appends (g.W.Sink.contents l.fn.w) (g.W.Sink.contents l.w)
      (flat_map (λ p. p.now) (take l.piece-index l.pieces));
  flag : g.W.Sink.failed l.w ≡ g.W.Sink.failed l.fn.w;
}
