-- A part of one piece after those before it.
use Rattle.ruletable.proofs.AppendsLemmas.{AppendsPart-at}
use Rattle.ruletable.proofs.sink.write_pieces.Goals as goal

pub returns-in-Err-clause-bytes : goal.returns-in-Err-clause-bytes
returns-in-Err-clause-bytes g c =
    AppendsPart-at (λ p. p.now) c.args.pieces.now c.loop-piece.piece-index _ _ _ _ c.loop-piece-test.true
    c.loop-piece.invariant.taken c.in-Err.ensures.bytes
