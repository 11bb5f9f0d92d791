use Rattle.std.proofs.Common.{◌∙◌}
use Rattle.pegmatch.proofs.FilledEscapedLemmas.{piece_written, piece_fault}
use Rattle.pegmatch.proofs.writing.write_escaped.Goals as goal

pub loop-piece-preserved : goal.loop-piece-preserved
loop-piece-preserved g c = record {
  text = piece_written _ _ _ c.args.text.now c.args.capture.now _ _ _ c.in-Some.ensures c.loop-piece.invariant.text
      c.in-Ok.ensures.bytes;
  flag = c.in-Ok.ensures.flag ∙ c.loop-piece.invariant.flag;
}

pub returns-in-Err-clause-bytes : goal.returns-in-Err-clause-bytes
returns-in-Err-clause-bytes g c = piece_fault _ _ _ c.args.text.now c.args.capture.now _ _ _ c.in-Some.ensures
    c.loop-piece.invariant.text c.in-Err.ensures.bytes
