-- A block's lines follow those before it.
use Rattle.std.proofs.Common.{rules}
use Rattle.toolrun.proofs.NotesTextLemmas.{wrote_block, wrote_prefix}
use Rattle.toolrun.proofs.notes.write_notes.Goals as goal

pub returns-in-Err-clause-bytes : goal.returns-in-Err-clause-bytes
returns-in-Err-clause-bytes g c =
    wrote_prefix _ _ _ c.args.notes.now c.loop-rest.rest.now c.min.result c.loop-rest.invariant.wrote
    (rw c.split_at.ensures.front at c.in-Err.ensures.bytes)

pub loop-rest-preserved : goal.loop-rest-preserved
loop-rest-preserved g c = record {
  wrote = rw c.split_at.ensures.back
      (wrote_block _ _ _ c.args.notes.now c.loop-rest.rest.now c.min.result c.loop-rest.invariant.wrote
      (rw c.split_at.ensures.front at c.in-Ok.ensures.bytes));
  flag = search rules;
}
