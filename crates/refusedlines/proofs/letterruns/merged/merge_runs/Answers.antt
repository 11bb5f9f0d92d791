use Rattle.refusedlines.proofs.LetterRunLemmas.{before_more, same_more}
use Rattle.refusedlines.proofs.letterruns.merged.merge_runs.Goals as goal

pub loop-run-preserved : goal.loop-run-preserved
loop-run-preserved c = record {
  apart = c.in_ok-join_run.ensures.apart;
  before = before_more _ _ _ _ _ c.deref-run-items.ensures.value c.put_in_order.ensures.ordered c.loop-run-test.true
      c.in_ok-join_run.ensures.before;
  same = same_more _ _ _ _ _ c.loop-run-test.true c.loop-run.invariant.same c.in_ok-join_run.ensures.same;
}
