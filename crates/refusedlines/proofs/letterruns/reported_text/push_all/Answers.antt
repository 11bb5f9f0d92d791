use Rattle.refusedlines.proofs.ReportedTextLemmas.{slashed_next}
use Rattle.refusedlines.proofs.letterruns.reported_text.push_all.Goals as goal

pub loop-i-preserved : goal.loop-i-preserved
loop-i-preserved c = slashed_next _ _ _ _ _ _ _ c.loop-i-test.true c.loop-i.invariant c.in_ok-push_slash.ensures
    c.in_ok-push_reported.ensures
