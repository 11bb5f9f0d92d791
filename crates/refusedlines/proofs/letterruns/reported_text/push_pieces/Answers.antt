use Rattle.std.proofs.lemmas.Result.{IfOk-weaker}
use Rattle.refusedlines.proofs.ReportedTextLemmas.{pieces_pushed}
use Rattle.refusedlines.proofs.letterruns.reported_text.push_pieces.Goals as goal

pub returns : goal.returns
returns c = IfOk-weaker c.push_more.result _ _
    (λ _ put. pieces_pushed c.args.all.now c.min-shown.result _ _ _ _ c.min-shown.ensures c.in_ok-push_all.ensures
    c.saturating_sub.ensures put) c.push_more.ensures
