-- There is no judge.
use Rattle.capi.specs.JudgeCall.{not_open}
use Rattle.capi.proofs.OpenCallLemmas.{closed_is_none}
use Rattle.capi.proofs.judge_calls.abnf_judge.Goals as goal

pub returns-then-not-slot-clause-reported : goal.returns-then-not-slot-clause-reported
returns-then-not-slot-clause-reported c =
    let slot = c.args.slot.now in
    let empty = closed_is_none slot.judge.held slot.is_open slot.right c.if-not-slot.true in
    rw empty (not_open c.without_answer.ensures)
