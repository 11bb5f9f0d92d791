-- The line is too long, or judged.
use Rattle.std.proofs.Common.{arith}
use Rattle.capi.specs.JudgeCall.{answers, costly, no_memory, overlong}
use Rattle.capi.proofs.answer.judge_line.Goals as goal

pub returns-then-line-limit-clause-reported : goal.returns-then-line-limit-clause-reported
returns-then-line-limit-clause-reported c =
    let above = c.if-line-limit.true in
    let limit = c.limit.ensures in
    overlong c.args.judge.now (omega (arith, above, limit)) (rw c.code.ensures at c.without_answer.ensures)

pub returns-in-Ok-clause-reported : goal.returns-in-Ok-clause-reported
returns-in-Ok-clause-reported c =
    let within = c.if-line-limit.false in
    let limit = c.limit.ensures in
    answers c.args.judge.now c.in-Ok.said (omega (arith, within, limit)) c.in-Ok.ensures.answer c.answer_of.ensures

pub returns-in-Err-Costly-clause-reported : goal.returns-in-Err-Costly-clause-reported
returns-in-Err-Costly-clause-reported c =
    let more = rw c.in-Err-Costly.field-0-is at c.in-Err-Costly.ensures.costly in
    costly c.args.judge.now _ more c.without_answer-in-Err-Costly.ensures

pub returns-in-Err-Memory-clause-reported : goal.returns-in-Err-Memory-clause-reported
returns-in-Err-Memory-clause-reported c =
    no_memory c.args.judge.now (rw c.code-in-Err-Memory.ensures at c.without_answer-in-Err-Memory.ensures)
