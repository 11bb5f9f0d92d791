use Rattle.abnfd.proofs.CompareAnswersLemmas.{answer_cut, answer_written}
use Rattle.abnfd.proofs.run.write_answer.Goals as goal

pub returns-in-Ok : goal.returns-in-Ok
returns-in-Ok g c = answer_written c.args.answer.now.text.items c.args.answer.now.status _ _ _ _
    (rw c.as_slice.ensures.value at c.in-Ok.ensures.bytes) c.in-Ok.ensures.flag

pub returns-in-Err : goal.returns-in-Err
returns-in-Err g c = answer_cut c.args.answer.now.text.items c.args.answer.now.status _ _ _ _ c.in-Err.fault
    (rw c.as_slice.ensures.value at c.in-Err.ensures.bytes) c.in-Err.ensures.flag
