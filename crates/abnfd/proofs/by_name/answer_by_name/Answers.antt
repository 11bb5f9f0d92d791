-- The old text has a fault, or not.
use Rattle.std.proofs.lemmas.Result.{IfOk-weaker}
use Rattle.abnfd.specs.RulesByName.{lacks_old}
use Rattle.abnfd.proofs.by_name.answer_by_name.Goals as goal

pub answer_with-requires : goal.answer_with-requires
answer_with-requires c = (c.requires.0, c.requires.1, rw c.in-Some.is at c.requires.2, c.requires.3)

pub returns-in-Some : goal.returns-in-Some
returns-in-Some c = IfOk-weaker c.answer_with.result _ _
    (λ a is old new first second. is old new (rw c.in-Some.is at first) second) c.answer_with.ensures

pub returns-in-None : goal.returns-in-None
returns-in-None c = λ old new first second. rw (c.rejected.ensures.text, c.rejected.ensures.status)
    (lacks_old (rw c.in-None.is at first))
