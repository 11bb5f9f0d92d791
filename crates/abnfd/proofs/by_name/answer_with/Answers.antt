-- The new text has a fault, or not.
use Rattle.std.proofs.lemmas.Result.{IfOk-weaker}
use Rattle.abnfd.specs.RulesByName.{lacks_new}
use Rattle.abnfd.proofs.by_name.answer_with.Goals as goal

pub answer_to_both-requires : goal.answer_to_both-requires
answer_to_both-requires c = (c.requires.0, c.requires.1, c.requires.2, rw c.in-Some.is at c.requires.3)

pub returns-in-Some : goal.returns-in-Some
returns-in-Some c = IfOk-weaker c.answer_to_both.result _ _
    (λ a is old new first second. is old new first (rw c.in-Some.is at second)) c.answer_to_both.ensures

pub returns-in-None : goal.returns-in-None
returns-in-None c = λ old new first second. rw (c.rejected.ensures.text, c.rejected.ensures.status)
    (lacks_new (rw c.in-None.is at second))
