-- All rules are asked for, or one.
use Rattle.std.proofs.lemmas.Result.{IfOk-weaker}
use Rattle.abnfd.specs.RulesByName.{on_all, on_one}
use Rattle.abnfd.proofs.by_name.compare_asked.Goals as goal

pub returns-then-settings : goal.returns-then-settings
returns-then-settings c = IfOk-weaker c.compare_by_name.result _ _ (λ r is. rw c.if-settings.true (on_all is))
    c.compare_by_name.ensures

pub returns-else-settings : goal.returns-else-settings
returns-else-settings c = IfOk-weaker c.compare_texts.result _ _
    (λ r is. rw c.if-settings.false
    (on_one (rw (c.as_slice.ensures.value, c.as_slice-else-settings.ensures.value) at is))) c.compare_texts.ensures
