-- A given name is one use.
use Rattle.std.proofs.Common.{◌∙◌}
use Rattle.std.proofs.lemmas.Result.{MatchResult-weaker}
use Rattle.abnfcheck.proofs.name_ids.judged_id.Goals as goal

pub returns-in-Some-clause-folds : goal.returns-in-Some-clause-folds
returns-in-Some-clause-folds c =
    MatchResult-weaker c.add_name.result c.add_name.ensures (λ _ added. added.case ∙ c.requires) (λ _ _. tt)

pub returns-in-Some-clause-names : goal.returns-in-Some-clause-names
returns-in-Some-clause-names c = MatchResult-weaker c.add_name.result c.add_name.ensures
    (λ _ added. rw c.in-Some.is (rw (c.as_bytes.ensures.value, c.requires) at added.all)) (λ _ _. tt)

pub returns-in-Some-clause-judged : goal.returns-in-Some-clause-judged
returns-in-Some-clause-judged c = MatchResult-weaker c.add_name.result c.add_name.ensures
    (λ _ added. rw c.in-Some.is (rw (c.as_bytes.ensures.value, c.requires) at added.at)) (λ _ _. tt)
