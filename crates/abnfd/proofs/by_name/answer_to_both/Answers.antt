use Rattle.std.proofs.lemmas.Result.{IfOk-weaker}
use Rattle.abnfd.proofs.by_name.answer_to_both.Goals as goal

pub unchanged_pairs-requires-clause-old : goal.unchanged_pairs-requires-clause-old
unchanged_pairs-requires-clause-old c = c.requires.2.folds

pub unchanged_pairs-requires-clause-new : goal.unchanged_pairs-requires-clause-new
unchanged_pairs-requires-clause-new c = c.requires.3.folds

pub answer_to_rules-requires : goal.answer_to_rules-requires
answer_to_rules-requires c = (
  c.requires.0,
  c.requires.1,
  record { olds_are = c.requires.2; news_are = c.requires.3; pairs = c.in_ok-partners.ensures },
)

pub returns : goal.returns
returns c = IfOk-weaker c.answer_to_rules.result _ _
    (λ a is old new first second. is old new
    (record { olds_are = first; news_are = second; pairs = c.in_ok-partners.ensures })) c.answer_to_rules.ensures
