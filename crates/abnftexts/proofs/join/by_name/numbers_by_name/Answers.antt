use Rattle.abnftexts.specs.GivenRules.{text_rule}
use Rattle.abnftexts.specs.ListedRules.{is_listed_for}
use Rattle.diagnostics.proofs.NumberListsLemmas.{lists-more, lists-none}
use Rattle.abnftexts.proofs.join.by_name.numbers_by_name.Goals as goal

pub loop-number-init : goal.loop-number-init
loop-number-init c = (
  c.new-lists.ensures.names,
  lists-none (λ name r. is_listed_for c.args.listed name (text_rule r)) c.args.rules.now c.new-lists.result
      c.new-lists.ensures.rules,
)

pub loop-number-preserved : goal.loop-number-preserved
loop-number-preserved c = (
  c.in_ok-list_rule.ensures.0,
  lists-more (λ name r. is_listed_for c.args.listed name (text_rule r)) c.args.rules.now
      c.loop-number.lists c.list_rule.new.lists c.loop-number.number c.index-rules-number.result
      c.loop-number-test.true c.index-rules-number.is
      c.loop-number.invariant.1 c.in_ok-list_rule.ensures.1,
)
