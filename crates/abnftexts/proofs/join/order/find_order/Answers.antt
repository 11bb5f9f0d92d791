use Rattle.std.proofs.Common.{arith, map, rules}
use Rattle.std.proofs.lemmas.Grind.{common_steps}
use Rattle.abnftexts.specs.GivenRules.{text_rule}
use Rattle.abnftexts.specs.JoinedRules.{printed_at}
use Rattle.abnftexts.specs.ListedRules.{is_listed_for}
use Rattle.abnftexts.specs.declared.join.by_name.Listed.TheVariants.{Additions}
use Rattle.abnftexts.proofs.FatesLemmas.{one-more}
use Rattle.diagnostics.proofs.NumberListsLemmas.{lists-more, lists-none}
use Rattle.abnftexts.proofs.join.order.find_order.Goals as goal

pub loop-number-init : goal.loop-number-init
loop-number-init c = record {
  order = search rules;
  listed = (
    c.new-added.ensures.names,
    lists-none (λ name r. is_listed_for Additions name (text_rule r)) c.args.rules.now c.new-added.result
        c.new-added.ensures.rules,
  );
}

pub loop-number-preserved : goal.loop-number-preserved
loop-number-preserved c = record {
  order = one-more (printed_at (map text_rule c.args.rules.now))
      c.args.rules.now c.loop-number.number c.index-rules-number.result c.loop-number.order.items
      c.push_printed.new.order.items _ c.loop-number-test.true c.index-rules-number.is c.in_ok-push_printed.ensures
      c.loop-number.invariant.order;
  listed = (
    c.in_ok-list_rule.ensures.0,
    lists-more (λ name r. is_listed_for Additions name (text_rule r)) c.args.rules.now
        c.loop-number.added c.list_rule.new.lists c.loop-number.number c.index-rules-number.result
        c.loop-number-test.true c.index-rules-number.is
        c.loop-number.invariant.listed.1 c.in_ok-list_rule.ensures.1,
  );
}

pub returns : goal.returns
returns c = grind (arith, common_steps)
