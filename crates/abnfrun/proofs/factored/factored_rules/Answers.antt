-- One rule more, and all.
use Rattle.std.proofs.Common.{List, arith, subst}
use Rattle.std.proofs.lemmas.List.{length-map, take_all}
use Rattle.abnfread.specs.AbnfViews.{rule_of, rules_of}
use Rattle.abnfread.specs.Element.{Rule}
use Rattle.abnfrun.specs.FactoredChoices.{AreFactoredRules}
use Rattle.abnfrun.proofs.FactoredRulesLemmas.{rule_next, tables_begun}
use Rattle.abnfrun.proofs.factored.factored_rules.Goals as goal

pub loop-id-init : goal.loop-id-init
loop-id-init c = tables_begun c.args.rules.now c.new-made.result c.new-made.ensures.names c.new-made.ensures.rules

pub loop-id-preserved : goal.loop-id-preserved
loop-id-preserved c =
    rule_next c.args.rules.now c.len-id-end.ensures.unique c.requires.names c.loop-id.made _ c.loop-id.id _ _ _ _ _
    c.loop-id.invariant c.name.ensures c.body.ensures c.in_ok-body.ensures c.in_ok-define.ensures.defines

pub returns-clause-rules : goal.returns-clause-rules
returns-clause-rules c =
    let past = c.loop-id-test.false in
    let size = length-map c.args.rules.now.rules rule_of in
    let len = c.len-id-end.ensures.len in
    subst (λ (rules : List Rule). AreFactoredRules rules (rules_of c.loop-id.made))
    (take_all c.loop-id.id (rules_of c.args.rules.now) (omega (arith, past, size, len))) c.loop-id.invariant.rules
