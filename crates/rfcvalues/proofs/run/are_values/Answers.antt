use Rattle.std.proofs.Common.{◌≡◌, ◌∙◌, ◌++◌, ◌∷◌, [], Bool, List, ap, map, subst, sym}
use Rattle.rfcvalues.specs.AssignedValues.{AreValueMarks}
use Rattle.rfcvalues.specs.GroundedNeeds.{value_marks}
use Rattle.rfcvalues.specs.RuleSketches.{rule_sketched}
use Rattle.rfcvalues.proofs.ValueMarksLemmas.{marks-values, values-all, values-more}
use Rattle.rfcvalues.proofs.run.are_values.Goals as goal

pub loop-rule-init : goal.loop-rule-init
loop-rule-init c =
    ap (λ (vs : List Bool). vs ++ value_marks (map rule_sketched c.args.rules.now) c.as_slice-left.result.now)
    c.new-values.ensures.items

pub loop-rule-preserved : goal.loop-rule-preserved
loop-rule-preserved c =
    values-more c.args.rules.now c.loop-rule.rule-index c.rule-item.result c.loop-rule.left.now
    c.loop-rule.values.items c.push.new.self.items c.items_after-left.result.now c.is_first_marked.result
    (value_marks (map rule_sketched c.args.rules.now) c.as_slice-left.result.now) c.loop-rule-test.true c.rule-item.is
    c.loop-rule.invariant c.is_first_marked.ensures c.items_after-left.ensures
    (c.in_ok-push.ensures.items ∙ ap (λ (b : Bool). c.loop-rule.values.items ++ b ∷ []) c.is_value.ensures)

pub returns : goal.returns
returns c =
    let rules = map rule_sketched c.args.rules.now in
    let all = values-all c.args.rules.now c.loop-rule.rule-index c.loop-rule.left.now c.loop-rule.values.items
    (value_marks rules c.as_slice-left.result.now) c.loop-rule-test.false c.loop-rule.invariant
    ∙ ap (value_marks rules) c.as_slice-left.ensures.value in
    subst (λ (marks : List Bool). AreValueMarks rules marks) (sym all)
    (marks-values rules c.in_ok-grounded.grounded.items c.in_ok-grounded.ensures)
