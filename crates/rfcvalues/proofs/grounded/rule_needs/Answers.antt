use Rattle.std.proofs.Common.{◌≡◌, ◌∙◌, ◌++◌, ◌∷◌, [], List, ap, length, map, sym, take, get_or}
use Rattle.std.proofs.lemmas.List.{map-append, take_all}
use Rattle.fixpoint.specs.Demands.{Demand, owned_demand_of, owned_demands_of}
use Rattle.rfcvalues.specs.GroundedNeeds.{rule_demand}
use Rattle.rfcvalues.specs.RuleSketches.{rule_sketched}
use Rattle.rfcvalues.specs.declared.sketch.RuleSketch.{RuleSketch}
use Rattle.rfcvalues.proofs.SameNamesLemmas.{next-rule}
use Rattle.rfcvalues.proofs.grounded.rule_needs.Goals as goal

pub loop-rule-preserved : goal.loop-rule-preserved
loop-rule-preserved c =
    let rules = c.args.rules.now in
    let i = c.loop-rule.rule-index in
    let item = c.rule-item.result in
    let lists = c.args.lists.now in
    let front = map (rule_demand lists (length rules)) (map rule_sketched (take i rules)) in
    ap owned_demands_of c.in_ok-push.ensures.items
    ∙ map-append owned_demand_of c.loop-rule.needs.items (c.in_ok-need.need ∷ [])
    ∙ ap (λ (ds : List Demand). ds ++ owned_demand_of c.in_ok-need.need ∷ []) c.loop-rule.invariant
    ∙ ap (λ (d : Demand). front ++ d ∷ []) (c.in_ok-need.ensures
    ∙ ap (λ (r : RuleSketch). rule_demand lists (length rules) (rule_sketched r)) c.rule-item.is)
    ∙ sym (ap (map (rule_demand lists (length rules))) (next-rule rules i item c.loop-rule-test.true)
    ∙ map-append (rule_demand lists (length rules)) (map rule_sketched (take i rules))
    (rule_sketched (get_or rules i item) ∷ []))

pub returns : goal.returns
returns c =
    c.loop-rule.invariant
    ∙ ap (λ (rs : List RuleSketch). map (rule_demand c.args.lists.now (length c.args.rules.now)) (map rule_sketched rs))
    (take_all c.loop-rule.rule-index c.args.rules.now c.loop-rule-test.false)
