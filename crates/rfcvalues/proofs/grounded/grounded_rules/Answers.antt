use Rattle.std.proofs.Common.{◌≡◌, ◌∙◌, ◌++◌, ℕ, List, Bool, ap, length, map, subst, sym}
use Rattle.std.proofs.lemmas.List.{length-map}
use Rattle.fixpoint.specs.Demands.{AreNeedsWithin, Demand, demands_of, owned_demands_of}
use Rattle.fixpoint.specs.Least.{AreMarksOfThose}
use Rattle.rfcvalues.specs.GroundedNeeds.{all_demands, name_demands, rule_demand}
use Rattle.rfcvalues.specs.RuleSketches.{rule_sketched}
use Rattle.rfcvalues.proofs.GroundedRulesLemmas.{marks-grounded, needs-within}
use Rattle.rfcvalues.proofs.grounded.grounded_rules.Goals as goal

pub least-requires : goal.least-requires
least-requires c =
    let rules = map rule_sketched c.args.rules.now in
    let lists = c.in_ok-lists.lists in
    let size = sym (length-map c.args.rules.now rule_sketched) in
    let whole : demands_of c.deref-2.result.now ≡ all_demands lists rules =
    ap demands_of c.deref-2.ensures.value ∙ c.in_ok-borrowed.ensures ∙ ap owned_demands_of c.deref.ensures.value
    ∙ c.in_ok-push_name_needs.ensures.needs
    ∙ ap (λ (ds : List Demand). ds ++ name_demands lists) c.in_ok-needs.ensures
    ∙ ap (λ (n : ℕ). map (rule_demand lists n) rules ++ name_demands lists) size in
    subst AreNeedsWithin (sym whole)
    (needs-within rules lists c.in_ok-lists.ensures c.in_ok-push_name_needs.ensures.unique)

pub returns : goal.returns
returns c =
    let rules = map rule_sketched c.args.rules.now in
    let lists = c.in_ok-lists.lists in
    let size = sym (length-map c.args.rules.now rule_sketched) in
    let marks = c.in_ok-least.field-0.items in
    let whole : demands_of c.deref-2.result.now ≡ all_demands lists rules =
    ap demands_of c.deref-2.ensures.value ∙ c.in_ok-borrowed.ensures ∙ ap owned_demands_of c.deref.ensures.value
    ∙ c.in_ok-push_name_needs.ensures.needs
    ∙ ap (λ (ds : List Demand). ds ++ name_demands lists) c.in_ok-needs.ensures
    ∙ ap (λ (n : ℕ). map (rule_demand lists n) rules ++ name_demands lists) size in
    marks-grounded rules lists c.in_ok-lists.ensures marks
    (subst (λ (ds : List Demand). AreMarksOfThose ds marks) whole c.in_ok-least.ensures.marks)
