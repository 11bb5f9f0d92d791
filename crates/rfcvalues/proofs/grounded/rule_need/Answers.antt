use Rattle.std.proofs.Common.{◌≡◌, ◌∙◌, List, Vec, Global, ℕ, ap, map, sym}
use Rattle.std.specs.List.{list_any}
use Rattle.fixpoint.specs.Demands.{All}
use Rattle.rfcvalues.specs.AssignedValues.{is_core}
use Rattle.rfcvalues.specs.GroundedNeeds.{word_numbers}
use Rattle.rfcvalues.specs.RuleSketches.{rule_sketched}
use Rattle.rfcvalues.proofs.GroundedRulesLemmas.{bytes_of, demand-core, demand-marked, demand-one}
use Rattle.rfcvalues.proofs.grounded.rule_need.Goals as goal

pub returns-then-rule : goal.returns-then-rule
returns-then-rule c =
    ap All c.new.ensures.items
    ∙ demand-marked c.args.lists.now c.args.first (rule_sketched c.args.rule.now) c.if-rule.true

pub returns-then-branch : goal.returns-then-branch
returns-then-branch c =
    ap All c.new-then-branch.ensures.items
    ∙ demand-core c.args.lists.now c.args.first (rule_sketched c.args.rule.now)
    (ap (λ (ws : List (Vec ℕ Global)). list_any is_core (map bytes_of ws)) (sym c.deref.ensures.value)
    ∙ sym c.in_ok-has_core.ensures ∙ c.if-branch.true)

pub returns : goal.returns
returns c =
    demand-one c.args.lists.now c.args.first (rule_sketched c.args.rule.now) c.in_ok-row.row.items c.if-rule.false
    (ap (λ (ws : List (Vec ℕ Global)). list_any is_core (map bytes_of ws)) (sym c.deref.ensures.value)
    ∙ sym c.in_ok-has_core.ensures ∙ c.if-branch.false)
    (c.in_ok-row.ensures
    ∙ ap (λ (ws : List (Vec ℕ Global)). word_numbers c.args.lists.now c.args.first (map bytes_of ws))
    c.deref-2.ensures.value)
