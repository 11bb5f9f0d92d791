use Rattle.std.proofs.Common.{◌≡◌, ◌∙◌, ◌++◌, ◌∷◌, [], ℕ, List, ap, map, sym, take, if◌then◌else◌}
use Rattle.std.proofs.lemmas.List.{take_all}
use Rattle.ruletable.specs.Rules.{same_name}
use Rattle.ruletable.specs.declared.table.NameCase.{NameCase}
use Rattle.ruletable.specs.declared.table.NameCase.TheVariants.{Fold}
use Rattle.diagnostics.proofs.NumberListsLemmas.{lists-more, lists-none}
use Rattle.diagnostics.specs.NumberLists.{numbers_for, positions_from}
use Rattle.rfcvalues.specs.AssignedValues.{goes_by}
use Rattle.rfcvalues.specs.RuleSketches.{rule_sketched}
use Rattle.rfcvalues.specs.declared.sketch.RuleSketch.{RuleSketch}
use Rattle.rfcvalues.proofs.GroundedRulesLemmas.{positions-map}
use Rattle.rfcvalues.proofs.grounded.numbers_by_name.Goals as goal

pub loop-number-init : goal.loop-number-init
loop-number-init c = (
  c.new-lists.ensures.names,
  lists-none (λ name r. goes_by name (rule_sketched r)) c.args.rules.now c.new-lists.result c.new-lists.ensures.rules,
)

pub loop-number-preserved : goal.loop-number-preserved
loop-number-preserved c =
    let i = c.loop-number.number in
    let item = c.index-rules-number.result in
    let old = c.loop-number.lists in (
      c.in_ok-add_number.ensures.names ∙ c.loop-number.invariant.0,
      lists-more (λ name r. goes_by name (rule_sketched r)) c.args.rules.now old c.add_number.new.lists i item
          c.loop-number-test.true c.index-rules-number.is c.loop-number.invariant.1
          (λ other. c.in_ok-add_number.ensures.added other
          ∙ ap (λ (names : NameCase). numbers_for old other ++ (if same_name names other c.deref.result.now then i ∷ []
          else [])) c.loop-number.invariant.0
          ∙ ap (λ (n : List ℕ). numbers_for old other ++ (if same_name Fold other n then i ∷ [] else []))
          (c.deref.ensures.value ∙ ap (λ (r : RuleSketch). r.name.items) (sym c.index-rules-number.is))),
    )

pub returns : goal.returns
returns c = (
  c.loop-number.invariant.0,
  λ name. c.loop-number.invariant.1 name
      ∙ ap (λ (rows : List RuleSketch). positions_from 0 (λ rule. goes_by name (rule_sketched rule)) rows)
      (take_all c.loop-number.number c.args.rules.now c.loop-number-test.false)
      ∙ positions-map (goes_by name) rule_sketched 0 c.args.rules.now,
)
