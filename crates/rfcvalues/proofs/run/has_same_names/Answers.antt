use Rattle.std.proofs.Common.{◌≡◌, ◌∙◌, ◌++◌, ◌∷◌, [], ℕ, List, Option, None, ap, false, get_or, map, refl, sym, take}
use Rattle.std.proofs.Common.{true, ◌+◌}
use Rattle.std.specs.Option.{is_some}
use Rattle.std.specs.List.{list_any}
use Rattle.ruletable.specs.Rules.{find_in, same_name}
use Rattle.ruletable.specs.declared.table.NameCase.TheVariants.{Fold}
use Rattle.rfcvalues.specs.declared.sketch.RuleSketch.{RuleSketch}
use Rattle.rfcvalues.proofs.SameNamesLemmas.{known-any, names-defined, next-name, next-same, none-found, same-first}
use Rattle.rfcvalues.proofs.SameNamesLemmas.{same-none}
use Rattle.rfcvalues.proofs.run.has_same_names.Goals as goal

pub loop-rule-init : goal.loop-rule-init
loop-rule-init c = record {
  folds = c.new-names.ensures.names;
  known = ap (map (λ rule. rule.name)) c.new-names.ensures.rules;
  apart = refl;
}

pub loop-rule-preserved : goal.loop-rule-preserved
loop-rule-preserved c =
    let rules = c.args.rules.now in
    let i = c.loop-rule.rule-index in
    let item = c.rule-item.result in
    let h = c.loop-rule.invariant in
    let is : item ≡ get_or rules i item = c.rule-item.is in
    let named = ap (λ (r : RuleSketch). r.name.items) is in
    let known = known-any c.loop-rule.names c.deref.result.now _ c.in_ok-find.field-0 h.folds h.known
    c.in_ok-find.ensures.found in
    let no = sym c.is_some.ensures ∙ c.if-is_some.false in
    let none = sym c.in_ok-find.ensures.found ∙ none-found c.in_ok-find.field-0 no in
    let defined = names-defined c.loop-rule.names c.define.new.self _ c.in_ok-define.field-0
    c.in_ok-define.ensures.defines
    (ap (find_in c.loop-rule.names) (c.deref-in-loop-rule.ensures.value ∙ sym c.deref.ensures.value) ∙ none) in
    record {
      folds = defined.0 ∙ h.folds;
      known = defined.1
          ∙ ap (λ (ns : List (List ℕ)). ns ++ c.deref-in-loop-rule.result.now ∷ []) h.known
          ∙ ap (λ (n : List ℕ). map (λ (r : RuleSketch). r.name.items) (take i rules) ++ n ∷ [])
          (c.deref-in-loop-rule.ensures.value ∙ named)
          ∙ sym (next-name rules i item c.loop-rule-test.true);
      apart = next-same rules i item c.loop-rule-test.true false
          (sym no ∙ known ∙ ap (λ (n : List ℕ). list_any (same_name Fold n)
          (map (λ (r : RuleSketch). r.name.items) (take i rules))) (c.deref.ensures.value ∙ named)) h.apart;
    }

pub returns-then-is_some : goal.returns-then-is_some
returns-then-is_some c =
    let rules = c.args.rules.now in
    let i = c.loop-rule.rule-index in
    let item = c.rule-item.result in
    let h = c.loop-rule.invariant in
    let is : item ≡ get_or rules i item = c.rule-item.is in
    let named = ap (λ (r : RuleSketch). r.name.items) is in
    let known = known-any c.loop-rule.names c.deref.result.now _ c.in_ok-find.field-0 h.folds h.known
    c.in_ok-find.ensures.found in
    let yes = sym c.is_some.ensures ∙ c.if-is_some.true in
    same-first rules (i + 1) (next-same rules i item c.loop-rule-test.true true
    (sym yes ∙ known ∙ ap (λ (n : List ℕ). list_any (same_name Fold n)
    (map (λ (r : RuleSketch). r.name.items) (take i rules))) (c.deref.ensures.value ∙ named)) h.apart)

pub returns : goal.returns
returns c = same-none c.args.rules.now c.loop-rule.rule-index c.loop-rule-test.false c.loop-rule.invariant.apart
