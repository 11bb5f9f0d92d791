use Rattle.std.proofs.Common.{◌∙◌, ◌++◌, ◌∷◌, [], Bool, List, ℕ, ap, arith, if◌then◌else◌, rules}
use Rattle.std.proofs.lemmas.Grind.{common_steps}
use Rattle.ruletable.specs.Rules.{same_name}
use Rattle.ruletable.specs.declared.table.NameCase.{NameCase}
use Rattle.diagnostics.specs.NumberLists.{numbers_for}
use Rattle.abnftexts.specs.GivenRules.{text_rule}
use Rattle.abnftexts.specs.ListedRules.{has_key}
use Rattle.abnftexts.specs.RuleKeys.{rule_key}
use Rattle.abnftexts.proofs.FatesLemmas.{fates-more}
use Rattle.diagnostics.proofs.NumberListsLemmas.{lists-more, lists-none}
use Rattle.abnftexts.proofs.join.fate.find_fates.Goals as goal

pub loop-number-init : goal.loop-number-init
loop-number-init c = record {
  fates = search rules;
  listed = (
    c.new-keys.ensures.names,
    lists-none (λ key r. has_key key (text_rule r)) c.args.rules.now c.new-keys.result c.new-keys.ensures.rules,
  );
}

pub loop-number-preserved : goal.loop-number-preserved
loop-number-preserved c =
    let old = c.loop-number.keys in
    let so_far = c.loop-number.invariant.listed in
    let rule = text_rule c.index-rules-number.result in
    record {
      fates = rw c.in_ok-push.ensures.items
          (fates-more c.args.rules.now c.loop-number.number c.index-rules-number.result c.in_ok-fate.fate
          c.loop-number.fates.items _ c.loop-number-test.true c.index-rules-number.is c.in_ok-fate.ensures
          c.loop-number.invariant.fates);
      listed = (
        c.in_ok-add_number.ensures.names ∙ so_far.0,
        lists-more (λ key r. has_key key (text_rule r)) c.args.rules.now old c.add_number.new.lists c.loop-number.number
            c.index-rules-number.result c.loop-number-test.true c.index-rules-number.is so_far.1
            (λ other. c.in_ok-add_number.ensures.added other
            ∙ ap (λ (same : Bool). numbers_for old other ++ (if same then c.loop-number.number ∷ [] else []))
            (ap (λ (key : List ℕ). same_name old.names other key)
            (c.deref-in-loop-number.ensures.value ∙ c.in_ok-key.ensures)
            ∙ ap (λ (case : NameCase). same_name case other (rule_key rule)) so_far.0)),
      );
    }

pub returns : goal.returns
returns c = grind (arith, common_steps)
