use Rattle.std.proofs.Common.{◌++◌, ◌∙◌, List, Option, ℕ, ap, subst}
use Rattle.std.specs.Prelude.{IfOk}
use Rattle.abnfcheck.proofs.RuleIdLemmas.{id_found}
use Rattle.abnfread.specs.AbnfViews.{element_of, rules_of}
use Rattle.diagnostics.specs.ShownBytes.{cut}
use Rattle.refusedlines.specs.PartTexts.{IsTextFor}
use Rattle.refusedlines.specs.RuleNames.{shown_name}
use Rattle.refusedlines.proofs.part_texts.element_text.Goals as goal

pub returns-in_default : goal.returns-in_default
returns-in_default c =
    let none = rw c.in_default.is at c.element_name.ensures in
    subst (λ (named : Option (List ℕ)). IfOk c.leaf_text.result (λ text. IsTextFor c.args.alphabet
    (rules_of c.args.rules.now) (element_of c.args.e.now) c.args.read named text.items)) none c.leaf_text.ensures

pub returns : goal.returns
returns c =
    let rules = rules_of c.args.rules.now in
    let id = c.unwrap_or-id.ensures ∙ id_found _ _ _ _ c.requires c.in_ok-found.ensures.found c.len.ensures.len in
    subst (λ (named : Option (List ℕ)). IsTextFor c.args.alphabet rules (element_of c.args.e.now) c.args.read named
    c.push_cut.new.out.items)
    c.in-Some.ensures
    (c.in_ok-push_cut.ensures ∙ ap (λ v. v ++ cut c.rule_name.result.now) c.new-text.ensures.items
    ∙ ap cut c.rule_name.ensures ∙ ap (shown_name rules) id)
