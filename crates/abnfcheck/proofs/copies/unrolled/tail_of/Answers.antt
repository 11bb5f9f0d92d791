-- The name is that of the rule exactly if its id is.
use Rattle.std.proofs.Common.{◌≡◌, ◌∙◌, ap, sym, option_map, List, ℕ, Option}
use Rattle.abnfread.specs.AbnfViews.{elements_of, rules_of}
use Rattle.abnfread.specs.Element.{Elements}
use Rattle.abnfcheck.proofs.RuleIdLemmas.{id_found}
use Rattle.abnfcheck.specs.UnrolledRules.{tail_after}
use Rattle.abnfcheck.proofs.UnrolledRulesLemmas.{tail_is, tail_not}
use Rattle.abnfcheck.proofs.copies.unrolled.tail_of.Goals.{then-found-id, else-found-id}
use Rattle.abnfcheck.proofs.copies.unrolled.tail_of.Goals as goal

pub returns : goal.returns
returns c =
    let rules = rules_of c.args.rules.now in
    let name = c.in-Some.name.now in
    let rest = elements_of c.in-Some.rest.now in
    let found = c.unwrap_or-found.ensures
    ∙ id_found c.args.rules.now name _ _ c.requires.folds c.in_ok-find.ensures.found c.len.ensures.len in
    let split = ap (λ o. option_map (λ s. (s.0.now, elements_of s.1.now)) o) (sym c.in-Some.is)
    ∙ c.split_name.ensures in
    let after = ap (λ (o : Option (List ℕ × Elements)). tail_after rules c.args.id o) split in
    elim c.if-found-id.branch [
      | then-found-id w ↦ ap (λ o. option_map (λ es. elements_of es.now) o) w.result-is
          ∙ (tail_is rules c.args.id name rest _ found w.if-found-id.true ∙ after)
      | else-found-id w ↦ ap (λ o. option_map (λ es. elements_of es.now) o) w.result-is
          ∙ (tail_not rules c.args.id name rest _ found w.if-found-id.false ∙ after)
    ]
