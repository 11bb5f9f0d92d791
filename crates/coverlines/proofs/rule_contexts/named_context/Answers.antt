-- The site names a rule, or none.
use Rattle.std.proofs.Common.{◌≡◌, ◌∙◌, ◌≤◌, length, arith, refl, sym, subst}
use Rattle.std.proofs.lemmas.List.{length-map}
use Rattle.abnfcheck.proofs.RuleIdLemmas.{id_found}
use Rattle.abnfread.specs.AbnfViews.{element_of, rule_of, rules_of}
use Rattle.abnfread.specs.Element.{Name, id_of}
use Rattle.coverlines.proofs.RuleContextsLemmas.{found_inside}
use Rattle.coverlines.proofs.rule_contexts.named_context.Goals as goal

pub returns-in_default-2 : goal.returns-in_default-2
returns-in_default-2 c = λ name o outer element.
    let at = id_found c.args.rules.now c.in-Some-name_of.name.now c.in_ok-id.field-0 (length c.args.rules.now.rules)
    c.requires c.in_ok-id.ensures.found refl in
    let is : length c.args.rules.now.rules ≡ id_of (rules_of c.args.rules.now) c.in-Some-name_of.name.now =
    rw c.in_default-2.is at at in
    let one : element_of c.args.site.now.elem.now ≡ Name c.in-Some-name_of.name.now = c.in-Some-name_of.ensures in
    let both : Name c.in-Some-name_of.name.now ≡ Name name = sym one ∙ element in
    let same : c.in-Some-name_of.name.now ≡ name = cc both in
    let n = length-map c.args.rules.now.rules rule_of in
    subst (λ v. length (rules_of c.args.rules.now) ≤ id_of (rules_of c.args.rules.now) v) same (omega (arith, is, n))

pub returns : goal.returns
returns c = record {
  context = c.in-Some.outer;
  name = c.in-Some-name_of.name.now;
  outer_is = c.in-Some.is;
  element_is = c.in-Some-name_of.ensures;
  id_is =
      let at = id_found c.args.rules.now c.in-Some-name_of.name.now c.in_ok-id.field-0
      (length c.args.rules.now.rules) c.requires c.in_ok-id.ensures.found refl in rw c.in-Some-2.is at at;
  inside =
      let lt = found_inside c.args.rules.now c.in-Some-name_of.name.now c.in-Some-2.id
      (sym c.in_ok-id.ensures.found ∙ c.in-Some-2.is) in
      let n = length-map c.args.rules.now.rules rule_of in omega (arith, lt, n);
  before = c.in_ok-context.ensures.before;
  after = c.in_ok-context.ensures.after;
}
