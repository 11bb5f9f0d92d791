use Rattle.std.proofs.Common.{◌≡◌, subst, arith, inl, inr, Some}
use Rattle.std.specs.Prelude.{slice_get}
use Rattle.std.proofs.lemmas.Bool.{cases_lt}
use Rattle.std.proofs.lemmas.List.{length-map}
use Rattle.std.proofs.lemmas.Option.{slice_get_within}
use Rattle.abnfread.specs.AbnfViews.{element_of, rule_of, rules_of}
use Rattle.abnfread.specs.Element.{bodies, Rule}
use Rattle.abnfcheck.proofs.NameIdsLemmas.{body_shown}
use Rattle.abnfcheck.specs.CountsWithin.{CountsWithin}
use Rattle.abnfcheck.proofs.counts.are_rules_within.Goals as goal

pub loop-id-preserved : goal.loop-id-preserved
loop-id-preserved c = λ id el lt is. elim (cases_lt id c.loop-id.id) [
  | inl less ↦ c.loop-id.invariant id el less is
  | inr more ↦
      let here : id ≡ c.loop-id.id = omega (arith, lt, more) in
      let shown = body_shown c.args.rules.now.rules c.loop-id.id c.body.result.now c.body.ensures in
      let there = subst (λ v. slice_get (bodies (rules_of c.args.rules.now)) v ≡ Some el) here is in
      let same : element_of c.body.result.now ≡ el = cc (shown, there) in
      subst (λ v. CountsWithin c.args.limit v) same (c.is_within.ensures c.if-not-is_within.false)
]

pub returns : goal.returns
returns c = λ _ id el is.
    let within = slice_get_within (bodies (rules_of c.args.rules.now)) id el is in
    let bodies_size = length-map (rules_of c.args.rules.now) (λ (rule : Rule). rule.body) in
    let rules_size = length-map c.args.rules.now.rules rule_of in
    let size = c.len-id-end.ensures.len in
    let over = c.loop-id-test.false in
    c.loop-id.invariant id el (omega (arith, within, bodies_size, rules_size, size, over)) is
