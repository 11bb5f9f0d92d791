-- In one body more, and in all.
use Rattle.std.proofs.Common.{arith, refl}
use Rattle.std.proofs.lemmas.List.{length-map}
use Rattle.abnfread.specs.AbnfViews.{element_of, rule_of, rules_of}
use Rattle.abnfcheck.proofs.AlikeSymbolsLemmas.{rule_more, rules_alike}
use Rattle.abnfcheck.proofs.NameIdsLemmas.{body_shown}
use Rattle.abnfcheck.proofs.alike.are_rules_alike.Goals as goal

pub loop-id-preserved : goal.loop-id-preserved
loop-id-preserved c =
    rule_more (rules_of c.args.rules.now) c.args.pair.first c.args.pair.second c.loop-id.id
    (element_of c.body.result.now) (body_shown c.args.rules.now.rules c.loop-id.id c.body.result.now c.body.ensures)
    (c.is_alike.ensures.0 c.if-not-is_alike.false) c.loop-id.invariant

pub returns : goal.returns
returns c = (
  λ _. rules_alike (rules_of c.args.rules.now) c.args.pair.first c.args.pair.second c.loop-id.id
      (let size = length-map c.args.rules.now.rules rule_of in
      let len = c.len-id-end.ensures.len in
      let over = c.loop-id-test.false in
      omega (arith, size, len, over)) c.loop-id.invariant,
  λ _. refl,
)

pub returns-then-not-is_alike : goal.returns-then-not-is_alike
returns-then-not-is_alike c = (
  λ yes. absurd (cc yes),
  λ all. absurd
      (let e = c.is_alike.ensures.1 (all c.loop-id.id (element_of c.body.result.now)
      (body_shown c.args.rules.now.rules c.loop-id.id c.body.result.now c.body.ensures)) in
      let no = c.if-not-is_alike.true in cc (e, no)),
)
