-- One rule more.
use Rattle.std.proofs.Common.{[], ◌∷◌, ap, arith, length, length-append}
use Rattle.std.proofs.lemmas.List.{length-map}
use Rattle.abnfread.specs.AbnfViews.{element_of, rule_of, rules_of}
use Rattle.coverlines.proofs.KnownWordsLemmas.{body_below, body_shown}
use Rattle.coverlines.proofs.RuleContextsLemmas.{next_rule_sites}
use Rattle.coverlines.proofs.cover.rule_sites.Goals as goal

pub loop-id-preserved : goal.loop-id-preserved
loop-id-preserved c = record {
  count =
      let n = ap length c.in_ok-push.ensures.items in
      let m = length-append c.loop-id.all.items (c.in_ok-sites.field-0 ∷ []) in
      let k = c.loop-id.invariant.count in omega (arith, n, m, k);
  each = λ known. next_rule_sites c.args.words.now.bounds (rules_of c.args.rules.now) c.loop-id.id
      (element_of c.body.result.now) c.loop-id.all.items c.push.new.self.items c.in_ok-sites.field-0
      c.in_ok-push.ensures.items c.loop-id.invariant.count
      (body_shown c.args.rules.now.rules c.loop-id.id c.body.result.now c.body.ensures)
      (c.in_ok-sites.ensures (rules_of c.args.rules.now) known) (c.loop-id.invariant.each known);
}

pub returns : goal.returns
returns c = λ known. record {
  count = let n = c.loop-id.invariant.count in let m = length-map c.args.rules.now.rules rule_of in
      let l = c.len-id-end.ensures.len in let le = c.loop-id-test.false in let up = c.loop-id.auto.id-end in
      omega (arith, n, m, l, le, up);
  each = λ id body at. c.loop-id.invariant.each known id body
      (let lt = body_below (rules_of c.args.rules.now) id body at in
      let m = length-map c.args.rules.now.rules rule_of in let l = c.len-id-end.ensures.len in
      let le = c.loop-id-test.false in omega (arith, lt, m, l, le)) at;
}
