-- One rule more, and all.
use Rattle.std.proofs.Common.{◌∙◌, ap, arith, ℕ, ◌+◌, ◌≡◌}
use Rattle.std.proofs.lemmas.List.{length-map, take_all}
use Rattle.abnfread.specs.AbnfViews.{element_of, rule_of, rules_of}
use Rattle.abnfcheck.specs.UnrolledRules.{unrolled_body, unrolled_from}
use Rattle.abnfcheck.proofs.CopiedRulesLemmas.{rule_onto}
use Rattle.abnfcheck.proofs.UnrolledRulesLemmas.{length_unrolled, unrolled_there}
use Rattle.abnfcheck.proofs.copies.unrolled.unrolled_rules.Goals as goal

pub loop-id-preserved : goal.loop-id-preserved
loop-id-preserved c =
    let rules = rules_of c.args.rules.now in
    let so_far = c.loop-id.invariant in
    let same : c.loop-id.id ≡ 0 + c.loop-id.id = omega arith in
    let next = rule_onto (unrolled_from rules 0 rules) c.args.rules.now c.len-id-end.ensures.unique c.requires.names
    c.loop-id.made _ c.loop-id.id _ _ _ _ so_far.folds so_far.names so_far.rules c.name.ensures
    (unrolled_there rules 0 c.args.rules.now.rules c.loop-id.id _ _ _ _ c.name.ensures c.body.ensures c.span.ensures
    (c.in_ok-body.ensures ∙ ap (λ (k : ℕ). unrolled_body rules k (element_of c.body.result.now)) same))
    c.in_ok-define.ensures.defines in
    record { folds = next.0; names = next.1; rules = next.2 }

pub returns-clause-rules : goal.returns-clause-rules
returns-clause-rules c =
    let rules = rules_of c.args.rules.now in
    let past = c.loop-id-test.false in
    let size = length-map c.args.rules.now.rules rule_of in
    let len = c.len-id-end.ensures.len in
    let same = length_unrolled rules 0 rules in
    c.loop-id.invariant.rules
    ∙ take_all c.loop-id.id (unrolled_from rules 0 rules) (omega (arith, past, size, len, same))
