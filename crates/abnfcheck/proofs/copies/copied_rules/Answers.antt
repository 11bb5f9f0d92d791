-- One rule more, and all.
use Rattle.std.proofs.Common.{◌∙◌, arith}
use Rattle.std.proofs.lemmas.List.{length-map, take_all}
use Rattle.abnfread.specs.AbnfViews.{rule_of, rules_of}
use Rattle.abnfcheck.proofs.CopiedRulesLemmas.{rule_next}
use Rattle.abnfcheck.proofs.copies.copied_rules.Goals as goal

pub loop-id-preserved : goal.loop-id-preserved
loop-id-preserved c =
    let so_far = c.loop-id.invariant in
    let next = rule_next c.args.rules.now c.len-id-end.ensures.unique c.requires c.loop-id.copy _ c.loop-id.id _ _ _ _ _
    so_far.folds so_far.names so_far.rules c.name.ensures c.body.ensures c.span.ensures c.in_ok-body.ensures
    c.in_ok-define.ensures.defines in
    record { folds = next.0; names = next.1; rules = next.2 }

pub returns-clause-rules : goal.returns-clause-rules
returns-clause-rules c =
    let past = c.loop-id-test.false in
    let size = length-map c.args.rules.now.rules rule_of in
    let len = c.len-id-end.ensures.len in
    c.loop-id.invariant.rules ∙ take_all c.loop-id.id (rules_of c.args.rules.now) (omega (arith, past, size, len))
