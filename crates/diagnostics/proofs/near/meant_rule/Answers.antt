use Rattle.std.proofs.Common.{◌∙◌, arith}
use Rattle.std.proofs.lemmas.List.{length-map}
use Rattle.ruletable.specs.Rules.{names_of}
use Rattle.diagnostics.proofs.NearNamesLemmas.{near-by, none-more, none-near, not-near-by, some-near}
use Rattle.diagnostics.proofs.near.meant_rule.Goals as goal

pub returns-then-branch : goal.returns-then-branch
returns-then-branch g c =
    let lt = c.loop-id-test.true in
    let end = c.min-id-end.ensures in
    some-near c.args.name.now (names_of c.args.rules.now) c.args.count c.loop-id.id c.name-rule.result.now
    (omega (arith, lt, end)) c.name-rule.ensures
    (near-by c.args.name.now c.name-rule.result.now c.deref.result.now c.in_ok-is_near.field-0
    (c.deref.ensures.value ∙ c.in_ok-lower.ensures) c.in_ok-is_near.ensures c.if-branch.true)
    c.loop-id.invariant

pub loop-id-preserved : goal.loop-id-preserved
loop-id-preserved g c =
    let lt = c.loop-id-test.true in
    let end = c.min-id-end.ensures in
    none-more c.args.name.now (names_of c.args.rules.now) c.args.count c.loop-id.id c.name-rule.result.now
    (omega (arith, lt, end)) c.name-rule.ensures
    (not-near-by c.args.name.now c.name-rule.result.now c.deref.result.now c.in_ok-is_near.field-0
    (c.deref.ensures.value ∙ c.in_ok-lower.ensures) c.in_ok-is_near.ensures c.if-branch.false)
    c.loop-id.invariant

pub returns : goal.returns
returns g c =
    let past = c.loop-id-test.false in
    let within = c.loop-id.auto.id-end in
    let end = c.min-id-end.ensures in
    let len = c.len.ensures.len in
    none-near c.args.name.now (names_of c.args.rules.now) c.args.count c.loop-id.id
    (omega (arith, past, within, end, len, length-map c.args.rules.now.rules (λ rule. rule.name)))
    c.loop-id.invariant
