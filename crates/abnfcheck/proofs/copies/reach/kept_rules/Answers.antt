-- One rule more, and all.
use Rattle.std.proofs.Common.{◌∙◌, arith, false}
use Rattle.std.proofs.lemmas.List.{length-map, take_all}
use Rattle.std.proofs.lemmas.Option.{slice_get-get_or}
use Rattle.abnfread.specs.AbnfViews.{rule_of, rules_of}
use Rattle.abnfcheck.specs.ReachedGrammar.{rules_kept}
use Rattle.abnfcheck.proofs.CopiedRulesLemmas.{rule_onto}
use Rattle.abnfcheck.proofs.ReachedGrammarLemmas.{kept_there, length_kept}
use Rattle.abnfcheck.proofs.copies.reach.kept_rules.Goals as goal

pub loop-id-preserved : goal.loop-id-preserved
loop-id-preserved c =
    let so_far = c.loop-id.invariant in
    let marks = c.args.marks.now in
    let rules = c.args.rules.now in
    let lt = c.loop-id-test.true in
    let size = length-map rules.rules rule_of in
    let len = c.len-id-end.ensures.len in
    let count = c.requires.marks in
    let next = rule_onto (rules_kept marks (rules_of rules)) rules c.len-id-end.ensures.unique c.requires.names
    c.loop-id.kept _ c.loop-id.id _ _ _ _ so_far.folds so_far.names so_far.rules c.name.ensures
    (kept_there marks rules.rules c.loop-id.id _ _ _ _ _
    (slice_get-get_or marks c.loop-id.id false (omega (arith, lt, size, len, count)))
    c.name.ensures c.body.ensures c.span.ensures c.in_ok-body.ensures) c.in_ok-define.ensures.defines in
    record { folds = next.0; names = next.1; rules = next.2 }

pub returns-clause-rules : goal.returns-clause-rules
returns-clause-rules c =
    let past = c.loop-id-test.false in
    let rules = rules_of c.args.rules.now in
    let size = length-map c.args.rules.now.rules rule_of in
    let len = c.len-id-end.ensures.len in
    let same = length_kept c.args.marks.now rules c.requires.marks in
    c.loop-id.invariant.rules
    ∙ take_all c.loop-id.id (rules_kept c.args.marks.now rules) (omega (arith, past, size, len, same))
