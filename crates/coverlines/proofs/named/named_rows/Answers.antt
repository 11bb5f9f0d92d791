-- One rule more.
use Rattle.std.proofs.Common.{◌≡◌, arith, length, subst}
use Rattle.std.proofs.lemmas.List.{length-map, map-append}
use Rattle.fixpoint.specs.StepRows.{rows_of}
use Rattle.abnfread.specs.AbnfViews.{element_of, rule_of, rules_of}
use Rattle.coverlines.proofs.KnownWordsLemmas.{body_shown}
use Rattle.coverlines.proofs.NamedIdsLemmas as n
use Rattle.coverlines.proofs.NamedIdsLemmas.{AreNamedRowsTo}
use Rattle.coverlines.proofs.named.named_rows.Goals as goal

pub loop-id-init : goal.loop-id-init
loop-id-init c = rw c.new-rows.ensures.items (n.no_named_rows (rules_of c.args.rules.now))

pub loop-id-preserved : goal.loop-id-preserved
loop-id-preserved c = rw (c.in_ok-push.ensures.items, map-append) (n.next_named_rows (rules_of c.args.rules.now)
    (rows_of c.loop-id.rows.items) c.add_named.new.row.items c.loop-id.id (element_of c.body.result.now)
    (body_shown c.args.rules.now.rules c.loop-id.id c.body.result.now c.body.ensures)
    (rw c.new-row.ensures.items at c.in_ok-add_named.ensures) c.loop-id.invariant)

pub returns : goal.returns
returns c =
    let m = length-map c.args.rules.now.rules rule_of in
    let k = c.len-id-end.ensures.len in
    let up = c.loop-id.auto.id-end in
    let le = c.loop-id-test.false in
    let same : c.loop-id.id ≡ length (rules_of c.args.rules.now) = omega (arith, m, k, up, le) in
    n.all_named_rows (rules_of c.args.rules.now) (rows_of c.loop-id.rows.items)
    (subst (AreNamedRowsTo (rules_of c.args.rules.now) (rows_of c.loop-id.rows.items)) same c.loop-id.invariant)
