use Rattle.std.proofs.Common.{◌∙◌, ap, map, arith}
use Rattle.fixpoint.specs.StepRows.{rows_of}
use Rattle.ruletable.specs.Rules as table
use Rattle.ruletable.specs.Rules.{find_in}
use Rattle.pegread.specs.PegViews.{pattern_of}
use Rattle.pegread.specs.declared.expr.Expr.{Expr}
use Rattle.pegexplain.specs.LeftUses.{left_row}
use Rattle.pegexplain.specs.NullTests.{null_mark_of, nullable_by}
use Rattle.pegexplain.proofs.LeadBackLemmas.{rows-lead-back}
use Rattle.pegexplain.proofs.LeftRowsLemmas.{rows-next, rules-taken}
use Rattle.pegexplain.proofs.left_uses.left_rows.Goals as goal

pub loop-id-preserved : goal.loop-id-preserved
loop-id-preserved c = rows-next (λ e. left_row (find_in c.args.rules.now)
    (nullable_by (null_mark_of c.args.rules.now c.args.marks.now)) (pattern_of e)) c.args.rules.now.rules c.loop-id.id
    c.body.result.now c.loop-id.rows.items c.push.new.self.items c.in_ok-row_of.field-0 c.body.ensures
    c.in_ok-row_of.ensures c.in_ok-push.ensures.items c.loop-id.invariant

pub returns-clause-back : goal.returns-clause-back
returns-clause-back c = λ exact are.
    let over = c.loop-id-test.false in
    let count = c.len-id-end.ensures.len in
    rows-lead-back c.args.rules.now c.args.marks.now (rows_of c.loop-id.rows.items) exact are
    (c.loop-id.invariant ∙ ap (map (λ (rule : table.Rule Expr). left_row (find_in c.args.rules.now)
    (nullable_by (null_mark_of c.args.rules.now c.args.marks.now)) (pattern_of rule.body)))
    (rules-taken c.args.rules.now.rules c.loop-id.id (omega (arith, over, count))))
