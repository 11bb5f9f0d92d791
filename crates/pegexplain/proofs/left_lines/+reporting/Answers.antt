-- One step more.
use Rattle.std.proofs.Common.{◌≡◌, suc, ◌-◌, arith}
use Rattle.diagnostics.specs.MentionLines.{mention_lines_by}
use Rattle.diagnostics.specs.declared.noteplaces.mentions.MentionKind.TheVariants as kinds
use Rattle.pegread.specs.PegViews.{rules_of}
use Rattle.pegexplain.specs.NullTests.{null_mark_of, nullable_by}
use Rattle.pegexplain.proofs.LeftStepLineLemmas.{steps-next}
use Rattle.pegexplain.proofs.left_lines.+reporting.Goals as goal

pub returns : goal.returns
returns t c =
    let other = c.if-budget-eq0.false in
    let some : c.args.budget ≡ suc (c.args.budget - 1) = omega (arith, other) in
    rw c.in-Some.ensures.cases.0 (steps-next (rules_of c.args.positions.now.rules)
    (nullable_by (null_mark_of c.args.positions.now.rules c.args.positions.now.nulls.items))
    (mention_lines_by c.args.positions.now.positions kinds.Use) c.args.first c.args.budget c.in-Some.id.now
    c.next_of-next.result c.in-Some.rest.now c.push_step_between.new.out.items
    c.push_steps.new.out.items c.args.out.now.items some c.next_of-next.ensures c.in_ok-push_step_between.ensures
    c.in_ok-push_steps.ensures)
