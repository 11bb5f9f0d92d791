use Rattle.std.proofs.Common.{◌++◌, ◌∙◌, ap}
use Rattle.diagnostics.specs.MentionLines.{mention_lines_by}
use Rattle.diagnostics.specs.declared.noteplaces.mentions.MentionKind.TheVariants as kinds
use Rattle.pegexplain.specs.NullTests.{null_mark_of, nullable_by}
use Rattle.pegexplain.proofs.LeftStepLineLemmas.{step-known}
use Rattle.pegexplain.proofs.left_lines.push_step_between.Goals as goal

pub returns : goal.returns
returns c =
    let step = (let k = c.in_ok-push_step.ensures in rw (
      c.as_slice.ensures.value,
      c.in_ok-after.ensures,
      c.in_ok-skipped.ensures,
      c.in_ok-line.ensures,
      c.deref.ensures.value,
    ) at k) in
    step ∙ ap (λ z. c.args.out.now.items ++ z) (step-known c.args.positions.now.rules
    (nullable_by (null_mark_of c.args.positions.now.rules c.args.positions.now.nulls.items))
    (mention_lines_by c.args.positions.now.positions kinds.Use) c.args.from c.args.to c.name-rule.result.now
    c.name-name.result.now c.body-body.result.now c.name-rule.ensures c.body-body.ensures c.name-name.ensures)
