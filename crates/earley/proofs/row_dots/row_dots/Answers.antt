use Rattle.std.proofs.Common.{◌∙◌, ap, true≢false, sym}
use Rattle.earley.specs.RowSets.{HasSome}
use Rattle.earley.proofs.RowDotsLemmas.{dots_more, dots_same}
use Rattle.earley.proofs.row_dots.row_dots.Goals as goal
use Rattle.earley.proofs.row_dots.row_dots.Goals.{then-has_some+in_ok-push, else-has_some}

pub loop-position-preserved : goal.loop-position-preserved
loop-position-preserved c = elim c.if-has_some.branch [
  | then-has_some+in_ok-push w ↦ dots_more c.args.dots.now (HasSome c.args.rows.now) c.loop-position.position _
      c.loop-position.found.items _
      c.loop-position-test.true c.loop-position.invariant (ap (λ v. v.items) w.found-is ∙ w.in_ok-push.ensures.items)
      (c.has_some.ensures.0 w.if-has_some.true)
  | else-has_some w ↦ dots_same c.args.dots.now (HasSome c.args.rows.now) c.loop-position.position
      c.loop-position.found.items _
      c.loop-position.invariant (ap (λ v. v.items) w.found-is)
      (λ h. true≢false (sym (c.has_some.ensures.1 h) ∙ w.if-has_some.false))
]
