use Rattle.std.proofs.Common.{◌∙◌, ap, true≢false, sym}
use Rattle.earley.specs.RowSets.{HasOlder}
use Rattle.earley.proofs.RowDotsLemmas.{dots_more, dots_same}
use Rattle.earley.proofs.row_dots.row_older_dots.Goals as goal
use Rattle.earley.proofs.row_dots.row_older_dots.Goals.{then-has_older+in_ok-push, else-has_older}

pub loop-position-preserved : goal.loop-position-preserved
loop-position-preserved c = elim c.if-has_older.branch [
  | then-has_older+in_ok-push w ↦ dots_more c.args.dots.now (HasOlder c.args.rows.now c.args.n) c.loop-position.position
      _
      c.loop-position.found.items _
      c.loop-position-test.true c.loop-position.invariant (ap (λ v. v.items) w.found-is ∙ w.in_ok-push.ensures.items)
      (c.has_older.ensures.0 w.if-has_older.true)
  | else-has_older w ↦ dots_same c.args.dots.now (HasOlder c.args.rows.now c.args.n) c.loop-position.position
      c.loop-position.found.items _
      c.loop-position.invariant (ap (λ v. v.items) w.found-is)
      (λ h. true≢false (sym (c.has_older.ensures.1 h) ∙ w.if-has_older.false))
]
