use Rattle.std.proofs.Common.{rules}
use Rattle.diagnostics.specs.Pictures.{left_part, right_part}
use Rattle.diagnostics.proofs.PictureLemmas.{pieces-join}
use Rattle.diagnostics.proofs.picture.caret.push_picture.Goals as goal

pub returns : goal.returns
returns c = pieces-join _ _ _ _ _ _ _ _ (left_part c.args.position.line.now c.args.position.before)
    (right_part c.args.position.line.now c.args.position.before) _ _ _ c.in_ok-extend_from_slice.ensures.items
    c.in_ok-push_left.ensures c.in_ok-push_right.ensures c.in_ok-extend_from_slice-2.ensures.items
    c.in_ok-push_blanks.ensures c.in_ok-extend_from_slice-3.ensures.items (search rules)
