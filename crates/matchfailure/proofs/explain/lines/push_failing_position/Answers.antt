use Rattle.std.specs.Prelude.{codes, decimal}
use Rattle.matchfailure.specs.NoMatchLines.{end_shown}
use Rattle.matchfailure.proofs.PieceJoinsLemmas.{ten-pieces}
use Rattle.matchfailure.proofs.explain.lines.push_failing_position.Goals as goal

pub returns : goal.returns
returns c =
    ten-pieces _ _ _ _ _ _ _ _ _ _ _ (codes "  byte ") (decimal c.args.at.byte) (codes ", line ")
    (decimal c.args.at.line) (codes ", column ") (decimal c.args.at.column) (end_shown c.args.is_end)
    (codes ", in the unit at byte ") (decimal c.args.unit) (codes "\n")
    c.in_ok-extend_from_slice.ensures.items c.in_ok-push_number.ensures c.in_ok-extend_from_slice-2.ensures.items
    c.in_ok-push_number-2.ensures c.in_ok-extend_from_slice-3.ensures.items c.in_ok-push_number-3.ensures
    c.in_ok-push_end.ensures c.in_ok-extend_from_slice-4.ensures.items c.in_ok-push_number-4.ensures
    c.in_ok-extend_from_slice-5.ensures.items
