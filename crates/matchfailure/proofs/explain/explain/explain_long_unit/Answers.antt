use Rattle.std.specs.Prelude.{codes, decimal}
use Rattle.matchfailure.proofs.PieceJoinsLemmas.{five-only}
use Rattle.matchfailure.proofs.explain.explain.explain_long_unit.Goals as goal

pub returns : goal.returns
returns c =
    five-only _ _ _ _ _ _ (codes "  the unit begins on line ") (decimal c.args.at.line) (codes ", column ")
    (decimal c.args.at.column) (codes "\n  -l allows at most 16777216\n") c.new-out.ensures.items
    c.in_ok-extend_from_slice.ensures.items c.in_ok-push_number.ensures c.in_ok-extend_from_slice-2.ensures.items
    c.in_ok-push_number-2.ensures c.in_ok-extend_from_slice-3.ensures.items
