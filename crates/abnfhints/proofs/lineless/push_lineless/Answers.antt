-- The pieces.
use Rattle.abnfhints.proofs.ReportedFirstLemmas.{four_pieces, piece_same}
use Rattle.abnfhints.proofs.lineless.push_lineless.Goals as goal

pub returns : goal.returns
returns c = four_pieces _ _ _ _ _ _ _ _ _ c.in_ok-extend_from_slice.ensures.items c.in_ok-push_cut.ensures
    c.in_ok-extend_from_slice-2.ensures.items
    (piece_same _ _ _ _ c.in_ok-extend_from_slice-3.ensures.items c.reported_end.ensures)
