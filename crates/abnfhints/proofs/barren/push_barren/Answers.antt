-- The pieces.
use Rattle.std.proofs.Common.{◌∙◌}
use Rattle.abnfhints.proofs.ReportedFirstLemmas.{four_pieces, piece_same}
use Rattle.abnfhints.proofs.barren.push_barren.Goals as goal

pub returns : goal.returns
returns c = four_pieces _ _ _ _ _ _ _ _ _ c.in_ok-extend_from_slice.ensures.items c.in_ok-push_cut.ensures
    c.in_ok-extend_from_slice-2.ensures.items
    (piece_same _ _ _ _ c.in_ok-extend_from_slice-3.ensures.items (c.deref.ensures.value ∙ c.in_ok-line.ensures))
