-- The pieces.
use Rattle.std.proofs.Common.{ap}
use Rattle.diagnostics.specs.ShownBytes.{cut}
use Rattle.abnfhints.proofs.ReportedFirstLemmas.{piece_same, seven_pieces}
use Rattle.abnfhints.proofs.reversed.push_reversed.Goals as goal

pub returns : goal.returns
returns c = seven_pieces _ _ _ _ _ _ _ _ _ _ _ _ _ _ _ c.in_ok-extend_from_slice.ensures.items
    (piece_same _ _ _ _ c.in_ok-push_cut.ensures (ap cut (rw c.deref.ensures.value at c.name_at.ensures)))
    c.in_ok-extend_from_slice-2.ensures.items c.in_ok-push_number.ensures c.in_ok-extend_from_slice-3.ensures.items
    (piece_same _ _ _ _ c.in_ok-push_cut-2.ensures (ap cut c.deref-2.ensures.value))
    c.in_ok-extend_from_slice-4.ensures.items
