use Rattle.diagnostics.proofs.AgainLinesLemmas.{five-join}
use Rattle.pegexplain.proofs.loops.push_line.Goals as goal

pub returns : goal.returns
returns c =
    let text = (let k = c.in_ok-push_cut.ensures in rw (c.as_slice.ensures.value, c.in_ok-text.ensures) at k) in
    five-join _ _ _ _ _ _ _ _ _ _ _ c.in_ok-extend_from_slice.ensures.items c.in_ok-push_number.ensures
    c.in_ok-extend_from_slice-2.ensures.items text c.in_ok-extend_from_slice-3.ensures.items
