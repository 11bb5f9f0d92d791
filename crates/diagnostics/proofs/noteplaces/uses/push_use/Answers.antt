use Rattle.diagnostics.proofs.AgainLinesLemmas.{five-join}
use Rattle.diagnostics.proofs.noteplaces.uses.push_use.Goals as goal

pub returns-in_ok-extend_from_slice-3 : goal.returns-in_ok-extend_from_slice-3
returns-in_ok-extend_from_slice-3 c =
    let name = (let k = c.in_ok-push_cut.ensures in rw c.as_slice.ensures.value at k) in
    rw c.in-Some.is (five-join _ _ _ _ _ _ _ _ _ _ _ c.in_ok-extend_from_slice.ensures.items c.in_ok-push_number.ensures
    c.in_ok-extend_from_slice-2.ensures.items name c.in_ok-extend_from_slice-3.ensures.items)
