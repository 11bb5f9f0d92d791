use Rattle.pegexplain.proofs.PegHintsLemmas.{three-join}
use Rattle.pegexplain.proofs.hints.ends.push_line.Goals as goal

pub returns : goal.returns
returns c = rw c.in-Some.is (three-join _ _ _ _ _ _ _ c.in_ok-extend_from_slice.ensures.items
    c.in_ok-push_number.ensures c.in_ok-extend_from_slice-2.ensures.items)
