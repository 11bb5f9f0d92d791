use Rattle.pegprint.specs.PegExplained.{too_long}
use Rattle.pegprint.proofs.faults.explain.explain_fault.Goals as goal

pub returns-in_ok-from_slice-in-TooLong : goal.returns-in_ok-from_slice-in-TooLong
returns-in_ok-from_slice-in-TooLong c =
    let long = (let h = c.requires in rw c.in-TooLong.is at h) in
    rw (c.in-TooLong.is, c.in_ok-from_slice-in-TooLong.ensures.items) (too_long long)
