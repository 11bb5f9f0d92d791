-- A text that was read is not too long.
use Rattle.uses.proofs.check_caller.load_peg.Goals as goal

pub returns-in-Err-clause-fault : goal.returns-in-Err-clause-fault
returns-in-Err-clause-fault c =
    let found = c.in_ok-peg.ensures.found in
    let reads = found.1 in
    reads.within
