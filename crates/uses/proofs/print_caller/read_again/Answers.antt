use Rattle.std.proofs.Common.{◌≡◌}
use Rattle.ruletable.specs.declared.fault.ReadFault.TheVariants as fault
use Rattle.uses.proofs.print_caller.read_again.Goals as goal

pub returns-in-Ok-clause-same : goal.returns-in-Ok-clause-same
returns-in-Ok-clause-same c =
    let same = rw c.in-Some.is at c.in_ok-canonical.ensures.same in
    let back = same.2 in
    (same.0, same.1, back.again, back.same, c.in-Ok.ensures.only back.again (rw (c.deref.ensures.value) back.reads))

pub returns-clause-fault : goal.returns-clause-fault
returns-clause-fault c =
    let same = rw c.in-Some.is at c.in_ok-canonical.ensures.same in
    let back = same.2 in
    let wants : c.in-Err.fault ≡ fault.Memory = c.in-Err.ensures.only back.again
    (rw (c.deref.ensures.value) back.reads) in
    let reads = same.1 in
    rw wants reads.within
