use Rattle.std.proofs.Common.{arith, length, ap}
use Rattle.fixpoint.proofs.IsMarkedLemmas.{take_written}
use Rattle.pegnodes.proofs.namers.namers.Goals as goal

pub returns : goal.returns
returns c =
    let value = ap length c.deref_mut.ensures.value in
    let k = c.add_nodes.ensures.count in
    let ok = c.in_ok-namers.namers.ok.0 in
    let new = take_written c.add_nodes.new.namers c.in_ok-namers.namers.items c.in_ok-namers.namers.len
    (omega (arith, k, value)) (omega (arith, ok)) in
    rw new c.add_nodes.ensures.named
