use Rattle.std.proofs.Common.{◌≡◌, false, rules, arith, length, ap, replicate}
use Rattle.fixpoint.proofs.IsMarkedLemmas.{take_written}
use Rattle.gramcheck.proofs.left.named_rules.Goals as goal

pub returns : goal.returns
returns c =
    let fresh : c.deref_mut.result.now ≡ replicate c.args.count false = search rules in
    let value = ap length c.deref_mut.ensures.value in
    let k = c.mark_names.ensures.count in
    let ok = c.in_ok-found.found.ok.0 in
    let new = take_written c.mark_names.new.found c.in_ok-found.found.items c.in_ok-found.found.len
    (omega (arith, k, value)) (omega (arith, ok)) in
    rw (new, ← fresh) c.mark_names.ensures
