use Rattle.std.proofs.lemmas.Result.{IfOk-weaker}
use Rattle.flatgrammar.proofs.TargetLemmas as o
use Rattle.flatgrammar.proofs.targets.find_targets.Goals as goal

pub settle_all-requires : goal.settle_all-requires
settle_all-requires c = rw c.deref_mut.ensures.value (o.firsts_within _ _ _ c.in_ok-ways.ensures c.requires)

pub returns : goal.returns
returns c = IfOk-weaker c.found_targets.result _ _ (λ targets are.
    o.targets_found c.in_ok-ways.ensures c.deref_mut.ensures.value c.in_ok-settle_all.ensures.ways
    c.in_ok-settle_all.ensures.found (c.in_ok-ways.ways.ok.0) c.deref.ensures.value are) c.found_targets.ensures
