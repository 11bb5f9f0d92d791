-- Each name is new, as names are unique.
use Rattle.fixpoint.proofs.IsAddedLemmas.{name_next}
use Rattle.fixpoint.proofs.used_names.names_of_rules.Goals as goal

pub loop-id-preserved : goal.loop-id-preserved
loop-id-preserved g c =
    let next = name_next c.args.rules.now c.len-id-end.ensures.unique c.args.case c.requires c.loop-id.names
    c.define.new.self c.loop-id.id _ _ c.loop-id.invariant.compares c.loop-id.invariant.names
    c.name.ensures c.in_ok-define.ensures.defines in
    record { compares = next.0; names = next.1 }
