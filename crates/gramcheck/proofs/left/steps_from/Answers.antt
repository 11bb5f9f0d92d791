use Rattle.gramcheck.proofs.left.steps_from.Goals as goal

pub front_of-requires : goal.front_of-requires
front_of-requires c = rw c.deref.ensures.value (rw c.in-Seq.is at c.requires)
