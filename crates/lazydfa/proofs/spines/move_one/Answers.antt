use Rattle.lazydfa.specs.Spines.{positions_of}
use Rattle.lazydfa.proofs.spines.move_one.Goals as goal

pub returns-clause-moved : goal.returns-clause-moved
returns-clause-moved c = λ _. record {
  id = c.in_ok-id.id;
  grown = c.in_ok-push.ensures.items;
  moved = record {
    within = c.in_ok-id.ensures.is.within;
    base = positions_of c.take_spine.new.spine.items;
    was = c.in_ok-take_spine.ensures c.if-not-branch.false;
    is = c.in_ok-id.ensures.is.is;
  };
}
