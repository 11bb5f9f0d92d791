use Rattle.fixpoint.specs.Way.{way_of, tally_of}
use Rattle.fixpoint.proofs.TallyLemmas as y
use Rattle.fixpoint.proofs.IterationsLemmas as t
use Rattle.fixpoint.proofs.cycles.on_cycle.Goals as goal

pub returns-clause-marks : goal.returns-clause-marks
returns-clause-marks c = t.all_through _ (way_of c.search_all.new.self) c.in_ok-search_all.ensures.through

pub returns-clause-ranks : goal.returns-clause-ranks
returns-clause-ranks c = y.all_ranked _ (way_of c.search_all.new.self)
    (tally_of c.search_all.new.self) c.in_ok-search_all.ensures.through c.in_ok-search_all.ensures.ranked
