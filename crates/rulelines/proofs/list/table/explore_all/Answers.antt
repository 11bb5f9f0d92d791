use Rattle.rulelines.proofs.StateTableLemmas.{kept_self, kept_trans}
use Rattle.rulelines.proofs.list.table.explore_all.Goals as goal

pub loop-init : goal.loop-init
loop-init c = kept_self c.args.table.now c.requires.table

pub loop-preserved : goal.loop-preserved
loop-preserved c =
    kept_trans c.args.table.now c.loop.table c.explore_next.new.table c.loop.invariant c.in_ok-explore_next.ensures
