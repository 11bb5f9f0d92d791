use Rattle.std.proofs.Common.{refl}
use Rattle.rulelines.specs.ListedSets.{listed_in}
use Rattle.rulelines.proofs.StateTableLemmas.{kept_trans, level_begun, levels_changed}
use Rattle.rulelines.proofs.list.table.add_level.Goals as goal

pub loop-count-init : goal.loop-count-init
loop-count-init c =
    let mid = c.explore_all.new.table in
    let first = c.in_ok-explore_all.ensures in
    kept_trans c.args.table.now mid _ first
    (levels_changed mid _ first.is refl refl refl refl refl refl
    (level_begun mid.states (listed_in mid.symbols) mid.levels.items c.push.new.self.items c.new.result
    c.new.ensures.items c.in_ok-push.ensures.items first.is.levels_are))

pub loop-count-preserved : goal.loop-count-preserved
loop-count-preserved c =
    kept_trans c.args.table.now c.loop-count.table c.extend_level.new.table c.loop-count.invariant
    c.in_ok-extend_level.ensures
