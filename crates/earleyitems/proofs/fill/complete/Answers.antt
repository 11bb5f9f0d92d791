use Rattle.std.proofs.Common.{sym, ◌∙◌}
use Rattle.earleyitems.specs.SetViews.{views}
use Rattle.earleyitems.proofs.ExpandLemmas.{completed_from}
use Rattle.earleyitems.proofs.fill.complete.Goals as goal

pub returns-in_ok-complete_target-clause-added : goal.returns-in_ok-complete_target-clause-added
returns-in_ok-complete_target-clause-added c = completed_from c.args.flat.now (views c.args.flat.now 0 c.args.sets.now)
    c.args.at.item _ _
    (sym c.requires.done ∙ c.if-done.true) c.in_ok-complete_target.ensures.added
