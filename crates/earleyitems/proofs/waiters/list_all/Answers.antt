use Rattle.std.proofs.Common.{[], ◌++◌, ◌∙◌, sym, subst}
use Rattle.flatgrammar.specs.ItemClosures.{closure_of}
use Rattle.earleyitems.specs.Chosen.{callers_of}
use Rattle.earleyitems.specs.SetViews.{expand}
use Rattle.earleyitems.specs.EarleySets.{firsts_of}
use Rattle.earleyitems.specs.Waiting.{AreWaiting}
use Rattle.earleyitems.proofs.SetsLemmas.{goes_farther}
use Rattle.earleyitems.proofs.ListAllLemmas.{waiting_start, waiting_fewer}
use Rattle.earleyitems.proofs.waiters.list_all.Goals as goal

pub returns-clause-same : goal.returns-clause-same
returns-clause-same c = c.list_callers.ensures.same ∙ c.list_closures.ensures.same

pub returns-clause-on : goal.returns-clause-on
returns-clause-on c = goes_farther _ _ _ c.list_closures.ensures.on c.list_callers.ensures.on

pub returns-clause-more : goal.returns-clause-more
returns-clause-more c items are =
    let before = expand (closure_of c.args.flat.now) c.args.number c.args.predictions.now in
    waiting_fewer c.args.flat.now c.args.predictions.now before (callers_of c.args.callers.now) items
    (firsts_of c.list_callers.new.records) c.list_callers.new.waiters.items are.stand
    (λ a t l i call own. are.chosen a i (t, l, call))
    (c.in_ok-list_callers.ensures.more c.args.flat.now before c.requires.callers
    (subst (λ v. AreWaiting c.args.flat.now ([] ++ expand (closure_of c.args.flat.now) c.args.number v)
    c.args.predictions.now (firsts_of c.list_closures.new.records) c.list_closures.new.waiters.items) c.list.ensures
    (c.in_ok-list_closures.ensures.more []
    (waiting_start c.args.flat.now c.args.predictions.now (firsts_of c.args.records.now)
    c.args.waiters.now.items c.requires.none))))

pub returns-clause-owners : goal.returns-clause-owners
returns-clause-owners c rows row callers are = c.in_ok-list_callers.ensures.owners c.args.flat.now rows callers
    (c.in_ok-list_closures.ensures.owners rows (row ∙ sym c.list.ensures) are)
