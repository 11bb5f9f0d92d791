use Rattle.earleyitems.specs.ItemSets.{IsCompleted}
use Rattle.earleyitems.specs.SetViews.{views, MovesOverNullable, IsAddedFor}
use Rattle.earleyitems.proofs.AddsLemmas.{adds_both}
use Rattle.std.proofs.Common.{[], inl, inr}
use Rattle.earleyitems.proofs.fill.advance.Goals as goal

pub returns-clause-added : goal.returns-clause-added
returns-clause-added c = adds_both (MovesOverNullable c.args.flat.now c.args.at.item)
    (IsCompleted c.args.flat.now (views c.args.flat.now 0 c.args.sets.now) [] c.args.at.item)
    (IsAddedFor c.args.flat.now (views c.args.flat.now 0 c.args.sets.now) c.args.at.item) _ _ _
    c.in_ok-advance_nullable.ensures.added
    c.in_ok-complete.ensures.added (λ a h. h) (λ a h. inl h) (λ a h. inr h)

pub returns-clause-owners : goal.returns-clause-owners
returns-clause-owners c rows have here are = c.in_ok-complete.ensures.owners rows have here
    (c.in_ok-advance_nullable.ensures.owners rows here are)
