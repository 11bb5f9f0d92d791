-- One alternative more.
use Rattle.std.proofs.Common.{◌≡◌, ◌∙◌, ◌++◌, ◌∷◌, [], add-one, ap, arith, sym}
use Rattle.coverlines.specs.MissedGoals.{chosen_below}
use Rattle.coverlines.specs.declared.way.GoalWay.TheVariants.{Chosen}
use Rattle.coverlines.proofs.ways.chosen_ways.Goals as goal

pub loop-i-preserved : goal.loop-i-preserved
loop-i-preserved c = c.in_ok-push.ensures.items ∙ ap (λ ways. ways ++ Chosen c.loop-i.i ∷ []) c.loop-i.invariant
    ∙ ap chosen_below (sym (add-one c.loop-i.i))

pub returns : goal.returns
returns c =
    let up = c.loop-i.auto.i-end in
    let le = c.loop-i-test.false in
    let same : c.loop-i.i ≡ c.args.count = omega (arith, up, le) in c.loop-i.invariant ∙ ap chosen_below same
