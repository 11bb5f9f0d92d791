use Rattle.std.proofs.Common.{◌≡◌, ◌+◌, Some, length, ap, sym, ◌∙◌, arith}
use Rattle.flatgrammar.specs.Flat.{at}
use Rattle.flatgrammar.specs.declared.flat_item.Item.{Item}
use Rattle.earleyitems.specs.SetViews.{view}
use Rattle.earleyitems.proofs.ExpandLemmas.{get_views}
use Rattle.earleyitems.proofs.chart.is_yes.Goals as goal

pub returns : goal.returns
returns g c =
    let zero : 0 + length c.args.line.now ≡ length c.args.line.now = omega arith in
    let last = get_views c.args.flat.now 0 c.args.sets.now (length c.args.line.now) c.in-Some.kept_set
    (sym c.in-Some.ensures)
    ∙ ap (λ v. Some (view c.args.flat.now v c.in-Some.kept_set)) zero in
    let exact = c.requires.exact (length c.args.line.now)
    (view c.args.flat.now (length c.args.line.now) c.in-Some.kept_set) last in
    let whole : Item = record { node = c.args.flat.now.start; step = 1; origin = 0 } in (
      (λ u. exact.held whole (c.contains.ensures.0 u)),
      (λ h. c.contains.ensures.1 (exact.all (at c.args.flat.now.start 1) 0 h)),
    )
