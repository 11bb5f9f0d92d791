use Rattle.earleyitems.proofs.ChartSetsLemmas.{are_sized}
use Rattle.earleyitems.proofs.chart.ItemChart.keep.Goals as goal

pub invariant_of-self : goal.invariant_of-self
invariant_of-self c = are_sized c.args.tables c.args.sets c.requires
