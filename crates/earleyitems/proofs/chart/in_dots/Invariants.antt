use Rattle.std.proofs.Common.{take, map}
use Rattle.flatgrammar.specs.Positions.{In}
use Rattle.flatgrammar.specs.ItemClosures.{item_at}
use Rattle.earleyitems.proofs.chart.in_dots.Given as goal

abbrev pub invariant-loop-dot : goal.invariant-loop-dot
invariant-loop-dot l = In l.item (map (item_at l.number) (take l.dot-index l.dots)) → ⊥
