use Rattle.std.proofs.Common.{take}
use Rattle.flatgrammar.specs.Positions.{In}
use Rattle.flatgrammar.specs.ItemClosures.{closure_of}
use Rattle.earleyitems.specs.SetViews.{expand}
use Rattle.earleyitems.specs.EarleySets.{predictions_of}
use Rattle.earleyitems.proofs.chart.in_predictions.Given as goal

abbrev pub invariant-loop-record : goal.invariant-loop-record
invariant-loop-record l =
    In l.item (expand (closure_of l.flat) l.number (take l.record-index (predictions_of l.records))) → ⊥
