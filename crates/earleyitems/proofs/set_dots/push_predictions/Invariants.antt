use Rattle.std.proofs.Common.{◌≡◌, ◌++◌, take}
use Rattle.std.specs.List.{flat_map}
use Rattle.flatgrammar.specs.ItemClosures.{closure_of}
use Rattle.earleyitems.specs.declared.sets.Record.{Record}
use Rattle.earleyitems.proofs.set_dots.push_predictions.Given as goal

abbrev pub invariant-loop-record : goal.invariant-loop-record
invariant-loop-record l = l.out.items ≡ l.fn.out.items
    ++ flat_map (λ (r : Record). (closure_of l.flat r.prediction).dots) (take l.record-index l.records)
