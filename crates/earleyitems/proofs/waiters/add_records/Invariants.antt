use Rattle.std.proofs.Common.{◌≡◌, ◌≤◌, ◌+◌, ◌-◌, ◌++◌, length, take}
use Rattle.std.specs.Prelude.{vec_len, vec_capacity}
use Rattle.earleyitems.proofs.RecordsLemmas.{fresh}
use Rattle.earleyitems.proofs.waiters.add_records.Given as goal

abbrev pub invariant-loop-prediction : goal.invariant-loop-prediction
invariant-loop-prediction l = record {
  are : l.records.items ≡ l.initial.records.items ++ fresh (take l.prediction-index l.predictions);
  room : vec_len l.records + (length l.predictions - l.prediction-index) ≤ vec_capacity l.records;
}
