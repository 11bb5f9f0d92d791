-- The texts so far share a part with the first.
use Rattle.std.proofs.Common.{◌≡◌, ◌≤◌, length, take}
use Rattle.std.specs.Prelude.{All}
use Rattle.abnfrun.specs.FactoredChoices.{IsShared}
use Rattle.abnfrun.proofs.factored.run_of.Given as goal

abbrev pub invariant-loop-text : goal.invariant-loop-text
invariant-loop-text l = record {
  count : l.run.count ≡ l.text-index;
  from : l.from ≤ l.run.end;
  within : l.run.end ≤ length l.first;
  shared : All (λ text. IsShared l.first l.from l.run.end text.items) (take l.text-index l.texts);
}
