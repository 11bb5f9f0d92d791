use Rattle.std.proofs.Common.{◌≤◌}
use Rattle.std.specs.Prelude.{slice_range}
use Rattle.pegnodes.specs.Slots.{AreSlots}
use Rattle.pegnodes.proofs.FilledRunLemmas.{AreWord}
use Rattle.pegnodes.proofs.FilledSlotsLemmas.{AreFilled}
use Rattle.pegnodes.proofs.template.slots_of.Given as goal

abbrev pub invariant-loop-i : goal.invariant-loop-i
invariant-loop-i l = record {
  run : l.run ≤ l.i;
  within : l.i ≤ l.to;
  word : AreWord (slice_range l.text l.run l.i);
  order : AreSlots l.from l.slots.items l.run;
  text : AreFilled l.text l.from l.run l.to l.slots.items;
}
