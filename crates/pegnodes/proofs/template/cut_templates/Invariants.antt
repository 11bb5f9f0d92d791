use Rattle.std.proofs.Common.{◌≡◌, length}
use Rattle.pegnodes.proofs.AreCutsLemmas.{AreCutsBelow}
use Rattle.pegnodes.proofs.template.cut_templates.Given as goal

abbrev pub invariant-loop-node : goal.invariant-loop-node
invariant-loop-node l = record {
  long : length l.positions.items ≡ l.node-index;
  cuts : AreCutsBelow l.nodes l.node-index l.positions.items l.cuts.items;
}
