use Rattle.std.proofs.Common.{◌≡◌, drop}
use Rattle.std.specs.List.{flat_map}
use Rattle.pegread.specs.Escapes.{escaped}
use Rattle.ruletable.proofs.LeavesLemmas.{Leaves}
use Rattle.pegprint.proofs.print_bytes.print_bytes.Given as goal

abbrev pub invariant-loop-b : goal.invariant-loop-b
invariant-loop-b g l = record {
  left : Leaves (g.W.Sink.contents l.fn.w) (g.W.Sink.contents l.w) (flat_map escaped l.bytes)
      (flat_map escaped (drop l.b-index l.bytes));
  flag : g.W.Sink.failed l.w ≡ g.W.Sink.failed l.fn.w;
}
