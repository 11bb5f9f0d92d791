use Rattle.std.proofs.Common.{◌≡◌}
use Rattle.std.specs.List.{flat_map}
use Rattle.ruletable.specs.Runs.{test_of}
use Rattle.pegread.specs.Escapes.{runs_text, run_text}
use Rattle.ruletable.proofs.LeavesLemmas.{Leaves}
use Rattle.pegprint.proofs.print_bytes.print_runs.Given as goal

abbrev pub invariant-loop-first : goal.invariant-loop-first
invariant-loop-first g l = record {
  left : Leaves (g.W.Sink.contents l.fn.w) (g.W.Sink.contents l.w) (runs_text (test_of l.set))
      (flat_map run_text l.first-iterator);
  flag : g.W.Sink.failed l.w ≡ g.W.Sink.failed l.fn.w;
}
