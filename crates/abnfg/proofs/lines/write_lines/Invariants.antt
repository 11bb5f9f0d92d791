use Rattle.std.proofs.Common.{◌≡◌, ℕ, List, [], false}
use Rattle.abnfread.specs.Element.{Rule}
use Rattle.abnfg.proofs.WrittenLinesLemmas.{AreWrittenTo}
use Rattle.abnfg.specs.ListedLines.{end_of, record_text}
use Rattle.abnfg.specs.ListModes.{AreLinesKept, HasReturned}
use Rattle.abnfg.proofs.lines.write_lines.Given as goal

abbrev pub invariant-loop-done : goal.invariant-loop-done
invariant-loop-done g l = record {
  written : (rules : List Rule) (id : ℕ) → HasReturned l.settings rules id l.fn.source []
      → AreLinesKept l.settings l.fn.kept.items []
      → AreWrittenTo (record_text l.settings.letters (end_of l.settings.nul))
      (HasReturned l.settings rules id l.source) (AreLinesKept l.settings l.kept.items) l.done
      (g.O.Sink.contents l.fn.out) (g.O.Sink.contents l.out);
  fresh : g.O.Sink.failed l.out ≡ false;
}
