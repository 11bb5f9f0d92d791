use Rattle.std.proofs.Common.{◌≡◌, false, take}
use Rattle.std.specs.Io.KnownBytes.{Appends}
use Rattle.abnfg.specs.CoverLists.{line_texts}
use Rattle.abnfg.specs.ListedLines.{end_of, record_text}
use Rattle.abnfg.proofs.covered.write_covered.Given as goal

abbrev pub invariant-loop-line : goal.invariant-loop-line
invariant-loop-line g l = record {
  written : Appends (g.O.Sink.contents l.fn.out) (g.O.Sink.contents l.out)
      (line_texts (record_text l.settings.letters (end_of l.settings.nul)) (take l.line-index l.lines));
  fresh : g.O.Sink.failed l.out ≡ false;
}
