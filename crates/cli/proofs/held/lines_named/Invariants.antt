use Rattle.std.proofs.Common.{◌≡◌, take, true}
use Rattle.cli.specs.FileRuns.{lines_named}
use Rattle.cli.proofs.FileRunsLemmas.{starts_after}
use Rattle.cli.proofs.held.lines_named.Given as goal

abbrev pub invariant-loop-byte : goal.invariant-loop-byte
invariant-loop-byte l = record {
  text : l.text.items ≡ lines_named l.name true (take l.byte-index l.messages);
  starts : l.starts ≡ starts_after true (take l.byte-index l.messages);
}
