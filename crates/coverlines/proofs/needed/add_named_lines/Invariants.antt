-- The lines so far.
use Rattle.std.proofs.Common.{Some}
use Rattle.coverlines.specs.NeededLines.{AddsNamedLines}
use Rattle.coverlines.proofs.needed.add_named_lines.Given as goal

abbrev pub invariant-loop-one : goal.invariant-loop-one
invariant-loop-one l = AddsNamedLines (Some l.context) l.named l.fn.found.items l.found.items
