-- The lines so far.
use Rattle.std.proofs.Common.{take}
use Rattle.coverlines.proofs.RuleBasesLemmas.{AreNeededTo}
use Rattle.coverlines.proofs.needed.needed_lines.Given as goal

abbrev pub invariant-loop-line : goal.invariant-loop-line
invariant-loop-line l = AreNeededTo l.words l.sites l.contexts (take l.line-index l.lines) l.kept.items l.marks.items
