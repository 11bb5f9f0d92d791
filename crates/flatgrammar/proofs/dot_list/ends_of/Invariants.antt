use Rattle.std.proofs.Common.{take}
use Rattle.flatgrammar.specs.ItemClosures.{AreEnds}
use Rattle.flatgrammar.proofs.dot_list.ends_of.Given as goal

abbrev pub invariant-loop-dot : goal.invariant-loop-dot
invariant-loop-dot l = AreEnds l.flat (take l.dot-index l.from) l.ends
