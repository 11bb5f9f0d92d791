use Rattle.std.proofs.Common.{take}
use Rattle.flatgrammar.specs.ItemClosures.{AreByLetter}
use Rattle.flatgrammar.proofs.dot_list.by_letter.Given as goal

abbrev pub invariant-loop-dot : goal.invariant-loop-dot
invariant-loop-dot l = AreByLetter l.flat (take l.dot-index l.from) l.lists.items
