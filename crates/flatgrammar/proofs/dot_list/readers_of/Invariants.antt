use Rattle.std.proofs.Common.{take}
use Rattle.flatgrammar.specs.ItemClosures.{ReadsAny, Picks}
use Rattle.flatgrammar.proofs.dot_list.readers_of.Given as goal

abbrev pub invariant-loop-dot : goal.invariant-loop-dot
invariant-loop-dot l = Picks (ReadsAny l.flat) (take l.dot-index l.from) l.list.items
