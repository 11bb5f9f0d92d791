use Rattle.std.proofs.Common.{take}
use Rattle.flatgrammar.specs.ItemClosures.{dots_of, Asks, AreAsks, Picks}
use Rattle.flatgrammar.proofs.dot_list.asks_of.Given as goal

abbrev pub invariant-loop-dot : goal.invariant-loop-dot
invariant-loop-dot l = record {
  picks : Picks (Asks l.flat) (take l.dot-index l.from) (dots_of l.list.items);
  report : AreAsks l.flat l.list.items;
}
