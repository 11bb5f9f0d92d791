use Rattle.earley.proofs.OldDotsLemmas.{AddsFirst}
use Rattle.earley.proofs.awaited.add_node.Given as goal

abbrev pub invariant-loop-dot : goal.invariant-loop-dot
invariant-loop-dot l = AddsFirst l.dots l.dot-index l.node l.fn.old.items l.old.items
