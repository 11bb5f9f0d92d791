use Rattle.lazydfa.proofs.WalkedOverLemmas.{IsDown}
use Rattle.lazydfa.proofs.awaited.walk_down.Given as goal

abbrev pub invariant-loop : goal.invariant-loop
invariant-loop l = IsDown l.tables l.initial.conts.items.items l.initial.ids.items.items l.suffixes l.fn.parts.items
    l.conts.items.items l.ids.items.items l.left l.parts.items
