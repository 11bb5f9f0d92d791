use Rattle.lazydfa.specs.NameWalks.{AddsParts}
use Rattle.lazydfa.proofs.TopPartLemmas.{IsFirstStack}
use Rattle.lazydfa.proofs.awaited.add_parts.Given as goal

abbrev pub invariant-loop-id : goal.invariant-loop-id
invariant-loop-id l = AddsParts l.tables (IsFirstStack l.conts.items.items l.ids l.id-index) l.fn.parts.items
    l.parts.items
