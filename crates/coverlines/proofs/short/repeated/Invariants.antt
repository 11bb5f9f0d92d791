-- So many rounds so far.
use Rattle.std.proofs.Common.{List}
use Rattle.abnfread.specs.Element.{Element, Rule}
use Rattle.coverlines.specs.Shortest.{IsShortestOf, Spells, SpellsTimes}
use Rattle.coverlines.specs.declared.bounds.LineBounds.{LineBounds}
use Rattle.coverlines.proofs.short.repeated.Given as goal

abbrev pub invariant-loop : goal.invariant-loop
invariant-loop l = (b : LineBounds) (rules : List Rule) (e : Element)
    → IsShortestOf (Spells b rules e) l.limit l.round.items
    → IsShortestOf (SpellsTimes b rules e l.counter) l.limit l.all.items
