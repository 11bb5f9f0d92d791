use Rattle.lazydfa.specs.Conts.{IsClosing}
use Rattle.lazydfa.specs.NameWalks.{WalkGoes}
use Rattle.lazydfa.proofs.walks.walk.Given as goal

abbrev pub invariant-loop : goal.invariant-loop
invariant-loop l = IsClosing l.tables (WalkGoes l.tables) l.initial.conts.items.items l.initial.ids.items.items
    l.conts.items.items
    l.ids.items.items l.count l.ended
