-- The rules so far.
use Rattle.std.proofs.Common.{map, take}
use Rattle.abnfcheck.specs.AbnfNotes.{Those}
use Rattle.abnfhints.specs.AbnfHints.{DerivesNothing}
use Rattle.abnfread.specs.AbnfViews.{rules_of}
use Rattle.ruletable.specs.Letters.{has}
use Rattle.abnfhints.proofs.barren.barren_names.Given as goal

abbrev pub invariant-loop-id : goal.invariant-loop-id
invariant-loop-id l = Those (DerivesNothing (has l.hinted.letters) (rules_of l.hinted.rules.now)) 0
    (take l.id (rules_of l.hinted.rules.now)) (map (λ name. name.now) l.names.items)
