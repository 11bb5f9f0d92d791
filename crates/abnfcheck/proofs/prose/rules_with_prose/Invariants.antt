-- The marks of the rules so far.
use Rattle.std.proofs.Common.{◌≡◌, take}
use Rattle.abnfread.specs.AbnfViews.{rules_of}
use Rattle.abnfcheck.specs.ProseIn.{prose_marks}
use Rattle.abnfcheck.proofs.prose.rules_with_prose.Given as goal

abbrev pub invariant-loop-id : goal.invariant-loop-id
invariant-loop-id l = l.marks.items ≡ prose_marks (take l.id (rules_of l.rules))
