use Rattle.std.proofs.Common.{◌≡◌, ℕ, ◌<◌, Some}
use Rattle.std.specs.Prelude.{slice_get}
use Rattle.abnfread.specs.AbnfViews.{rules_of}
use Rattle.abnfread.specs.Element.{bodies, Element}
use Rattle.abnfcheck.specs.CountsWithin.{CountsWithin}
use Rattle.abnfcheck.proofs.counts.are_rules_within.Given as goal

abbrev pub invariant-loop-id : goal.invariant-loop-id
invariant-loop-id l = (id : ℕ) (el : Element) → id < l.id → slice_get (bodies (rules_of l.rules)) id ≡ Some el
    → CountsWithin l.limit el
