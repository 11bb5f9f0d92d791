-- The members so far.
use Rattle.std.proofs.Common.{take}
use Rattle.abnfread.specs.AbnfViews.{elements_of, rules_of}
use Rattle.coverlines.specs.NamedIds.{AddsNamed, SomeHasNameOf}
use Rattle.coverlines.proofs.named.+named.Given as goal

abbrev pub invariant-add_all_named-loop-member : goal.invariant-add_all_named-loop-member
invariant-add_all_named-loop-member l = AddsNamed
    (SomeHasNameOf (rules_of l.rules) (elements_of (take l.member-index l.members))) l.fn.row.items l.row.items
