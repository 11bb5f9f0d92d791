-- The sources of the members so far, and of those that are left.
use Rattle.std.proofs.Common.{◌≡◌, ◌++◌, drop}
use Rattle.abnfread.specs.AbnfViews.{elements_of, rules_of}
use Rattle.lowering.specs.MoreMarks.{all_sources}
use Rattle.lowering.proofs.sources.+sourcing.Given as goal

abbrev pub invariant-add_all_sources-loop-member : goal.invariant-add_all_sources-loop-member
invariant-add_all_sources-loop-member l =
    l.initial.row.items ++ all_sources (rules_of l.rules) (elements_of l.members)
    ≡ l.row.items ++ all_sources (rules_of l.rules) (elements_of (drop l.member-index l.members))
