-- The names in the members so far, and those that are left.
use Rattle.std.proofs.Common.{◌≡◌, ◌++◌, map, drop}
use Rattle.pegread.specs.PegViews.{patterns_of}
use Rattle.pegexplain.specs.FoundUses.{use_found}
use Rattle.pegexplain.specs.LeftUses.{alternative_uses, member_uses}
use Rattle.pegexplain.specs.NullTests.{null_mark_of, nullable_by}
use Rattle.pegexplain.proofs.left_uses.+using.Given as goal

abbrev pub invariant-add_member_uses-loop-member : goal.invariant-add_member_uses-loop-member
invariant-add_member_uses-loop-member l = map use_found l.found.items
    ++ member_uses (nullable_by (null_mark_of l.rules l.marks)) l.left (patterns_of (drop l.member-index l.members))
    ≡ map use_found l.initial.found.items
    ++ member_uses (nullable_by (null_mark_of l.rules l.marks)) l.is_left (patterns_of l.members)

abbrev pub invariant-add_alternative_uses-loop-alternative : goal.invariant-add_alternative_uses-loop-alternative
invariant-add_alternative_uses-loop-alternative l = map use_found l.found.items
    ++ alternative_uses (nullable_by (null_mark_of l.rules l.marks)) l.is_left
    (patterns_of (drop l.alternative-index l.alternatives))
    ≡ map use_found l.initial.found.items
    ++ alternative_uses (nullable_by (null_mark_of l.rules l.marks)) l.is_left (patterns_of l.alternatives)
