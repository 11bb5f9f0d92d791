-- What is left of the members or alternatives says what all of them do.
use Rattle.std.proofs.Common.{◌≡◌, ◌++◌, map, drop}
use Rattle.std.specs.Prelude.{option_map}
use Rattle.pegread.specs.PegViews.{pattern_of, patterns_of}
use Rattle.pegexplain.specs.LeftUses.{alternatives_skipped, members_skipped}
use Rattle.pegexplain.specs.NullTests.{null_mark_of, nullable_by}
use Rattle.pegexplain.proofs.skipped.+skipping.Given as goal

abbrev pub invariant-skipped_members-loop-member : goal.invariant-skipped_members-loop-member
invariant-skipped_members-loop-member l = option_map (λ ds. map (λ x. pattern_of x.now) l.before.items ++ ds)
    (members_skipped (nullable_by (null_mark_of l.rules l.marks)) l.name (patterns_of (drop l.member-index l.members)))
    ≡ members_skipped (nullable_by (null_mark_of l.rules l.marks)) l.name (patterns_of l.members)

abbrev pub invariant-skipped_in_one-loop-alternative : goal.invariant-skipped_in_one-loop-alternative
invariant-skipped_in_one-loop-alternative l = alternatives_skipped (nullable_by (null_mark_of l.rules l.marks)) l.name
    (patterns_of (drop l.alternative-index l.alternatives))
    ≡ alternatives_skipped (nullable_by (null_mark_of l.rules l.marks)) l.name (patterns_of l.alternatives)
