-- What is left of the members says what all of them do.
use Rattle.std.proofs.Common.{◌≡◌, drop}
use Rattle.pegread.specs.PegViews.{patterns_of}
use Rattle.pegexplain.specs.NullTests.{all_nullable_by, null_mark_of, some_nullable_by}
use Rattle.pegexplain.proofs.nulls.+nulls.Given as goal

abbrev pub invariant-are_nullable-loop-member : goal.invariant-are_nullable-loop-member
invariant-are_nullable-loop-member l =
    all_nullable_by (null_mark_of l.rules l.marks) (patterns_of (drop l.member-index l.members))
    ≡ all_nullable_by (null_mark_of l.rules l.marks) (patterns_of l.members)

abbrev pub invariant-is_some_nullable-loop-alternative : goal.invariant-is_some_nullable-loop-alternative
invariant-is_some_nullable-loop-alternative l =
    some_nullable_by (null_mark_of l.rules l.marks) (patterns_of (drop l.alternative-index l.alternatives))
    ≡ some_nullable_by (null_mark_of l.rules l.marks) (patterns_of l.alternatives)
