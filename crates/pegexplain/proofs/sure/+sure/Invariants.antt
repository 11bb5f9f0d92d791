-- What is left of the members says what all of them do.
use Rattle.std.proofs.Common.{◌≡◌, drop}
use Rattle.pegread.specs.PegViews.{patterns_of}
use Rattle.pegexplain.specs.NullTests.{null_mark_of}
use Rattle.pegexplain.specs.SureNodes.{all_sure_by, some_sure_by}
use Rattle.pegexplain.proofs.sure.+sure.Given as goal

abbrev pub invariant-are_sure-loop-member : goal.invariant-are_sure-loop-member
invariant-are_sure-loop-member l =
    all_sure_by (null_mark_of l.rules l.marks) (patterns_of (drop l.member-index l.members))
    ≡ all_sure_by (null_mark_of l.rules l.marks) (patterns_of l.members)

abbrev pub invariant-is_some_sure-loop-alternative : goal.invariant-is_some_sure-loop-alternative
invariant-is_some_sure-loop-alternative l =
    some_sure_by (null_mark_of l.rules l.marks) (patterns_of (drop l.alternative-index l.alternatives))
    ≡ some_sure_by (null_mark_of l.rules l.marks) (patterns_of l.alternatives)
