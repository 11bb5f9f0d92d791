-- The marks so far, and those that are left.
use Rattle.std.proofs.Common.{◌≡◌, ◌++◌, drop}
use Rattle.pegread.specs.PegViews.{patterns_of}
use Rattle.pegexplain.specs.HiddenAlternatives.{marks_in_all}
use Rattle.pegexplain.proofs.hints.marks.+marking.Given as goal

abbrev pub invariant-add_all_marks-loop-member : goal.invariant-add_all_marks-loop-member
invariant-add_all_marks-loop-member l = l.marks.items
    ++ marks_in_all (patterns_of (drop l.member-index l.members))
    ≡ l.initial.marks.items ++ marks_in_all (patterns_of l.members)
