-- The marks and the hints so far, and those that are left.
use Rattle.std.proofs.Common.{◌≡◌, ◌++◌, [], map, drop}
use Rattle.pegread.specs.PegViews.{pattern_of, patterns_of}
use Rattle.pegexplain.specs.CodeHints.{IsIndexed, alternatives_found, hint_found, known_literal, null_in, sure_in}
use Rattle.pegexplain.specs.HiddenAlternatives.{alternative_hints, marks_in_all, member_hints}
use Rattle.pegexplain.proofs.hints.hints.+hinting.Given as goal

abbrev pub invariant-add_member_hints-loop-member : goal.invariant-add_member_hints-loop-member
invariant-add_member_hints-loop-member l =
    (l.marks.items ++ marks_in_all (patterns_of (drop l.member-index l.members))
    ≡ l.initial.marks.items ++ marks_in_all (patterns_of l.members))
    × (map hint_found l.found.items ++ member_hints (known_literal l.within.known) (sure_in l.within.known)
    (null_in l.within.known) l.within.rule.now (pattern_of l.within.body.now) l.marks.items
    (patterns_of (drop l.member-index l.members))
    ≡ map hint_found l.initial.found.items ++ member_hints (known_literal l.within.known) (sure_in l.within.known)
    (null_in l.within.known) l.within.rule.now (pattern_of l.within.body.now) l.initial.marks.items
    (patterns_of l.members))

abbrev pub invariant-add_alternative_hints-loop-alternative : goal.invariant-add_alternative_hints-loop-alternative
invariant-add_alternative_hints-loop-alternative l = IsIndexed l.before ×
    (l.marks.items ++ marks_in_all (patterns_of (drop l.alternative-index l.alternatives))
    ≡ l.initial.marks.items ++ marks_in_all (patterns_of l.alternatives))
    × (map hint_found l.found.items ++ alternative_hints (known_literal l.within.known) (sure_in l.within.known)
    (null_in l.within.known) l.within.rule.now (pattern_of l.within.body.now) l.marks.items
    (alternatives_found l.before.all.items) (patterns_of (drop l.alternative-index l.alternatives))
    ≡ map hint_found l.initial.found.items ++ alternative_hints (known_literal l.within.known) (sure_in l.within.known)
    (null_in l.within.known) l.within.rule.now (pattern_of l.within.body.now) l.initial.marks.items []
    (patterns_of l.alternatives))
