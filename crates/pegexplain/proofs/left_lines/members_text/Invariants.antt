-- The text so far, and what is left of it.
use Rattle.std.proofs.Common.{◌≡◌, ◌++◌, ◌∷◌, map, drop}
use Rattle.pegprint.specs.CanonMembers.{further_members, members_text}
use Rattle.pegread.specs.PegViews.{pattern_of, patterns}
use Rattle.pegexplain.proofs.left_lines.members_text.Given as goal

abbrev pub invariant-loop-member : goal.invariant-loop-member
invariant-loop-member l = l.text.items
    ++ further_members (patterns (map (λ x. pattern_of x.now) (drop l.member-index l.rest)))
    ≡ members_text (patterns (pattern_of l.first ∷ map (λ x. pattern_of x.now) l.rest))
