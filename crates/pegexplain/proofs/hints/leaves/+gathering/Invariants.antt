-- The leaves so far, and those that are left.
use Rattle.std.proofs.Common.{◌≡◌, ◌++◌, ◌||◌, map, drop}
use Rattle.pegread.specs.PegViews.{patterns_of}
use Rattle.pegexplain.specs.BodyLeaves.{alternative_leaves, begins_in_any, member_leaves}
use Rattle.pegexplain.specs.CodeLeaves.{leaf_found}
use Rattle.pegexplain.proofs.hints.leaves.+gathering.Given as goal

abbrev pub invariant-add_member_leaves-loop-member : goal.invariant-add_member_leaves-loop-member
invariant-add_member_leaves-loop-member l =
    ((l.after || begins_in_any (patterns_of (drop l.member-index l.members)))
    ≡ (l.begun || begins_in_any (patterns_of l.members)))
    × (map leaf_found l.leaves.items ++ member_leaves l.after (patterns_of (drop l.member-index l.members))
    ≡ map leaf_found l.initial.leaves.items ++ member_leaves l.begun (patterns_of l.members))

abbrev pub invariant-add_alternative_leaves-loop-alternative : goal.invariant-add_alternative_leaves-loop-alternative
invariant-add_alternative_leaves-loop-alternative l =
    (l.after ≡ (l.begun || l.after))
    × ((l.after || begins_in_any (patterns_of (drop l.alternative-index l.alternatives)))
    ≡ (l.begun || begins_in_any (patterns_of l.alternatives)))
    × (map leaf_found l.leaves.items
    ++ alternative_leaves l.begun (patterns_of (drop l.alternative-index l.alternatives))
    ≡ map leaf_found l.initial.leaves.items ++ alternative_leaves l.begun (patterns_of l.alternatives))
