-- The uses in the members so far.
use Rattle.std.proofs.Common.{ℕ, List, ◌++◌, take}
use Rattle.pegread.specs.PegViews.{patterns_of, rules_of}
use Rattle.gramcheck.specs.Uses.{AreUses, names_in_all}
use Rattle.gramcheck.proofs.uses.+using_names.Given as goal

abbrev pub invariant-add_all_uses-loop-member : goal.invariant-add_all_uses-loop-member
invariant-add_all_uses-loop-member l = (seen : List (List ℕ))
    → AreUses (rules_of l.rules) seen l.initial.uses.ids.items l.initial.uses.missing →
    AreUses (rules_of l.rules) (seen ++ names_in_all (patterns_of (take l.member-index l.members))) l.uses.ids.items
    l.uses.missing
