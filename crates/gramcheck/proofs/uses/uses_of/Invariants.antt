-- The uses in the bodies of the rules before the one at the id.
use Rattle.std.proofs.Common.{◌++◌, take}
use Rattle.std.specs.Prelude.{option_copied, option_to_list}
use Rattle.pegread.specs.PegViews.{rules_of}
use Rattle.gramcheck.specs.GrammarNotes.{start_of}
use Rattle.gramcheck.specs.Uses.{AreUses, names_used}
use Rattle.gramcheck.proofs.uses.uses_of.Given as goal

abbrev pub invariant-loop-id : goal.invariant-loop-id
invariant-loop-id l = AreUses (rules_of l.rules)
    (option_to_list (start_of (option_copied l.fn.start) (rules_of l.rules))
    ++ names_used (take l.id (rules_of l.rules)))
    l.uses.ids.items l.uses.missing
