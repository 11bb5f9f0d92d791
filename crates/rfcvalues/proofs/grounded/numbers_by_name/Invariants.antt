use Rattle.std.proofs.Common.{◌≡◌, ℕ, List, take}
use Rattle.ruletable.specs.declared.table.NameCase.TheVariants.{Fold}
use Rattle.diagnostics.specs.NumberLists.{numbers_for, positions_from}
use Rattle.rfcvalues.specs.AssignedValues.{goes_by}
use Rattle.rfcvalues.specs.RuleSketches.{rule_sketched}
use Rattle.rfcvalues.proofs.grounded.numbers_by_name.Given as goal

-- the rules so far are listed
abbrev pub invariant-loop-number : goal.invariant-loop-number
invariant-loop-number l = (l.lists.names ≡ Fold) × ((name : List ℕ) → numbers_for l.lists name
    ≡ positions_from 0 (λ rule. goes_by name (rule_sketched rule)) (take l.number l.rules))
