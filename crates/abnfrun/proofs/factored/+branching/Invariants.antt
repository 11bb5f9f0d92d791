-- The branches so far derive the texts so far.
use Rattle.std.proofs.Common.{◌≤◌, ◌+◌, ◌*◌, ◌-◌, length, take}
use Rattle.abnfread.specs.AbnfViews.{elements_of}
use Rattle.abnfread.specs.Element.{Alt}
use Rattle.abnfrun.specs.FactoredChoices.{DerivesThese, IsSpelling}
use Rattle.abnfrun.proofs.factored.+branching.Given as goal

abbrev pub decreases-next_branch : goal.decreases-next_branch
decreases-next_branch l = 2 * l.depth

abbrev pub decreases-branches : goal.decreases-branches
decreases-branches l = 2 * l.depth + 1

abbrev pub invariant-branches-loop-at : goal.invariant-branches-loop-at
invariant-branches-loop-at l = record {
  within : l.at ≤ length l.texts;
  derives : DerivesThese (IsSpelling l.folds l.from (take l.at l.texts)) (Alt (elements_of l.members.items));
}

abbrev pub decreases-branches-loop-at : goal.decreases-branches-loop-at
decreases-branches-loop-at l = length l.texts - l.at
