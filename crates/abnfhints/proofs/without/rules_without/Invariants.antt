-- What is left of the rules so far.
use Rattle.abnfhints.proofs.RulesWithoutLemmas.{AreLeftTo}
use Rattle.abnfhints.proofs.without.rules_without.Given as goal

abbrev pub invariant-loop-id : goal.invariant-loop-id
invariant-loop-id l = AreLeftTo l.letter l.rules l.left l.id
