-- The rules so far.
use Rattle.abnfrun.proofs.FactoredRulesLemmas.{AreTablesSoFar}
use Rattle.abnfrun.proofs.factored.factored_rules.Given as goal

abbrev pub invariant-loop-id : goal.invariant-loop-id
invariant-loop-id l = AreTablesSoFar l.rules l.made l.id
