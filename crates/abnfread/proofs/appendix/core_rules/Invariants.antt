use Rattle.abnfread.proofs.CoreRuleLemmas.{IsCoreSoFar}
use Rattle.abnfread.proofs.appendix.core_rules.Given as goal

abbrev pub invariant-loop-id : goal.invariant-loop-id
invariant-loop-id l = IsCoreSoFar l.id l.rules
