-- The rules so far.
use Rattle.coverlines.proofs.RuleBasesLemmas.{AreBasesTo}
use Rattle.coverlines.proofs.needed.rule_bases.Given as goal

abbrev pub invariant-loop-id : goal.invariant-loop-id
invariant-loop-id l = AreBasesTo l.words l.sites l.contexts l.id l.rows.items l.lines.items
