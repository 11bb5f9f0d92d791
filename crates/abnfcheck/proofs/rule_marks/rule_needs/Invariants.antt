-- The needs of the rules so far.
use Rattle.std.proofs.Common.{ℕ, Bool}
use Rattle.abnfcheck.specs.RuleMarks.{IsTestOf}
use Rattle.fixpoint.specs.Demands.{owned_demands_of}
use Rattle.abnfread.specs.AbnfViews.{rules_of}
use Rattle.abnfcheck.proofs.ElementNeedsLemmas.{AreRuleNeeds}
use Rattle.abnfcheck.proofs.rule_marks.rule_needs.Given as goal

abbrev pub invariant-loop-id : goal.invariant-loop-id
invariant-loop-id l = (has : ℕ → Bool) → IsTestOf l.aim has → AreRuleNeeds has (rules_of l.rules) l.aim
    (owned_demands_of l.needs.items) l.id
