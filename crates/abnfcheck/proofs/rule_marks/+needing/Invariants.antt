-- The needs of the members so far.
use Rattle.std.proofs.Common.{ℕ, Bool, take}
use Rattle.fixpoint.specs.Demands.{owned_demands_of}
use Rattle.abnfread.specs.AbnfViews.{elements_of, rules_of}
use Rattle.abnfcheck.specs.RuleMarks.{AreNumbered, IsTestOf}
use Rattle.abnfcheck.proofs.rule_marks.+needing.Given as goal

abbrev pub invariant-add_all_needs-loop-member : goal.invariant-add_all_needs-loop-member
invariant-add_all_needs-loop-member l =
    (has : ℕ → Bool) → IsTestOf l.aim has →
    AreNumbered has (rules_of l.rules) l.aim (owned_demands_of l.initial.needs.items) (owned_demands_of l.needs.items)
    l.numbers.items (elements_of (take l.member-index l.members))
