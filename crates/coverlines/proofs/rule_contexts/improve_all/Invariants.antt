-- The rules so far.
use Rattle.std.proofs.Common.{◌≡◌, ℕ, length}
use Rattle.abnfread.specs.AbnfViews.{rules_of}
use Rattle.coverlines.specs.RuleContexts.{AreContexts, AreRulesPassed}
use Rattle.coverlines.proofs.rule_contexts.improve_all.Given as goal

abbrev pub invariant-loop-id : goal.invariant-loop-id
invariant-loop-id l = record {
  count : length l.known.items ≡ length l.fn.known.items;
  contexts : (judged : ℕ) → AreContexts l.bounds (rules_of l.rules) judged l.fn.known.items
      → AreContexts l.bounds (rules_of l.rules) judged l.known.items;
  passed : (judged : ℕ) → AreContexts l.bounds (rules_of l.rules) judged l.fn.known.items
      → AreRulesPassed l.bounds (rules_of l.rules) l.sites l.id l.fn.known.items l.known.items l.improved;
}
