-- The sites so far.
use Rattle.std.proofs.Common.{◌≡◌, ℕ, length, map, take}
use Rattle.abnfread.specs.AbnfViews.{rules_of}
use Rattle.coverlines.specs.RuleContexts.{AreContexts, AreSitesPassed}
use Rattle.coverlines.specs.Sites.{stood_of}
use Rattle.coverlines.proofs.rule_contexts.improve_named.Given as goal

abbrev pub invariant-loop-site : goal.invariant-loop-site
invariant-loop-site l = record {
  count : length l.known.items ≡ length l.fn.known.items;
  contexts : (judged : ℕ) → AreContexts l.bounds (rules_of l.rules) judged l.fn.known.items
      → AreContexts l.bounds (rules_of l.rules) judged l.known.items;
  passed : (judged : ℕ) → AreContexts l.bounds (rules_of l.rules) judged l.fn.known.items
      → AreSitesPassed l.bounds (rules_of l.rules) l.id (map stood_of (take l.site-index l.sites)) l.fn.known.items
      l.known.items l.improved;
}
