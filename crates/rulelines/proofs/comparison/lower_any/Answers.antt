-- A grammar with loops in place of left recursion derives the lines of those rules that are reached.
use Rattle.std.proofs.Common.{sym, subst}
use Rattle.abnfread.specs.AbnfViews.{rules_of}
use Rattle.abnfcheck.specs.CountsWithin.{RuleCountsWithin}
use Rattle.abnfcheck.proofs.ReachedGrammarLemmas.{lines_reached}
use Rattle.abnfcheck.proofs.UnrolledRulesLemmas.{lines_unrolled}
use Rattle.rulelines.proofs.AnyLengthLemmas.{any_line}
use Rattle.rulelines.proofs.comparison.lower_any.Goals as goal

pub returns : goal.returns
returns c = λ has x symbols.
    let kept = c.in_ok-kept.kept in
    let unrolled = c.in_ok-unrolled.unrolled in
    let rules = rules_of unrolled.rules in
    let line = any_line has rules unrolled.judged c.in_ok-flat.flat c.in_ok-flat.ensures.lowered
    (subst (λ v. RuleCountsWithin v rules) (sym c.in_ok-flat.ensures.limit)
    (subst (λ v. RuleCountsWithin 4294967295 (rules_of v)) c.rules.ensures.rules
    (c.are_rules_within.ensures c.if-not-are_rules_within.false))) x symbols in
    let reached = lines_reached c.args.grammar.now kept c.in_ok-kept.ensures has x in
    let same = lines_unrolled kept unrolled c.in_ok-unrolled.ensures has x in
    (λ d. reached.0 (same.0 (line.0 d)), λ d. line.1 (same.1 (reached.1 d)))
