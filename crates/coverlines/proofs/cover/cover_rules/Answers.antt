-- The words, sites and contexts of the rules are known.
use Rattle.std.proofs.Common.{◌∙◌, refl, sym, subst}
use Rattle.std.proofs.lemmas.List.{length-map}
use Rattle.abnfread.specs.AbnfViews.{rule_of, rules_of}
use Rattle.coverlines.specs.CoverLines.{AreGoalLines}
use Rattle.coverlines.specs.RuleContexts.{AreRuleSites}
use Rattle.coverlines.specs.declared.words.Words.{Words}
use Rattle.coverlines.proofs.KnownWordsLemmas.{known_of_words}
use Rattle.coverlines.proofs.NeededLinesLemmas as n
use Rattle.coverlines.proofs.cover.cover_rules.Goals as goal

pub rule_contexts-requires-clause-sites : goal.rule_contexts-requires-clause-sites
rule_contexts-requires-clause-sites c =
    let words : Words = record { rules = c.args.rules; known = c.as_slice.result; bounds = c.args.bounds } in
    rw c.deref.ensures.value (c.in_ok-sites.ensures (known_of_words words
    (rw c.as_slice.ensures.value c.in_ok-known.ensures)))

pub missed_goals-requires-clause-known : goal.missed_goals-requires-clause-known
missed_goals-requires-clause-known c =
    let words : Words = record { rules = c.args.rules; known = c.as_slice.result; bounds = c.args.bounds } in
    known_of_words words (rw c.as_slice.ensures.value c.in_ok-known.ensures)

pub missed_goals-requires-clause-contexts : goal.missed_goals-requires-clause-contexts
missed_goals-requires-clause-contexts c = rw c.deref-2.ensures.value c.in_ok-contexts.ensures

pub goal_lines-requires-clause-sites : goal.goal_lines-requires-clause-sites
goal_lines-requires-clause-sites c =
    let words : Words = record { rules = c.args.rules; known = c.as_slice.result; bounds = c.args.bounds } in
    let all : AreRuleSites c.args.bounds (rules_of c.args.rules.now) c.in_ok-sites.sites.items =
    c.in_ok-sites.ensures (known_of_words words (rw c.as_slice.ensures.value c.in_ok-known.ensures)) in
    rw c.deref-3.ensures.value (all.count ∙ length-map c.args.rules.now.rules rule_of)

pub goal_lines-requires-clause-contexts : goal.goal_lines-requires-clause-contexts
goal_lines-requires-clause-contexts c = rw c.deref-4.ensures.value
    (c.in_ok-contexts.ensures.count ∙ length-map c.args.rules.now.rules rule_of)

pub needed_lines-requires-clause-sites : goal.needed_lines-requires-clause-sites
needed_lines-requires-clause-sites c =
    let words : Words = record { rules = c.args.rules; known = c.as_slice.result; bounds = c.args.bounds } in
    let all : AreRuleSites c.args.bounds (rules_of c.args.rules.now) c.in_ok-sites.sites.items =
    c.in_ok-sites.ensures (known_of_words words (rw c.as_slice.ensures.value c.in_ok-known.ensures)) in
    rw c.deref-5.ensures.value (all.count ∙ length-map c.args.rules.now.rules rule_of)

pub needed_lines-requires-clause-contexts : goal.needed_lines-requires-clause-contexts
needed_lines-requires-clause-contexts c = rw c.deref-6.ensures.value
    (c.in_ok-contexts.ensures.count ∙ length-map c.args.rules.now.rules rule_of)

pub needed_lines-requires-clause-order : goal.needed_lines-requires-clause-order
needed_lines-requires-clause-order c = rw c.deref-7.ensures.value c.in_ok-found.ensures.order

pub returns-clause-lines : goal.returns-clause-lines
returns-clause-lines c =
    let words : Words = record { rules = c.args.rules; known = c.as_slice.result; bounds = c.args.bounds } in
    let known = known_of_words words (rw c.as_slice.ensures.value c.in_ok-known.ensures) in
    let all : AreRuleSites c.args.bounds (rules_of c.args.rules.now) c.in_ok-sites.sites.items =
    c.in_ok-sites.ensures known in
    n.lines_cover c.args.bounds (rules_of c.args.rules.now) words c.in_ok-sites.sites.items refl all c.args.judged
    c.in_ok-contexts.contexts.items c.in_ok-contexts.ensures c.in_ok-found.found.items c.in_ok-lines.lines.items
    (subst (λ k. AreGoalLines c.args.bounds (rules_of c.args.rules.now) c.in_ok-contexts.contexts.items
    c.in_ok-sites.sites.items k c.in_ok-found.found.items) (sym (length-map c.args.rules.now.rules rule_of))
    (rw (c.deref-3.ensures.value, c.deref-4.ensures.value) at (c.in_ok-found.ensures.lines known)))
    (rw (c.deref-5.ensures.value, c.deref-6.ensures.value, c.deref-7.ensures.value) at c.in_ok-lines.ensures.kept)
    c.in_ok-lines.ensures.order
