use Rattle.std.proofs.Common.{◌≡◌, ◌∙◌, ◌++◌, ◌∷◌, [], List, ap, map, subst, sym}
use Rattle.abnfblocks.specs.FoundRules.{AreFound}
use Rattle.abnfblocks.specs.TextLines.{numbered}
use Rattle.abnfblocks.specs.declared.found.RuleSearch.{RuleSearch}
use Rattle.abnfblocks.proofs.FoundRuleLemmas.{found-all, nothing-more, rule-more}
use Rattle.abnfblocks.proofs.found.find_rules.Goals as goal
use Rattle.abnfblocks.proofs.found.find_rules.Goals.{then-is_rule_line+in_ok-it+in_ok-push, else-is_rule_line}

pub loop-first-preserved : goal.loop-first-preserved
loop-first-preserved c = λ others more.
    let lines = c.args.lines.now in
    let before = c.loop-first.found.items in
    elim c.if-is_rule_line.branch [
      | then-is_rule_line+in_ok-it+in_ok-push w ↦
          let all = rule-more lines c.loop-first.first before c.loop-first-test.true c.loop-first.invariant _
          w.rule_size-size.result w.in_ok-it.it (sym c.is_rule_line.ensures ∙ w.if-is_rule_line.true)
          w.rule_size-size.ensures.size w.in_ok-it.ensures others more in
          let is : c.if-is_rule_line.found.items ≡ before ++ w.in_ok-it.it ∷ [] =
          ap (λ v. v.items) w.found-is ∙ w.in_ok-push.ensures.items in
          subst (λ (found : List RuleSearch). AreFound 0 (map numbered lines) (found ++ others)) (sym is) all
      | else-is_rule_line w ↦
          let all = nothing-more lines c.loop-first.first before c.loop-first-test.true c.loop-first.invariant _
          (sym c.is_rule_line.ensures ∙ w.if-is_rule_line.false) others more in
          let is : c.if-is_rule_line.found.items ≡ before = ap (λ v. v.items) w.found-is in
          subst (λ (found : List RuleSearch). AreFound 0 (map numbered lines) (found ++ others)) (sym is) all
    ]

pub returns : goal.returns
returns c = found-all c.args.lines.now c.loop-first.first c.loop-first.found.items c.loop-first-test.false
    c.loop-first.invariant
