use Rattle.std.proofs.Common.{◌∙◌, ap, ap₂, map, take}
use Rattle.abnfblocks.specs.RuleCuts.{lines_text, margin_at}
use Rattle.abnfblocks.specs.TextLines.{numbered}
use Rattle.abnftexts.specs.GivenRules.{RuleGiven}
use Rattle.abnftexts.specs.RulesGathered.{RuleLines, both_given, one_rule, rules_gathered}
use Rattle.abnftexts.proofs.NamedRulesLemmas.{rule-is}
use Rattle.abnftexts.proofs.taken.take_rule.Goals as goal

pub returns : goal.returns
returns c = λ d reads.
    let own = take c.args.count (map numbered c.args.rest.now) in
    let rule = rule-is (lines_text (margin_at own) own) c.deref.result.now c.in_ok-rule.field-0 c.in-Some.rule d
    (c.deref.ensures.value ∙ ap (λ (p : RuleLines). p.text) c.in_ok-position.ensures) c.in-Some.is c.in_ok-rule.ensures
    reads in
    c.in_ok-push_rule.ensures
    ∙ ap₂ (λ (p : RuleLines) (r : RuleGiven). both_given (rules_gathered c.args.gathered.now) (one_rule p r))
    c.in_ok-position.ensures rule
