use Rattle.std.proofs.Common.{◌∙◌, map, sym}
use Rattle.std.proofs.lemmas.List.{length-map}
use Rattle.abnftexts.specs.RulesGathered.{rules_gathered}
use Rattle.abnftexts.specs.TakenRules.{text_rows}
use Rattle.rfcvalues.specs.RuleSketches.{rule_sketched}
use Rattle.abnftexts.proofs.ValueRunsLemmas.{each-taken, on-more, run-taken}
use Rattle.abnftexts.proofs.taken.take_group.Goals as goal

pub returns-then-is_none : goal.returns-then-is_none
returns-then-is_none c =
    on-more _ _ c.take_run.result (λ given.
    run-taken (text_rows c.args.text.now) c.args.group.now (map rule_sketched c.args.sketches.now)
    (rules_gathered c.args.gathered.now) (rules_gathered c.take_run.new.gathered)
    (sym c.in_ok-is_none.ensures ∙ c.if-is_none.true)
    (λ marks size enough. given marks (size ∙ length-map c.args.sketches.now rule_sketched) enough))
    c.take_run.ensures

pub returns : goal.returns
returns c =
    on-more _ _ c.take_each.result (λ given.
    each-taken (text_rows c.args.text.now) c.args.group.now (map rule_sketched c.args.sketches.now)
    (rules_gathered c.args.gathered.now) (rules_gathered c.take_each.new.gathered)
    (sym c.in_ok-is_none.ensures ∙ c.if-is_none.false) given) c.take_each.ensures
