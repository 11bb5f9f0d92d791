use Rattle.std.proofs.Common.{List, ℕ, Some, [], ◌∷◌, ◌++◌, ◌∙◌, ap, map}
use Rattle.std.proofs.lemmas.List.{map-append}
use Rattle.abnftexts.specs.RulesGathered.{ReportedRule, reported_rule}
use Rattle.abnftexts.specs.declared.gathered.RuleReport.{RuleReport}
use Rattle.abnftexts.proofs.taken.push_no_rule.Goals as goal

pub returns : goal.returns
returns c =
    let message = c.in_ok-message.message in
    let old = c.args.reported.now.items in
    let report : List ℕ → ReportedRule = λ lines. record { message = message.items; lines = Some lines } in (
      message.items,
      c.in_ok-message.ensures,
      ap (λ (rs : List RuleReport). map reported_rule rs) c.in_ok-push.ensures.items
          ∙ map-append reported_rule old (record { message = message; lines = Some c.in_ok-own.own } ∷ [])
          ∙ ap (λ (t : List ℕ). map reported_rule old ++ report t ∷ []) c.in_ok-own.ensures,
    )
