use Rattle.std.proofs.Common.{◌∙◌, ◌++◌, List, [], ◌∷◌, None, ap, map, sym}
use Rattle.std.proofs.lemmas.List.{length-map, map-append}
use Rattle.abnfblocks.specs.TextLines.{numbered}
use Rattle.abnfblocks.specs.declared.found.RuleSearch.{RuleSearch}
use Rattle.abnftexts.specs.RulesGathered.{ListEntry, entry_listed, reported_rule, rules_gathered}
use Rattle.abnftexts.specs.ValueRuns.{found_rules, run_reported, value_entry}
use Rattle.abnftexts.specs.declared.gathered.RuleReport.{RuleReport}
use Rattle.rfcvalues.specs.RuleSketches.{rule_sketched}
use Rattle.abnftexts.proofs.ValueRunsLemmas.{entries-all, given-run, its-all, on-more}
use Rattle.abnftexts.proofs.values.take_run.Goals as goal

pub returns : goal.returns
returns c =
    on-more _ _ c.push_values.result (λ listed marks size enough.
    let name = c.args.rows.now.name.now in
    let lines = map numbered c.args.rows.now.lines.items in
    let run = c.args.run.now in
    let sketches = c.args.sketches.now in
    let old = c.args.gathered.now in
    let seen = map rule_sketched sketches in
    let its = its-all run seen marks (size ∙ sym (length-map sketches rule_sketched)) enough in
    given-run (rules_gathered old) name lines (found_rules run seen marks) c.in_ok-message.message.items
    (map reported_rule c.push.new.self.items) (map entry_listed c.push_values.new.list.items)
    (c.in_ok-message.ensures ∙ ap (λ (found : List RuleSearch). run_reported name lines found) (sym its))
    (ap (λ (rs : List RuleReport). map reported_rule rs) c.in_ok-push.ensures.items
    ∙ map-append reported_rule old.reported.items (record { message = c.in_ok-message.message; lines = None } ∷ []))
    (listed ∙ ap (λ (es : List ListEntry). map entry_listed old.list.items ++ es)
    (entries-all (λ it sketch. value_entry name lines it sketch) run sketches marks enough))) c.push_values.ensures
