-- The names of the rules, the given one, and those in the bodies.
use Rattle.std.proofs.Common.{◌∙◌, sym, arith}
use Rattle.std.specs.Prelude.{option_copied, option_to_list}
use Rattle.std.proofs.lemmas.List.{length-map}
use Rattle.fixpoint.specs.StepRows.{rows_of}
use Rattle.fixpoint.proofs.RowsOfLemmas.{length-rows}
use Rattle.ruletable.specs.Rules.{names_of}
use Rattle.abnfread.specs.AbnfViews.{rules_of}
use Rattle.abnfcheck.specs.AbnfUses.{rule_names}
use Rattle.abnfcheck.proofs.NameIdsLemmas.{first_known, graph_from, names_same, rows_fit}
use Rattle.abnfcheck.proofs.name_ids.name_ids.Goals as goal

pub pad-requires : goal.pad-requires
pad-requires c =
    let rules = rules_of c.args.rules.now in
    let first = first_known (rule_names rules) (option_to_list (option_copied c.args.rule))
    (names_of c.in_ok-names.names) (names_of c.judged_id.new.names)
    (c.in_ok-names.ensures.names ∙ sym (names_same c.args.rules.now.rules)) c.in_ok-judged.ensures.names in
    let fit = rows_fit rules _ _ _ (c.in_ok-rows.ensures.names _ _ first) (c.in_ok-rows.ensures.rows _ _ first) in
    let l = length-rows c.in_ok-rows.rows.items in
    let n = length-map c.body_rows.new.names.rules (λ rule. rule.name) in
    let k = c.len.ensures.len in
    omega (arith, fit, l, n, k)

pub returns-clause-graph : goal.returns-clause-graph
returns-clause-graph c =
    let rules = rules_of c.args.rules.now in
    let first = first_known (rule_names rules) (option_to_list (option_copied c.args.rule))
    (names_of c.in_ok-names.names) (names_of c.judged_id.new.names)
    (c.in_ok-names.ensures.names ∙ sym (names_same c.args.rules.now.rules)) c.in_ok-judged.ensures.names in
    graph_from rules (option_copied c.args.rule) (names_of c.judged_id.new.names) (names_of c.body_rows.new.names)
    (rows_of c.in_ok-rows.rows.items) (rows_of c.pad.new.rows.items) c.in_ok-judged.judged
    first c.in_ok-judged.ensures.judged (c.in_ok-rows.ensures.names _ _ first) (c.in_ok-rows.ensures.rows _ _ first)
    (length-rows c.pad.new.rows.items ∙ c.in_ok-pad.ensures.count ∙ c.len.ensures.len
    ∙ sym (length-map c.body_rows.new.names.rules (λ rule. rule.name)))
    c.in_ok-pad.ensures.rows
