use Rattle.std.proofs.Common.{ap, ◌∙◌, sym, arith, length}
use Rattle.std.specs.Prelude.{slice_get}
use Rattle.pegread.specs.PegViews.{rules_of}
use Rattle.pegread.specs.declared.expr.Expr.{Expr}
use Rattle.ruletable.specs.Rules as table
use Rattle.matchfailure.specs.NodeTexts.{name_of_rule}
use Rattle.matchfailure.proofs.RuleOfNodeLemmas.{name-is, no-name}
use Rattle.matchfailure.proofs.explain.node_texts.rule_name.Goals as goal

pub returns-then-id-len : goal.returns-then-id-len
returns-then-id-len c =
    name-is c.args.peg.now.rules.rules c.rule_of-id.result c.name.result.now
    (ap (λ (r : table.Rules Expr). slice_get (table.names_of r) c.rule_of-id.result) (sym c.rules-rules.ensures)
    ∙ c.name.ensures)
    ∙ ap (name_of_rule (rules_of c.args.peg.now.rules)) c.rule_of-id.ensures

pub returns-else-id-len : goal.returns-else-id-len
returns-else-id-len c =
    let same = ap (λ (r : table.Rules Expr). length r.rules) c.rules-rules.ensures in
    no-name c.args.peg.now.rules.rules c.rule_of-id.result
    (omega (arith, same, c.len.ensures.len, c.if-id-len.false))
    ∙ ap (name_of_rule (rules_of c.args.peg.now.rules)) c.rule_of-id.ensures
