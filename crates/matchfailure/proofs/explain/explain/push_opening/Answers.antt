use Rattle.std.proofs.Common.{◌≡◌, ◌++◌, ap, sym, ◌∙◌, List, ℕ}
use Rattle.std.specs.Prelude.{slice_get}
use Rattle.pegread.specs.PegViews.{rules_of}
use Rattle.pegread.specs.declared.expr.Expr.{Expr}
use Rattle.ruletable.specs.Rules as table
use Rattle.matchfailure.specs.NodeTexts.{name_of_rule}
use Rattle.matchfailure.specs.NoMatchLines.{opening}
use Rattle.matchfailure.proofs.RuleOfNodeLemmas.{name-is}
use Rattle.matchfailure.proofs.FoundLinesLemmas.{quiet-opening}
use Rattle.matchfailure.proofs.explain.explain.push_opening.Goals as goal

pub returns-then-is_stuck : goal.returns-then-is_stuck
returns-then-is_stuck c =
    let name : c.name.result.now ≡ name_of_rule (rules_of c.args.peg.now.rules) c.args.peg.now.start =
    name-is c.args.peg.now.rules.rules c.start.result c.name.result.now
    (ap (λ (r : table.Rules Expr). slice_get (table.names_of r) c.start.result) (sym c.rules.ensures)
    ∙ c.name.ensures)
    ∙ ap (name_of_rule (rules_of c.args.peg.now.rules)) c.start.ensures.id in
    rw (c.if-is_stuck.true, ← name) c.push_no_byte.ensures

pub returns-in_ok-extend_from_slice : goal.returns-in_ok-extend_from_slice
returns-in_ok-extend_from_slice c =
    let name = name_of_rule (rules_of c.args.peg.now.rules) c.args.peg.now.start in
    c.in_ok-extend_from_slice.ensures.items
    ∙ ap (λ (z : List ℕ). c.args.out.now.items ++ z)
    (sym (ap (λ b. opening b name c.args.lines.now) c.if-is_stuck.false
    ∙ quiet-opening name c.args.lines.now (sym c.is_empty.ensures ∙ c.if-is_empty.true)))
