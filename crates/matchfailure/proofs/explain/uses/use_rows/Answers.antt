use Rattle.std.proofs.Common.{◌≡◌, ℕ, ◌+◌, ◌<◌, ◌++◌, ap, arith, drop, get_or, length, subst}
use Rattle.std.proofs.lemmas.Option.{slice_get-get_or}
use Rattle.fixpoint.specs.StepRows.{rows_of}
use Rattle.pegnodes.specs.Nodes.{shapes_of}
use Rattle.pegread.specs.declared.expr.Expr.{Expr}
use Rattle.ruletable.specs.Rules as table
use Rattle.matchfailure.specs.ReportOrder.{first_node, use_rows}
use Rattle.matchfailure.proofs.RuleOfNodeLemmas.{count-is}
use Rattle.matchfailure.proofs.UseRowsLemmas.{first-next, use-row-next}
use Rattle.matchfailure.proofs.explain.uses.use_rows.Goals as goal

pub loop-id-preserved : goal.loop-id-preserved
loop-id-preserved c =
    let nodes = shapes_of c.args.peg.now.nodes in
    let bodies = c.args.peg.now.bodies in
    let id = c.loop-id.id in
    let same = ap (λ (r : table.Rules Expr). length r.rules) c.rules.ensures in
    let low : id < length bodies = omega (
      arith,
      c.loop-id-test.true,
      c.len-id-end.ensures.len,
      same,
      count-is c.args.peg.now.rules,
      c.requires.sound.spelled.count,
    ) in
    let at = slice_get-get_or bodies id 0 low in
    subst (λ (first : ℕ). rows_of c.push.new.self.items ++ use_rows nodes first (drop (id + 1) bodies)
    ≡ use_rows nodes 0 bodies) (first-next bodies id)
    (use-row-next nodes bodies id (first_node bodies id) (get_or bodies id 0) c.loop-id.rows.items
    c.push.new.self.items c.in_ok-names_of.field-0 at (c.in_ok-names_of.ensures _ at) c.in_ok-push.ensures.items
    c.loop-id.invariant)
