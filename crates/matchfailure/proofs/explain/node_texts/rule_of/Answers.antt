use Rattle.std.proofs.Common.{◌≡◌, ℕ, List, ◌+◌, ◌-◌, ◌/◌, ◌∙◌, arith, ap, length, sym, subst}
use Rattle.std.specs.Prelude.{slice_get}
use Rattle.std.proofs.lemmas.Option.{slice_get_within}
use Rattle.pegread.specs.PegViews.{rules_of}
use Rattle.ruletable.specs.Rules as table
use Rattle.pegread.specs.declared.expr.Expr.{Expr}
use Rattle.matchfailure.proofs.RuleOfNodeLemmas.{rule-is, before-half, from-half, count-bodies, count-is, AreBefore}
use Rattle.matchfailure.proofs.RuleOfNodeLemmas.{AreFrom}
use Rattle.matchfailure.proofs.explain.node_texts.rule_of.Goals as goal

pub halves-init : goal.halves-init
halves-init c =
    let count = c.len-high.ensures.len in
    let same = ap (λ (r : table.Rules Expr). length r.rules) c.rules.ensures in
    let listed = count-is c.args.peg.now.rules in
    let bodies = ap length c.requires.bodies_are ∙ count-bodies (rules_of c.args.peg.now.rules) 0 in
    record {
      order = omega arith;
      within = omega (arith, count, same, listed, bodies);
      before = λ j m low at. absurd (omega (arith, low));
      from = λ j m le at. let low = slice_get_within c.args.peg.now.bodies j m at in
          absurd (omega (arith, le, low, count, same, listed, bodies));
    }

pub halves-preserved-then-body_node-n : goal.halves-preserved-then-body_node-n
halves-preserved-then-body_node-n c =
    let e = c.requires.bodies_are in
    let at = ap (λ (bs : List ℕ). slice_get bs (c.halves.low + (c.halves.high - c.halves.low) / 2)) (sym e)
    ∙ c.body_node.ensures in
    let less = c.halves-test.true in
    record {
      order = omega (arith, less);
      within = c.halves.invariant.within;
      before = subst (λ bs. AreBefore bs (c.halves.low + (c.halves.high - c.halves.low) / 2 + 1) c.args.n) (sym e)
          (before-half (rules_of c.args.peg.now.rules) _ c.args.n c.body_node.result at c.if-body_node-n.true);
      from = c.halves.invariant.from;
    }

pub halves-preserved : goal.halves-preserved
halves-preserved c =
    let e = c.requires.bodies_are in
    let at = ap (λ (bs : List ℕ). slice_get bs (c.halves.low + (c.halves.high - c.halves.low) / 2)) (sym e)
    ∙ c.body_node.ensures in
    let less = c.halves-test.true in
    record {
      order = omega (arith, less);
      within = omega (arith, less, c.halves.invariant.within);
      before = c.halves.invariant.before;
      from = subst (λ bs. AreFrom bs (c.halves.low + (c.halves.high - c.halves.low) / 2) c.args.n) (sym e)
          (from-half (rules_of c.args.peg.now.rules) _ c.args.n c.body_node.result at
          (omega (arith, c.if-body_node-n.false)));
    }

pub returns : goal.returns
returns c =
    let over = c.halves-test.false in
    let same : c.halves.low ≡ c.halves.high = omega (arith, over, c.halves.invariant.order) in
    rule-is c.args.peg.now.bodies c.args.n c.halves.low
    (omega (arith, c.halves.invariant.order, c.halves.invariant.within)) c.halves.invariant.before
    (subst (λ id. AreFrom c.args.peg.now.bodies id c.args.n) (sym same) c.halves.invariant.from)
