use Rattle.std.proofs.Common.{[], arith, subst}
use Rattle.std.specs.Prelude.{IfSome}
use Rattle.rulelines.specs.StateTables.{IsCan, IsFilledBy}
use Rattle.rulelines.proofs.LineOrderLemmas.{line_found, none_found, none_longer}
use Rattle.rulelines.proofs.StateTableLemmas.{kept_trans}
use Rattle.rulelines.proofs.list.search.line_from.Goals as goal

pub returns-then-can-clause-is : goal.returns-then-can-clause-is
returns-then-can-clause-is c =
    let now = c.add_levels.new.table in
    let grown = kept_trans c.args.table.now c.loop-count.table now c.loop-count.invariant.kept
    c.in_ok-add_levels.ensures in
    line_found c.args.table.now now c.args.limit grown c.args.least c.loop-count.count c.in-Some-2.word
    c.loop-count.auto.count (let lt = c.loop-count-test.true in omega (arith, lt)) c.loop-count.invariant.none
    (subst (λ v. IfSome v (λ word. IsFilledBy now now.start c.loop-count.count [] word.items)) c.in-Some-2.is
    c.in_ok-word.ensures)

pub loop-count-preserved : goal.loop-count-preserved
loop-count-preserved c =
    let now = c.add_levels.new.table in
    let grown = kept_trans c.args.table.now c.loop-count.table now c.loop-count.invariant.kept
    c.in_ok-add_levels.ensures in
    record {
      kept = grown;
      none = none_found c.args.table.now now c.args.limit grown c.args.least c.loop-count.count
          c.loop-count.invariant.none
          (subst (λ v. IsCan now now.start c.loop-count.count v) c.if-can.false c.in-Some.ensures);
    }

pub returns-then-is_over-clause-is : goal.returns-then-is_over-clause-is
returns-then-is_over-clause-is c =
    let now = c.add_levels.new.table in
    let grown = kept_trans c.args.table.now c.loop-count.table now c.loop-count.invariant.kept
    c.in_ok-add_levels.ensures in
    none_longer c.args.table.now now c.args.limit grown c.args.least c.loop-count.count c.loop-count.invariant.none
    (c.is_over.ensures c.if-is_over.true)
