use Rattle.std.proofs.Common.{◌≡◌, [], length, refl, ◌∙◌, subst, arith}
use Rattle.earley.proofs.WordInLemmas.{default_same}
use Rattle.earley.specs.RowIndexes.{AreIndexedBelow}
use Rattle.earley.proofs.RowIndexesLemmas.{below_none, below_more}
use Rattle.earley.proofs.row_index.index_rows.Goals as goal

pub loop-position-init : goal.loop-position-init
loop-position-init c = record {
  own = refl;
  rest = refl;
  union = refl;
  indexes = below_none c.args.number c.args.rows.now c.args.own.now c.args.rest.now c.args.union.now;
}

pub loop-position-preserved : goal.loop-position-preserved
loop-position-preserved c = record {
  own = c.in_ok-index_row.ensures.own ∙ c.loop-position.invariant.own;
  rest = c.in_ok-index_row.ensures.rest ∙ c.loop-position.invariant.rest;
  union = c.in_ok-index_row.ensures.union ∙ c.loop-position.invariant.union;
  indexes = below_more c.args.number c.loop-position.position c.index-rows-position.result c.args.rows.now
      c.args.own.now
      c.args.rest.now c.args.union.now c.loop-position.own c.loop-position.rest c.loop-position.union
      c.index_row.new.own
      c.index_row.new.rest c.index_row.new.union
      (c.index-rows-position.is
      ∙ default_same c.args.rows.now c.loop-position.position c.index-rows-position.result [] c.loop-position-test.true)
      c.loop-position.invariant.indexes c.in_ok-index_row.ensures.indexes;
}

pub returns-clause-indexes : goal.returns-clause-indexes
returns-clause-indexes c =
    let all : c.loop-position.position ≡ length c.args.rows.now =
    (let end = c.loop-position-test.false in let most = c.loop-position.auto.position-end in omega (arith, end, most))
    in
    subst (λ v. AreIndexedBelow c.args.number v c.args.rows.now c.args.own.now c.args.rest.now
    c.args.union.now c.loop-position.own c.loop-position.rest c.loop-position.union) all
    c.loop-position.invariant.indexes
