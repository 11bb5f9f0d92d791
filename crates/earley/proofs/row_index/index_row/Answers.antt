use Rattle.std.proofs.Common.{arith}
use Rattle.earley.proofs.RowIndexesLemmas.{alone_indexes, rest_indexes, none_indexes}
use Rattle.earley.proofs.row_index.index_row.Goals as goal

pub returns-then-is_alone-clause-indexes : goal.returns-then-is_alone-clause-indexes
returns-then-is_alone-clause-indexes c = alone_indexes c.args.number c.args.position c.args.row.now c.args.own.now
    c.args.rest.now c.args.union.now c.insert_at.new.rows (c.is_alone.ensures c.if-is_alone.true)
    c.in_ok-insert_at.ensures.members

pub returns-in_ok-join_at-in-Some-clause-indexes : goal.returns-in_ok-join_at-in-Some-clause-indexes
returns-in_ok-join_at-in-Some-clause-indexes c = rest_indexes c.args.number c.args.position c.args.row.now
    c.args.own.now c.args.rest.now c.args.union.now c.insert_at-in-Some.new.rows
    c.in_ok-insert_at-in-Some.ensures.members c.join_at.new.rows c.in_ok-join_at-in-Some.ensures.members

pub returns-in-None-clause-indexes : goal.returns-in-None-clause-indexes
returns-in-None-clause-indexes c = none_indexes c.args.number c.args.position c.args.row.now c.args.own.now
    c.args.rest.now c.args.union.now c.args.rest.now (λ k h. let lt = c.in-None.ensures.none k h in omega (arith, lt))
