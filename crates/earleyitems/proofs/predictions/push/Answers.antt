use Rattle.std.proofs.Common.{◌≡◌, length, arith}
use Rattle.earleyitems.proofs.PredictionTablesLemmas.{table_push}
use Rattle.earleyitems.proofs.predictions.push.Goals as goal

pub returns-clause-table : goal.returns-clause-table
returns-clause-table c =
    let count : c.len-index.result ≡ length c.args.list.now.items =
    (let e = c.len-index.ensures in let o = c.args.list.now.ok.0 in omega (arith, e, o)) in
    rw (c.in_ok-push.ensures.items, count) (table_push c.args.list.now.items c.args.table.now c.args.prediction
    c.requires.table c.requires.apart c.requires.room)
