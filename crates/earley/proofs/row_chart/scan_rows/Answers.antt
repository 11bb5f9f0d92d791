use Rattle.std.proofs.Common.{◌∙◌, arith}
use Rattle.earley.proofs.RowStepLemmas.{scanned_none, scanned_next, scanned_all}
use Rattle.earley.proofs.row_chart.scan_rows.Goals as goal

pub loop-position-init : goal.loop-position-init
loop-position-init c = record {
  count = c.requires.count;
  gains = scanned_none c.args.table.now.flat.value c.args.table.now.dots.items c.args.value c.args.rows.now
      c.args.set.now;
}

pub loop-position-preserved : goal.loop-position-preserved
loop-position-preserved c = record {
  count = c.in_ok-scan_row.ensures.count ∙ c.loop-position.invariant.count;
  gains = scanned_next c.args.table.now.flat.value c.args.table.now.dots.items c.args.value c.args.rows.now
      c.loop-position.position c.args.set.now c.loop-position.set c.scan_row.new.set c.loop-position.invariant.gains
      c.in_ok-scan_row.ensures;
}

pub returns : goal.returns
returns c = scanned_all c.args.table.now.flat.value c.args.table.now.dots.items c.args.value c.args.rows.now
    c.loop-position.position c.args.set.now c.loop-position.set
    (let over = c.loop-position-test.false in let n = c.len-position-end.ensures in omega (arith, over, n))
    c.loop-position.invariant.gains
