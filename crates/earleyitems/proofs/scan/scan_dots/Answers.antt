use Rattle.std.proofs.Common.{map, arith, subst}
use Rattle.flatgrammar.proofs.InLemmas.{at_index_in}
use Rattle.flatgrammar.specs.ItemClosures.{item_at}
use Rattle.earleyitems.specs.ScannedItems.{AreScannedItems}
use Rattle.earleyitems.proofs.AreScannedItemsLemmas.{read_none, scan_dots_more}
use Rattle.earleyitems.proofs.ExpandLemmas.{take_past}
use Rattle.earleyitems.proofs.scan.scan_dots.Goals as goal

pub loop-dot-init : goal.loop-dot-init
loop-dot-init c = record {
  added = read_none c.args.flat.now c.args.value c.args.set.now.items;
  owners = λ rows here are. are;
}

pub loop-dot-preserved : goal.loop-dot-preserved
loop-dot-preserved c = record {
  added = scan_dots_more c.args.flat.now c.args.value c.args.origin c.args.from.now
      c.loop-dot.dot-index _ _ _ _ c.loop-dot-test.true c.loop-dot.invariant.added
      c.in_ok-scan_item.ensures.added;
  owners = λ rows here are. c.in_ok-scan_item.ensures.owners rows
      (here _ (at_index_in c.args.from.now c.loop-dot.dot-index _ c.loop-dot-test.true))
      (c.loop-dot.invariant.owners rows here are);
}

pub returns-clause-added : goal.returns-clause-added
returns-clause-added c =
    let test = c.loop-dot-test.false in
    subst (λ v. AreScannedItems c.args.flat.now c.args.value (map (item_at c.args.origin) v) c.args.set.now.items
    c.loop-dot.set.items)
    (take_past c.args.from.now c.loop-dot.dot-index (omega (arith, test))) c.loop-dot.invariant.added

pub returns-clause-owners : goal.returns-clause-owners
returns-clause-owners c rows here are = c.loop-dot.invariant.owners rows here are
