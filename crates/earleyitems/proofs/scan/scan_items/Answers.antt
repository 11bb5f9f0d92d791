use Rattle.std.proofs.Common.{arith, subst}
use Rattle.flatgrammar.proofs.InLemmas.{at_index_in}
use Rattle.earleyitems.specs.Chosen.{items_of}
use Rattle.earleyitems.specs.ScannedItems.{AreScannedItems}
use Rattle.earleyitems.proofs.AreScannedItemsLemmas.{read_none, scan_owned_more}
use Rattle.earleyitems.proofs.ExpandLemmas.{take_past}
use Rattle.earleyitems.proofs.scan.scan_items.Goals as goal

pub loop-at-init : goal.loop-at-init
loop-at-init c = record {
  added = read_none c.args.flat.now c.args.value c.args.set.now.items;
  owners = λ rows readers are. are;
}

pub loop-at-preserved : goal.loop-at-preserved
loop-at-preserved c = record {
  added = scan_owned_more c.args.flat.now c.args.value c.args.from.now c.loop-at.at-index _ _ _ _
      c.loop-at-test.true c.loop-at.invariant.added c.in_ok-scan_item.ensures.added;
  owners = λ rows readers are. c.in_ok-scan_item.ensures.owners rows
      (readers _ (at_index_in c.args.from.now c.loop-at.at-index _ c.loop-at-test.true))
      (c.loop-at.invariant.owners rows readers are);
}

pub returns-clause-added : goal.returns-clause-added
returns-clause-added c =
    let test = c.loop-at-test.false in
    subst (λ v. AreScannedItems c.args.flat.now c.args.value (items_of v) c.args.set.now.items c.loop-at.set.items)
    (take_past c.args.from.now c.loop-at.at-index (omega (arith, test))) c.loop-at.invariant.added

pub returns-clause-owners : goal.returns-clause-owners
returns-clause-owners c rows readers are = c.loop-at.invariant.owners rows readers are
