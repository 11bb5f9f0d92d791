use Rattle.std.proofs.Common.{sym, subst, ◌∙◌}
use Rattle.earleyitems.specs.Chosen.{items_of}
use Rattle.earleyitems.specs.ItemSets.{Adds}
use Rattle.earleyitems.specs.ScannedItems.{IsScannedItem, AreScannedItems}
use Rattle.flatgrammar.specs.ItemClosures.{closure_of}
use Rattle.earleyitems.specs.SetViews.{expand, view}
use Rattle.earleyitems.proofs.AreScannedItemsLemmas.{read_both, read_fewer, read_adds}
use Rattle.earleyitems.proofs.scan.scan.Goals as goal

pub returns-clause-added : goal.returns-clause-added
returns-clause-added g c =
    let flat = c.args.flat.now in
    let value = c.value-value.result in
    let all = view flat c.args.origin c.args.from.now in
    let read = read_both flat value
    (expand (closure_of flat) c.args.origin c.args.from.now.predictions) c.args.from.now.items
    c.args.set.now.items c.scan_predictions.new.set.items c.scan_items.new.set.items
    (subst (λ v. AreScannedItems flat value (expand (closure_of flat) c.args.origin v)
    c.args.set.now.items c.scan_predictions.new.set.items) c.records.ensures.predictions
    c.in_ok-scan_predictions.ensures.added)
    (read_fewer flat value c.scan_predictions.new.set.items c.scan_items.new.set.items
    (items_of c.args.readers.now) c.args.from.now.items c.requires.readers.stand
    (λ a i r. c.requires.readers.chosen a i (value, r)) c.requires.readers.different
    c.in_ok-scan_items.ensures.added) in
    subst (λ n. Adds (IsScannedItem flat n all) c.args.set.now.items c.scan_items.new.set.items)
    c.value-value.ensures.number
    (subst (λ v. Adds (IsScannedItem flat value all) v c.scan_items.new.set.items) (sym c.requires.empty)
    (read_adds flat value all c.scan_items.new.set.items c.requires.different
    (subst (λ v. AreScannedItems flat value all v c.scan_items.new.set.items) c.requires.empty read)))

pub returns-clause-owners : goal.returns-clause-owners
returns-clause-owners g c rows row readers are = c.in_ok-scan_items.ensures.owners rows readers
    (c.in_ok-scan_predictions.ensures.owners rows (row ∙ sym c.records.ensures.predictions) are)
