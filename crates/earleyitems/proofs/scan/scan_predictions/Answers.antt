use Rattle.std.proofs.Common.{◌∙◌, ap, subst, map, slice_index_or, arith}
use Rattle.flatgrammar.specs.ItemClosures.{closure_of, item_at, readers_of}
use Rattle.flatgrammar.specs.Positions.{In}
use Rattle.earleyitems.specs.SetViews.{expand}
use Rattle.earleyitems.specs.EarleySets.{predictions_of}
use Rattle.earleyitems.specs.ScannedItems.{AreScannedItems}
use Rattle.earleyitems.proofs.AreBucketsLemmas.{get_index}
use Rattle.earleyitems.proofs.AreScannedItemsLemmas.{read_none, scan_predictions_more, closure_read}
use Rattle.earleyitems.proofs.ItemOwnersLemmas.{dot_owner, reader_stands}
use Rattle.earleyitems.proofs.RecordsLemmas.{below_predictions, prediction_at, predictions_past}
use Rattle.earleyitems.proofs.scan.scan_predictions.Goals as goal

pub loop-owner-init : goal.loop-owner-init
loop-owner-init c = record {
  added = read_none c.args.flat.now c.args.value c.args.set.now.items;
  owners = λ rows row are. are;
}

pub loop-owner-preserved : goal.loop-owner-preserved
loop-owner-preserved c =
    let predictions = predictions_of c.args.records.now in
    let prediction = slice_index_or predictions c.loop-owner.owner 0 in
    let below = below_predictions c.args.records.now c.loop-owner.owner c.loop-owner-test.true in
    let tried = c.readers-readers.ensures ∙ ap (λ n. readers_of c.args.flat.now n c.args.value)
    (prediction_at c.args.records.now c.loop-owner.owner _ 0 c.loop-owner-test.true) in
    record {
      added = scan_predictions_more c.args.flat.now c.args.value (closure_of c.args.flat.now) c.args.origin
          predictions c.loop-owner.owner 0 _ _ _ below c.loop-owner.invariant.added
          (closure_read c.args.flat.now c.args.value _ _ c.requires.lists prediction c.args.origin
          (subst (λ v. AreScannedItems c.args.flat.now c.args.value (map (item_at c.args.origin) v)
          c.loop-owner.set.items c.scan_dots.new.set.items) tried c.in_ok-scan_dots.ensures.added));
      owners = λ rows row are. c.in_ok-scan_dots.ensures.owners rows
          (λ p stands. dot_owner c.args.flat.now c.requires.owners rows predictions prediction c.args.origin
          c.loop-owner.owner p row
          (get_index predictions c.loop-owner.owner 0 below)
          (reader_stands c.args.flat.now c.requires.lists prediction c.args.value p (subst (λ v. In p v) tried stands)))
          (c.loop-owner.invariant.owners rows row are);
    }

pub returns-clause-added : goal.returns-clause-added
returns-clause-added c =
    let test = c.loop-owner-test.false in
    subst (λ v. AreScannedItems c.args.flat.now c.args.value (expand (closure_of c.args.flat.now) c.args.origin v)
    c.args.set.now.items c.loop-owner.set.items)
    (predictions_past c.args.records.now c.loop-owner.owner (omega (arith, test))) c.loop-owner.invariant.added

pub returns-clause-owners : goal.returns-clause-owners
returns-clause-owners c rows row are = c.loop-owner.invariant.owners rows row are
