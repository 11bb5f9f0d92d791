use Rattle.std.proofs.Common.{map, take, ℕ, ◌+◌, ◌<◌, ◌++◌, ◌∷◌, [], length, subst, sym, arith, slice_index_or, inl}
use Rattle.std.proofs.Common.{◌≡◌, Some, slice_get, inr, ap, ◌∙◌}
use Rattle.std.proofs.lemmas.List.{length-map}
use Rattle.flatgrammar.specs.ItemClosures.{owner_of}
use Rattle.earleyitems.specs.ItemOwners.{prediction_rows, prediction_rows_with, HavePredictions}
use Rattle.flatgrammar.specs.Positions.{In}
use Rattle.flatgrammar.specs.declared.flat_item.Item.{Item}
use Rattle.earleyitems.specs.ItemSets.{Adds}
use Rattle.flatgrammar.specs.ItemClosures.{closure_of, item_at}
use Rattle.earleyitems.specs.Chosen.{items_of, callers_of, Calls, ReadsSome, AreChosen}
use Rattle.earleyitems.specs.SetViews.{expand, views, IsPredictedTarget, IsAddedFor}
use Rattle.earleyitems.proofs.FillLemmas.{measure_falls, more_keeps, item_more, prediction_more}
use Rattle.earleyitems.proofs.FillLemmas.{front_same, full_held, all_different, all_closed}
use Rattle.earleyitems.proofs.ChartSetsLemmas.{size_more}
use Rattle.earleyitems.proofs.AloneLemmas.{begin_all}
use Rattle.earleyitems.proofs.AreChosenLemmas.{chosen_next, chosen_still, chosen_end}
use Rattle.earleyitems.proofs.ExpandLemmas.{length_views, take_past}
use Rattle.flatgrammar.proofs.CallOfLemmas.{past_get}
use Rattle.earleyitems.proofs.AreBucketsLemmas.{index_get, keeps_get}
use Rattle.earleyitems.proofs.ItemOwnersLemmas.{rows_more, rows_grow, own_row, owner_there, items_keep, callers_keep}
use Rattle.earleyitems.proofs.ItemOwnersLemmas.{readers_keep, pass_owner}
use Rattle.earleyitems.proofs.fill.fill.Goals as goal

pub loop-item_index-smaller-then-item_index-len : goal.loop-item_index-smaller-then-item_index-len
loop-item_index-smaller-then-item_index-len c =
    let going = c.loop-item_index.invariant.going c.requires.begun.0 c.requires.begun.1 c.requires.begun.2 in
    measure_falls c.args.flat.now c.requires.targets c.requires.nulls c.requires.tables
    c.requires.begun.0
    (views c.args.flat.now 0 c.args.sets.now) c.requires.begun.1
    c.loop-item_index.item_index c.loop-item_index.prediction_index (c.loop-item_index.item_index + 1)
    c.loop-item_index.prediction_index c.loop-item_index.predictions c.loop-item_index.items.items going
    (omega arith) (inl (let test = c.if-item_index-len.true in let len = c.len.ensures in omega (arith, test, len)))

pub loop-item_index-preserved-then-item_index-len :
    goal.loop-item_index-preserved-then-item_index-len
loop-item_index-preserved-then-item_index-len c =
    let below : c.loop-item_index.item_index < length c.loop-item_index.items.items =
    (let test = c.if-item_index-len.true in let len = c.len.ensures in omega (arith, test, len)) in
    let item_is = index_get c.loop-item_index.items.items c.loop-item_index.item_index c.at-item.result
    c.at-item.ensures in
    let asked = subst (λ v. Adds
    (IsPredictedTarget c.args.flat.now v) c.loop-item_index.predictions c.process_item.new.predictions)
    item_is
    c.in_ok-process_item.ensures.predictions in
    let further = subst (λ v. Adds (IsAddedFor c.args.flat.now (views c.args.flat.now 0 c.args.sets.now) v)
    c.loop-item_index.items.items c.process_item.new.items.items) item_is c.in_ok-process_item.ensures.items in
    let rows = prediction_rows_with c.args.sets.now c.loop-item_index.predictions in
    let more = prediction_rows_with c.args.sets.now c.process_item.new.predictions in
    let have = subst (λ v. HavePredictions (prediction_rows_with c.args.sets.now v) rows) (sym asked.is)
    (rows_grow (prediction_rows c.args.sets.now) c.loop-item_index.predictions asked.added) in
    let here = have c.at-item.result.origin c.owner-owner.result
    (owner_of c.args.flat.now c.at-item.result.node) (c.loop-item_index.invariant.owners c.loop-item_index.item_index
    c.at-item.result c.owner-owner.result c.at-item.ensures c.owner-owner.ensures) in
    let going = c.loop-item_index.invariant.going c.requires.begun.0 c.requires.begun.1 c.requires.begun.2 in
    record {
      going = λ line earlier begun. item_more c.args.flat.now c.requires.targets c.requires.nulls c.requires.tables
          line (views c.args.flat.now 0 c.args.sets.now) earlier
          c.loop-item_index.item_index c.loop-item_index.prediction_index c.loop-item_index.predictions
          c.loop-item_index.items.items
          (c.loop-item_index.invariant.going line earlier begun) c.at-item.result
          c.process_item.new.predictions c.process_item.new.items.items below asked further;
      keeps = λ a h. more_keeps c.args.flat.now c.requires.targets c.requires.nulls c.requires.tables
          c.requires.begun.0 (views c.args.flat.now 0 c.args.sets.now) c.requires.begun.1
          (length (views c.args.flat.now 0 c.args.sets.now)) c.loop-item_index.predictions
          c.process_item.new.predictions
          c.loop-item_index.items.items c.process_item.new.items.items asked further a
          (c.loop-item_index.invariant.keeps a h);
      callers = (let called = c.in_ok-process_item.ensures.callers
          (take c.loop-item_index.item_index c.loop-item_index.items.items)
          c.loop-item_index.invariant.callers in record {
            chosen = chosen_next (Calls c.args.flat.now) c.loop-item_index.items.items c.process_item.new.items.items
                (callers_of c.process_item.new.postdot.callers.items) c.loop-item_index.item_index further
                c.at-item.result below
                (subst (λ v. AreChosen (Calls c.args.flat.now)
                (take c.loop-item_index.item_index c.loop-item_index.items.items
                ++ v ∷ []) (callers_of c.process_item.new.postdot.callers.items)) item_is called.chosen);
            report = called.report;
          });
      counted = λ j. c.loop-item_index.invariant.counted j ∙ ap (λ v. length (expand (closure_of c.args.flat.now) j v))
          (sym (front_same c.loop-item_index.prediction_index c.loop-item_index.predictions asked.added
          c.process_item.new.predictions
          asked.is
          going.within_predictions));
      readers = chosen_next (ReadsSome c.args.flat.now) c.loop-item_index.items.items c.process_item.new.items.items
          (items_of c.process_item.new.postdot.readers.items) c.loop-item_index.item_index further c.at-item.result
          below
          (subst (λ v. AreChosen (ReadsSome c.args.flat.now)
          (take c.loop-item_index.item_index c.loop-item_index.items.items
          ++ v ∷ []) (items_of c.process_item.new.postdot.readers.items)) item_is
          (c.in_ok-process_item.ensures.readers (take c.loop-item_index.item_index c.loop-item_index.items.items)
          c.loop-item_index.invariant.readers));
      owners = c.in_ok-process_item.ensures.owners more
          (rows_more (prediction_rows c.args.sets.now) c.process_item.new.predictions)
          here (items_keep c.args.flat.now more rows have c.loop-item_index.items c.loop-item_index.invariant.owners);
      caller_owners = c.in_ok-process_item.ensures.caller_owners more here
          (callers_keep c.args.flat.now more rows have c.loop-item_index.postdot.callers.items
          c.loop-item_index.invariant.caller_owners);
      reader_owners = c.in_ok-process_item.ensures.reader_owners more here
          (readers_keep c.args.flat.now more rows have c.loop-item_index.postdot.readers.items
          c.loop-item_index.invariant.reader_owners);
    }

pub loop-item_index-smaller : goal.loop-item_index-smaller
loop-item_index-smaller c =
    let going = c.loop-item_index.invariant.going c.requires.begun.0 c.requires.begun.1 c.requires.begun.2 in
    measure_falls c.args.flat.now c.requires.targets c.requires.nulls c.requires.tables
    c.requires.begun.0
    (views c.args.flat.now 0 c.args.sets.now) c.requires.begun.1
    c.loop-item_index.item_index c.loop-item_index.prediction_index c.loop-item_index.item_index
    (c.loop-item_index.prediction_index + 1) c.loop-item_index.predictions c.loop-item_index.items.items
    going
    (omega arith) (inr (let test = c.if-prediction_index-len.true in let len = c.len-else-item_index-len.ensures in
    omega (arith, test, len)))

pub loop-item_index-preserved : goal.loop-item_index-preserved
loop-item_index-preserved c =
    let below : c.loop-item_index.prediction_index < length c.loop-item_index.predictions =
    (let test = c.if-prediction_index-len.true in let len = c.len-else-item_index-len.ensures in
    omega (arith, test, len)) in
    let prediction_is = index_get c.loop-item_index.predictions c.loop-item_index.prediction_index
    c.at-prediction.result c.at-prediction.ensures in
    let called = subst (λ v. Adds {A = ℕ} (λ t. In t (closure_of c.args.flat.now v).calls) c.loop-item_index.predictions
    c.process_prediction.new.predictions) prediction_is c.in_ok-process_prediction.ensures.predictions in
    let passed = subst (λ n. Adds {A = Item} (λ a. In a
    (map (item_at n) (closure_of c.args.flat.now
    (slice_index_or c.loop-item_index.predictions c.loop-item_index.prediction_index
    c.at-prediction.result)).passes))
    c.loop-item_index.items.items c.process_prediction.new.items.items)
    (c.len-then-prediction_index-len.ensures ∙ sym (length_views c.args.flat.now 0 c.args.sets.now))
    (subst (λ v. Adds {A = Item} (λ a. In a (map (item_at c.len-then-prediction_index-len.result)
    (closure_of c.args.flat.now v).passes)) c.loop-item_index.items.items c.process_prediction.new.items.items)
    prediction_is
    c.in_ok-process_prediction.ensures.items) in
    let rows = prediction_rows_with c.args.sets.now c.loop-item_index.predictions in
    let more = prediction_rows_with c.args.sets.now c.process_prediction.new.predictions in
    let have = subst (λ v. HavePredictions (prediction_rows_with c.args.sets.now v) rows) (sym called.is)
    (rows_grow (prediction_rows c.args.sets.now) c.loop-item_index.predictions called.added) in
    let at : slice_get c.process_prediction.new.predictions c.loop-item_index.prediction_index
    ≡ Some c.at-prediction.result =
    ap (λ v. slice_get v c.loop-item_index.prediction_index) called.is
    ∙ keeps_get c.loop-item_index.predictions called.added c.loop-item_index.prediction_index c.at-prediction.result
    c.at-prediction.ensures in
    let going = c.loop-item_index.invariant.going c.requires.begun.0 c.requires.begun.1 c.requires.begun.2 in
    record {
      going = λ line earlier begun. prediction_more c.args.flat.now c.requires.targets c.requires.nulls
          c.requires.tables
          line (views c.args.flat.now 0 c.args.sets.now) earlier
          c.loop-item_index.item_index c.loop-item_index.prediction_index c.loop-item_index.predictions
          c.loop-item_index.items.items
          (c.loop-item_index.invariant.going line earlier begun) c.at-prediction.result
          c.process_prediction.new.predictions c.process_prediction.new.items.items below called passed;
      keeps = λ a h. more_keeps c.args.flat.now c.requires.targets c.requires.nulls c.requires.tables
          c.requires.begun.0 (views c.args.flat.now 0 c.args.sets.now) c.requires.begun.1
          (length (views c.args.flat.now 0 c.args.sets.now)) c.loop-item_index.predictions
          c.process_prediction.new.predictions
          c.loop-item_index.items.items c.process_prediction.new.items.items called passed a
          (c.loop-item_index.invariant.keeps a h);
      callers = record {
        chosen = chosen_still (Calls c.args.flat.now) c.loop-item_index.items.items c.process_prediction.new.items.items
            (callers_of c.loop-item_index.postdot.callers.items) c.loop-item_index.item_index passed
            going.within_items c.loop-item_index.invariant.callers.chosen;
        report = c.loop-item_index.invariant.callers.report;
      };
      counted = λ j.
          let more = size_more (closure_of c.args.flat.now) j c.loop-item_index.predictions
          c.loop-item_index.prediction_index
          c.at-prediction.result c.dots.result.now below
          (c.dots.ensures ∙ ap (λ v. (closure_of c.args.flat.now v).dots) prediction_is) in
          let front = ap (λ v. length (expand (closure_of c.args.flat.now) j v))
          (front_same (c.loop-item_index.prediction_index + 1) c.loop-item_index.predictions called.added
          c.process_prediction.new.predictions
          called.is
          (omega (arith, below))) in
          let was = c.loop-item_index.invariant.counted j in
          let sum = c.in-Some.ensures in
          omega (arith, more, front, was, sum);
      readers = chosen_still
          (ReadsSome c.args.flat.now) c.loop-item_index.items.items c.process_prediction.new.items.items
          (items_of c.loop-item_index.postdot.readers.items) c.loop-item_index.item_index passed
          going.within_items c.loop-item_index.invariant.readers;
      owners = c.in_ok-process_prediction.ensures.owners more
          (λ p stands. pass_owner c.args.flat.now c.requires.owners more c.process_prediction.new.predictions
          c.at-prediction.result
          c.len-then-prediction_index-len.result c.loop-item_index.prediction_index p
          (own_row (prediction_rows c.args.sets.now) c.process_prediction.new.predictions
          c.len-then-prediction_index-len.result
          (c.len-then-prediction_index-len.ensures ∙ sym (length-map c.args.sets.now (λ f. f.predictions)))) at stands)
          (items_keep c.args.flat.now more rows have c.loop-item_index.items c.loop-item_index.invariant.owners);
      caller_owners = callers_keep c.args.flat.now more rows have c.loop-item_index.postdot.callers.items
          c.loop-item_index.invariant.caller_owners;
      reader_owners = readers_keep c.args.flat.now more rows have c.loop-item_index.postdot.readers.items
          c.loop-item_index.invariant.reader_owners;
    }

pub returns-else-prediction_index-len-clause-held : goal.returns-else-prediction_index-len-clause-held
returns-else-prediction_index-len-clause-held c = λ line earlier begun.
    full_held c.args.flat.now c.requires.targets c.requires.nulls c.requires.tables line
    (views c.args.flat.now 0 c.args.sets.now) earlier c.loop-item_index.item_index c.loop-item_index.prediction_index
    c.loop-item_index.predictions c.loop-item_index.items.items (c.loop-item_index.invariant.going line earlier begun)

pub returns-else-prediction_index-len-clause-different :
    goal.returns-else-prediction_index-len-clause-different
returns-else-prediction_index-len-clause-different c =
    let going = c.loop-item_index.invariant.going c.requires.begun.0 c.requires.begun.1 c.requires.begun.2 in
    all_different c.args.flat.now c.requires.targets c.requires.nulls c.requires.tables
    c.requires.begun.0 (views c.args.flat.now 0 c.args.sets.now) c.requires.begun.1
    c.loop-item_index.item_index c.loop-item_index.prediction_index c.loop-item_index.predictions
    c.loop-item_index.items.items
    going

pub returns-else-prediction_index-len-clause-closed : goal.returns-else-prediction_index-len-clause-closed
returns-else-prediction_index-len-clause-closed c =
    let going = c.loop-item_index.invariant.going c.requires.begun.0 c.requires.begun.1 c.requires.begun.2 in
    all_closed c.args.flat.now c.requires.targets c.requires.nulls c.requires.tables
    c.requires.begun.0 (views c.args.flat.now 0 c.args.sets.now) c.requires.begun.1
    c.loop-item_index.item_index c.loop-item_index.prediction_index c.loop-item_index.predictions
    c.loop-item_index.items.items
    going
    (let test = c.if-item_index-len.false in let len = c.len.ensures in omega (arith, test, len))
    (let test = c.if-prediction_index-len.false in let len = c.len-else-item_index-len.ensures in omega
    (arith, test, len))
    (past_get (views c.args.flat.now 0 c.args.sets.now) (length (views c.args.flat.now 0 c.args.sets.now))
    (omega arith))

pub returns-else-prediction_index-len-clause-callers : goal.returns-else-prediction_index-len-clause-callers
returns-else-prediction_index-len-clause-callers c = record {
  chosen = chosen_end (Calls c.args.flat.now) c.loop-item_index.items.items
      (callers_of c.loop-item_index.postdot.callers.items) c.loop-item_index.item_index
      (let test = c.if-item_index-len.false in let len = c.len.ensures in omega (arith, test, len))
      c.loop-item_index.invariant.callers.chosen;
  report = c.loop-item_index.invariant.callers.report;
}

pub returns-else-prediction_index-len-clause-readers : goal.returns-else-prediction_index-len-clause-readers
returns-else-prediction_index-len-clause-readers c = chosen_end
    (ReadsSome c.args.flat.now) c.loop-item_index.items.items
    (items_of c.loop-item_index.postdot.readers.items) c.loop-item_index.item_index
    (let test = c.if-item_index-len.false in let len = c.len.ensures in omega (arith, test, len))
    c.loop-item_index.invariant.readers

pub process_item-requires-clause-begun : goal.process_item-requires-clause-begun
process_item-requires-clause-begun c = begin_all c.args.flat.now c.requires.begun.0
    c.args.sets.now
    c.requires.begun.1

pub returns-else-prediction_index-len-clause-closures : goal.returns-else-prediction_index-len-clause-closures
returns-else-prediction_index-len-clause-closures c = λ j. c.loop-item_index.invariant.counted j
    ∙ ap (λ v. length (expand (closure_of c.args.flat.now) j v))
    (take_past c.loop-item_index.predictions c.loop-item_index.prediction_index
    (let test = c.if-prediction_index-len.false in let len = c.len-else-item_index-len.ensures in omega
    (arith, test, len)))

pub process_item-requires-clause-owner : goal.process_item-requires-clause-owner
process_item-requires-clause-owner c = owner_there c.args.flat.now c.args.sets.now c.loop-item_index.predictions
    c.at-item.result c.owner-owner.result
    (c.loop-item_index.invariant.owners c.loop-item_index.item_index c.at-item.result c.owner-owner.result
    c.at-item.ensures c.owner-owner.ensures)

pub returns-else-prediction_index-len-clause-caller_owners : goal.returns-else-prediction_index-len-clause-caller_owners
returns-else-prediction_index-len-clause-caller_owners c = c.loop-item_index.invariant.caller_owners

pub returns-else-prediction_index-len-clause-reader_owners : goal.returns-else-prediction_index-len-clause-reader_owners
returns-else-prediction_index-len-clause-reader_owners c = c.loop-item_index.invariant.reader_owners
