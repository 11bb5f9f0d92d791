use Rattle.std.proofs.Common.{◌∙◌, ◌++◌, [], ap, sym, take, arith}
use Rattle.std.proofs.lemmas.List.{append-nil}
use Rattle.earleyitems.proofs.ExpandLemmas.{take_past}
use Rattle.earleyitems.proofs.RecordsLemmas.{fresh, fresh_more}
use Rattle.earleyitems.proofs.waiters.add_records.Goals as goal

pub loop-prediction-init : goal.loop-prediction-init
loop-prediction-init c = record {
  are = sym (append-nil c.reserve.new.self.items);
  room = (let room = c.in_ok-reserve.ensures.ok in omega (arith, room));
}

pub push_reserved-requires : goal.push_reserved-requires
push_reserved-requires c =
    let room = c.loop-prediction.invariant.room in
    let test = c.loop-prediction-test.true in
    omega (arith, room, test)

pub loop-prediction-preserved : goal.loop-prediction-preserved
loop-prediction-preserved c = record {
  are = fresh_more c.reserve.new.self.items c.loop-prediction.records.items _ c.args.predictions.now
      c.loop-prediction.prediction-index _ c.loop-prediction-test.true c.loop-prediction.invariant.are
      c.push_reserved.ensures.items;
  room = (let room = c.loop-prediction.invariant.room in let test = c.loop-prediction-test.true in
      let len = c.push_reserved.ensures.len in let cap = c.push_reserved.ensures.capacity in
      omega (arith, room, test, len, cap));
}

pub returns-in_err-reserve-clause-more : goal.returns-in_err-reserve-clause-more
returns-in_err-reserve-clause-more c = ([], c.in_err-reserve.ensures.items ∙ sym (append-nil c.args.records.now.items))

pub returns-clause-more : goal.returns-clause-more
returns-clause-more c = (
  fresh (take c.loop-prediction.prediction-index c.args.predictions.now),
  c.loop-prediction.invariant.are
      ∙ ap (λ v. v ++ fresh (take c.loop-prediction.prediction-index c.args.predictions.now))
      c.in_ok-reserve.ensures.items,
)

pub returns-clause-are : goal.returns-clause-are
returns-clause-are c =
    let test = c.loop-prediction-test.false in
    c.loop-prediction.invariant.are
    ∙ (ap (λ v. v ++ fresh (take c.loop-prediction.prediction-index c.args.predictions.now))
    c.in_ok-reserve.ensures.items
    ∙ ap (λ v. c.args.records.now.items ++ fresh v)
    (take_past c.args.predictions.now c.loop-prediction.prediction-index (omega (arith, test))))
