use Rattle.std.proofs.Common.{◌∙◌, ap, refl, arith}
use Rattle.flatgrammar.specs.ItemClosures.{closure_of}
use Rattle.earleyitems.specs.EarleySets.{predictions_of}
use Rattle.earleyitems.proofs.RecordsLemmas.{below_predictions, prediction_at, predictions_long}
use Rattle.earleyitems.proofs.ViewsLemmas.{predictions_none, predictions_some, predictions_all}
use Rattle.earleyitems.proofs.chart.in_predictions.Goals as goal

pub returns-then-in_dots : goal.returns-then-in_dots
returns-then-in_dots c = (
  (λ u. predictions_some (closure_of c.args.flat.now) c.args.number c.args.item (predictions_of c.args.records.now)
      c.loop-record.record-index 0 _
      (below_predictions c.args.records.now c.loop-record.record-index c.loop-record-test.true)
      (c.dots.ensures ∙ ap (λ n. (closure_of c.args.flat.now n).dots)
      (prediction_at c.args.records.now c.loop-record.record-index _ 0 c.loop-record-test.true))
      (c.in_dots.ensures.0 c.if-in_dots.true)),
  (λ h. refl),
)

pub loop-record-preserved : goal.loop-record-preserved
loop-record-preserved c = predictions_none (closure_of c.args.flat.now) c.args.number c.args.item
    (predictions_of c.args.records.now)
    c.loop-record.record-index 0 _
    (below_predictions c.args.records.now c.loop-record.record-index c.loop-record-test.true)
    (c.dots.ensures ∙ ap (λ n. (closure_of c.args.flat.now n).dots)
    (prediction_at c.args.records.now c.loop-record.record-index _ 0 c.loop-record-test.true)) c.loop-record.invariant
    (λ is. let t = c.in_dots.ensures.1 is in let f = c.if-in_dots.false in absurd cc)

pub returns : goal.returns
returns c =
    let test = c.loop-record-test.false in
    let long = predictions_long c.args.records.now in (
      (λ t. absurd cc),
      (λ h. absurd (predictions_all (closure_of c.args.flat.now) c.args.number c.args.item
          (predictions_of c.args.records.now)
          c.loop-record.record-index (omega (arith, test, long)) c.loop-record.invariant h)),
    )
