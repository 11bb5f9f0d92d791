use Rattle.std.proofs.Common.{◌∙◌, ap, arith, false, get_or, refl, Some}
use Rattle.std.proofs.lemmas.Option.{slice_get-get_or}
use Rattle.rulelines.proofs.WrongSymbolsLemmas.{none_beside, one_more_apart}
use Rattle.rulelines.proofs.miss.wrong.is_edge.Goals as goal

pub loop-index-init : goal.loop-index-init
loop-index-init c = λ j d lt. absurd (omega (arith, lt))

pub returns-then-is_beside : goal.returns-then-is_beside
returns-then-is_beside c = (
  λ yes. let so = c.is_beside.ensures.0 c.if-is_beside.true in
      let lt = c.loop-index-test.true in
      let same = c.requires in
      record {
        index = c.loop-index.index;
        symbol = get_or c.args.samples.now c.loop-index.index 0;
        is = slice_get-get_or c.args.samples.now c.loop-index.index 0 lt;
        leads = slice_get-get_or c.args.live.now c.loop-index.index false (omega (arith, lt, same))
            ∙ ap (λ v. Some v) so.0;
        beside = so.1;
      },
  λ b. refl,
)

pub loop-index-preserved : goal.loop-index-preserved
loop-index-preserved c =
    let lt = c.loop-index-test.true in
    let same = c.requires in
    one_more_apart c.args.samples.now c.args.live.now c.loop-index.index c.args.symbol
    (get_or c.args.samples.now c.loop-index.index 0) (get_or c.args.live.now c.loop-index.index false)
    c.loop-index.invariant (slice_get-get_or c.args.samples.now c.loop-index.index 0 lt)
    (slice_get-get_or c.args.live.now c.loop-index.index false (omega (arith, lt, same)))
    (λ h. cc (c.is_beside.ensures.1 h, c.if-is_beside.false))

pub returns : goal.returns
returns c = (
  λ yes. cc yes,
  λ b. absurd (none_beside c.args.samples.now c.args.live.now c.loop-index.index c.args.symbol c.loop-index-test.false
      c.loop-index.invariant b),
)
