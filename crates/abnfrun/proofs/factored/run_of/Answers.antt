-- A text more shares a part with the first.
use Rattle.std.proofs.Common.{arith}
use Rattle.abnfrun.proofs.FactoredChoicesLemmas.{shared_more}
use Rattle.abnfrun.proofs.factored.run_of.Goals as goal

pub loop-text-preserved : goal.loop-text-preserved
loop-text-preserved c =
    let so_far = c.loop-text.invariant in
    let least = c.min.ensures in
    let low = c.shared_end-end.ensures.from in
    let before = so_far.from in
    let inside = so_far.within in
    let count = so_far.count in
    record {
      count = omega (arith, count);
      from = omega (arith, least, low, before);
      within = omega (arith, least, inside);
      shared = shared_more c.args.first.now c.args.texts.now c.args.from c.loop-text.run.end c.shared_end-end.result
          c.min.result c.loop-text.text-index c.text-item.result so_far.shared c.loop-text-test.true c.text-item.is
          (rw c.deref.ensures.value at c.shared_end-end.ensures.shared) (omega (arith, least)) (omega (arith, least));
    }
