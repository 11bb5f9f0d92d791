use Rattle.std.proofs.Common.{arith, ◌∙◌}
use Rattle.std.proofs.lemmas.List.{length-set}
use Rattle.flatgrammar.proofs.AreClassesLemmas.{low_next, low_all}
use Rattle.flatgrammar.proofs.classes.low_classes.Goals as goal

pub loop-number-preserved : goal.loop-number-preserved
loop-number-preserved c = (
  length-set c.loop-number.low c.loop-number.number c.class_above.result ∙ c.loop-number.invariant.0,
  λ flat parted. low_next flat c.args.samples.now c.loop-number.low c.loop-number.number c.class_above.result
      (let size = c.loop-number.invariant.0 in let lt = c.loop-number-test.true in omega (arith, size, lt))
      (c.class_above.ensures.is flat parted) (c.loop-number.invariant.1 flat parted),
)

pub returns : goal.returns
returns c = λ flat parted. record {
  count = c.loop-number.invariant.0;
  classes = low_all flat c.args.samples.now c.loop-number.low 256 c.loop-number.invariant.0
      (λ k lt. c.loop-number.invariant.1 flat parted k (omega (arith, lt)));
}
