use Rattle.std.proofs.lemmas.Result.{IfOk-weaker}
use Rattle.refusedlines.proofs.ReadLettersLemmas.{merged_read, dots_read_more}
use Rattle.refusedlines.proofs.read_letters.letters_read.Goals as goal

pub loop-dot-preserved : goal.loop-dot-preserved
loop-dot-preserved c = record {
  some = c.in_ok-add_dot.ensures.some;
  letters = dots_read_more c.args.alphabet c.args.flat.now c.args.dots.now c.loop-dot.dot-index _ _ _
      c.loop-dot-test.true c.loop-dot.invariant.letters c.in_ok-add_dot.ensures.gain;
}

pub returns-clause-letters : goal.returns-clause-letters
returns-clause-letters c = IfOk-weaker c.merge_runs.result _ _ (λ merged same.
    merged_read c.args.alphabet c.args.flat.now c.args.dots.now c.loop-dot.dot-index _ _
    c.loop-dot-test.false c.loop-dot.invariant.letters same) c.merge_runs.ensures.same
