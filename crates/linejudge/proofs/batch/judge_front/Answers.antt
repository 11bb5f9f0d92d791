-- One more line of the batch.
use Rattle.std.proofs.Common.{arith, take, drop, sym, ◌∙◌, ◌+◌, length-drop}
use Rattle.std.proofs.lemmas.List.{take_rest}
use Rattle.linejudge.specs.InputLines.{kept_size}
use Rattle.linejudge.proofs.JudgeFrontLemmas.{found_stands, goes_one_on}
use Rattle.linejudge.proofs.LinesLemmas.{refused_by-one}
use Rattle.linejudge.proofs.batch.judge_front.Goals as goal

pub loop-len-preserved : goal.loop-len-preserved
loop-len-preserved g c = record {
  work = c.in-Ok.ensures.work;
  position = rw c.next_position-next.ensures (omega (arith, c.loop-len.invariant.position));
  within =
      let first = (rw take_rest at c.in-Some.ensures) in
      omega (arith, first.0.high, length-drop c.loop-len.len c.args.front.now, c.loop-len.invariant.within);
  counted = rw c.next_position-next.ensures (omega (arith, c.loop-len.invariant.counted));
  refused = rw c.next_position-next.ensures (omega (arith, c.loop-len.invariant.refused, refused_by-one c.in-Ok.said));
  goes_on = λ input rest is.
      let size = c.kept_size.ensures.size in
      let pushed = (rw (take_rest, size) at c.in-Ok-push_if_plain.ensures) in
      rw (c.next_position-next.ensures, pushed) (goes_one_on (g.J.Judge.reported c.args.judge.now)
      (g.J.Judge.explains c.args.judge.now) (g.J.Judge.refusal c.args.judge.now) c.args.form input
      (sym c.is_explained.ensures ∙ c.if-is_explained.false) c.args.at c.loop-len.next c.loop-len.text.items
      (take (kept_size c.args.form c.in-Some.n) (drop c.loop-len.len c.args.front.now)) (c.in-Some.n + 1) c.in-Ok.said
      (c.loop-len.invariant.goes_on input rest is)
      (record {
        goes = c.goes_on.ensures c.if-goes_on.true;
        stands = found_stands c.args.form input c.args.at.position c.loop-len.len c.in-Some.n c.loop-len.next.position
            c.args.front.now rest is c.loop-len.invariant.position c.loop-len.invariant.within
            (rw take_rest at c.in-Some.ensures) (omega arith);
      }) (rw (take_rest, size) at c.in-Ok.ensures.reported));
}
