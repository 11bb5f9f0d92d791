use Rattle.std.proofs.Common.{arith, inl, inr}
use Rattle.abnfread.specs.AbnfSlices.{no_dot}
use Rattle.abnfread.proofs.ByteRunLemmas.{dotted-on, dotted-back, digits-shorter}
use Rattle.abnfread.proofs.scan.after_dotted.Goals as goal

pub loop-tail-smaller : goal.loop-tail-smaller
loop-tail-smaller c = rw c.in-Some.ensures (let h = digits-shorter c.in-Some-after_digits.ensures.0 in omega arith)

pub loop-tail-preserved : goal.loop-tail-preserved
loop-tail-preserved c =
    let d = c.in-Some-after_digits.ensures in
    let e = c.in-Some.ensures in
    record {
      on = λ s h. c.loop-tail.invariant.on s (dotted-on e d.0 h);
      back = λ s h. elim (c.loop-tail.invariant.back s h) [
        | inl l ↦ inl (let a = digits-shorter d.0 in let b = rw e at l in omega arith)
        | inr x ↦ dotted-back c.requires e d.0 d.1 x
      ];
    }

pub returns-in-None-clause-dotted : goal.returns-in-None-clause-dotted
returns-in-None-clause-dotted c = c.loop-tail.invariant.on _ no_dot

pub returns-in_default-clause-dotted : goal.returns-in_default-clause-dotted
returns-in_default-clause-dotted c = c.loop-tail.invariant.on _ no_dot
