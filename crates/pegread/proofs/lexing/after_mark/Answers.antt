use Rattle.pegread.proofs.SliceLemmas.{closes-here, closes-plain, closes-plain-back, closes-escape}
use Rattle.pegread.proofs.SliceLemmas.{closes-escape-back}
use Rattle.pegread.proofs.lexing.after_mark.Goals as goal

pub returns-then-first-mark : goal.returns-then-first-mark
returns-then-first-mark c = (c.loop-first.invariant _).0 (closes-here c.in-Some.ensures.cases.0 c.if-first-mark.true)

pub loop-first-preserved-then-first-eq92 : goal.loop-first-preserved-then-first-eq92
loop-first-preserved-then-first-eq92 c = λ r.
    let e = c.in-Some.ensures.cases.0 in
    let f = c.in_ok-after.ensures.cases.0 in (
      λ h. (c.loop-first.invariant r).0 (closes-escape e c.if-first-eq92.true f h),
      λ h. closes-escape-back e c.if-first-mark.false c.if-first-eq92.true f ((c.loop-first.invariant r).1 h),
    )

pub loop-first-preserved : goal.loop-first-preserved
loop-first-preserved c = λ r.
    let e = c.in-Some.ensures.cases.0 in (
      λ h. (c.loop-first.invariant r).0 (closes-plain e c.if-first-mark.false c.if-first-eq92.false h),
      λ h. closes-plain-back e c.if-first-mark.false c.if-first-eq92.false ((c.loop-first.invariant r).1 h),
    )
