use Rattle.std.proofs.Common.{arith, add-one, ◌≡◌, ◌-◌, suc}
use Rattle.pegread.proofs.SliceLemmas.{body-last, bodies-open, bodies-open-back, bodies-close, bodies-close-back}
use Rattle.pegread.proofs.SliceLemmas.{bodies-other, bodies-other-back, no-bodies}
use Rattle.pegread.proofs.lexing.after_brace.Goals as goal

pub returns-then-depth-eq0 : goal.returns-then-depth-eq0
returns-then-depth-eq0 c =
    let whole = c.loop-first.invariant.closes c.in-Some.tail.now in
    let none_open : c.loop-first.depth ≡ 0 = c.if-depth-eq0.true in
    let at_zero = rw none_open at whole in
    at_zero (body-last c.in-Some.ensures.cases.0 c.if-first-eq125.true)

pub loop-first-preserved-then-first-eq123 : goal.loop-first-preserved-then-first-eq123
loop-first-preserved-then-first-eq123 c =
    let e = c.in-Some.ensures.cases in
    record {
      room = let h = c.loop-first.invariant.room in let f = e.1 in omega arith;
      closes = λ r. rw add-one (λ h. c.loop-first.invariant.closes r (bodies-open e.0 r _ c.if-first-eq123.true h));
      only = λ r. rw add-one (λ h. bodies-open-back e.0 r _ c.if-first-eq123.true (c.loop-first.invariant.only r h));
    }

pub loop-first-preserved-else-depth-eq0 : goal.loop-first-preserved-else-depth-eq0
loop-first-preserved-else-depth-eq0 c =
    let e = c.in-Some.ensures.cases in
    let positive : c.loop-first.depth ≡ suc (c.loop-first.depth - 1) = omega arith in
    record {
      room = let h = c.loop-first.invariant.room in let f = e.1 in omega arith;
      closes = λ r h. c.loop-first.invariant.closes r (rw positive (bodies-close e.0 r _ c.if-first-eq125.true h));
      only = λ r h. bodies-close-back e.0 r _ c.if-first-eq125.true (let k = c.loop-first.invariant.only r h in
          rw positive at k);
    }

pub loop-first-preserved : goal.loop-first-preserved
loop-first-preserved c =
    let e = c.in-Some.ensures.cases in
    record {
      room = let h = c.loop-first.invariant.room in let f = e.1 in omega arith;
      closes = λ r h. c.loop-first.invariant.closes r
          (bodies-other e.0 r _ c.if-first-eq123.false c.if-first-eq125.false h);
      only = λ r h. bodies-other-back e.0 r _ c.if-first-eq123.false c.if-first-eq125.false
          (c.loop-first.invariant.only r h);
    }

pub returns : goal.returns
returns c = λ r h. no-bodies _ _ r c.in_default.ensures.cases (c.loop-first.invariant.only r h)
