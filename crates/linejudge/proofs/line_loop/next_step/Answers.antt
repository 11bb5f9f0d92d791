-- What stands at the front is answered, or ends the run.
use Rattle.std.proofs.Common.{◌≡◌, ◌∙◌, ℕ, ◌<◌, ◌≤◌, Option, List, arith, refl, sym}
use Rattle.std.specs.Prelude.{Result, Ok, Err, IfOk}
use Rattle.ruletable.specs.declared.sink.WriteFault.{WriteFault}
use Rattle.feed.specs.Feed.{Grows, SameFeed, bytes_of}
use Rattle.feed.specs.declared.feed.Feed.{Feed}
use Rattle.linejudge.specs.InputLines.{finished, kept_size, rejected}
use Rattle.linejudge.specs.LineSteps.{FitsIn, StepsAfter}
use Rattle.linejudge.specs.declared.answers.Answer.{Answer}
use Rattle.linejudge.specs.declared.answers.NoAnswer.{NoAnswer}
use Rattle.linejudge.specs.declared.answers.NoAnswer.TheVariants as no_answer
use Rattle.linejudge.specs.declared.line_loop.LineStep.{LineStep}
use Rattle.linejudge.specs.declared.line_loop.LineStep.TheVariants.{Stops}
use Rattle.toolrun.specs.declared.stop.Stop.{Stop}
use Rattle.linejudge.proofs.LineStepLemmas.{whole_is, last_is, long_is, end_is, broken_is}
use Rattle.linejudge.proofs.KeptLineLemmas.{kept_most}
use Rattle.linejudge.proofs.NextLineLemmas.{held_front, held_within}
use Rattle.linejudge.proofs.line_loop.next_step.Goals as goal

-- a feed that has grown, and then keeps its bytes and its reader
grows-same : {R : Type 0} {remaining : R → Option (List ℕ)} {old mid new : Feed R} → Grows remaining old mid
    → SameFeed mid new → Grows remaining old new
grows-same g s = record {
  more = g.more;
  bytes = s.bytes ∙ g.bytes;
  gives = rw s.reader g.gives;
  allowance = rw s.allowance g.allowance;
  capacity = s.capacity ∙ g.capacity;
  stays = rw (s.flow, s.reader) g.stays;
}

-- the step after an answer takes the bytes of the line
fits-after : (number n len : ℕ) (old new : Option (List ℕ)) (text : List ℕ) (answered : Result Answer NoAnswer)
    (r : Result LineStep WriteFault) → 0 < n → n ≤ len → StepsAfter number n old new text answered r → FitsIn len r
fits-after number n len old new text (Ok said) (Ok step) some most steps = let same = steps.1 in rw same (some, most)
fits-after number n len old new text (Ok said) (Err fault) some most steps = tt
fits-after number n len old new text (Err no_answer.Memory) r some most steps = let same = steps.1 in rw same tt
fits-after number n len old new text (Err (no_answer.Costly budget)) r some most steps =
    let same = steps.1 in rw same tt

-- at the end no bytes are taken
fits-end : (len : ℕ) (why : Stop) (r : Result LineStep WriteFault) → IfOk r (λ s. s ≡ Stops why) → FitsIn len r
fits-end len why (Ok step) same = rw same tt
fits-end len why (Err fault) same = tt

pub returns-then-is_over : goal.returns-then-is_over
returns-then-is_over g c = record {
  work = c.requires.work;
  room = c.requires.room;
  at = refl;
  loan = c.fill.ensures.loan;
  reported = c.fill.ensures.reported;
  grows = c.fill.ensures.grows;
  follows = λ before input here a.
      let feed = c.fill.new.self in (
        end_is (g.J.Judge.reported c.args.judge.now) (g.J.Judge.explains c.args.judge.now)
            (g.J.Judge.refusal c.args.judge.now) (g.J.Judge.costly c.args.judge.now) c.args.form input
            c.args.reached.now.at
            (g.O.Sink.contents c.args.out.now) (g.O.Sink.contents c.end_step.new.out) c.args.reached.now.reported
            c.end_step.result (rejected (sym c.is_over.ensures ∙ c.if-is_over.true)) c.end_step.ensures.bytes
            c.end_step.ensures.step,
        rw here at (held_within feed c.args.form before input
            (c.fill.ensures.grows.capacity ∙ c.requires.capacity) c.fill.ensures.within a),
      );
  fits = fits-end _ _ c.end_step.result c.end_step.ensures.step;
  flag = c.end_step.ensures.flag;
}

pub returns-in-Whole : goal.returns-in-Whole
returns-in-Whole g c =
    let on = c.answer_held-answered in
    let same = on.ensures.same in
    let step = c.step_of.ensures.step in
    record {
      work = on.ensures.work;
      room = on.ensures.room;
      at = on.ensures.at;
      loan = same.loan ∙ c.next_line.ensures.loan;
      reported = rw (same.reader, same.allowance, same.flow) c.next_line.ensures.reported;
      grows = grows-same c.next_line.ensures.grows same;
      follows = λ before input here a.
          let b = rw (same.bytes, same.flow) at a in
          let next = rw here at (c.in-Whole.ensures.follows before input
          (c.next_line.ensures.grows.capacity ∙ c.requires.capacity) b) in
          let size : ℕ = kept_size c.args.form c.in-Whole.n in
          let front = held_front before (bytes_of c.next_line.new.feed) b.more input.bytes size
          c.args.reached.now.at.position b.bytes here
          (let fits = c.in-Whole.ensures.fits in omega (arith, fits, kept_most c.args.form c.in-Whole.n)) in (
            whole_is (g.J.Judge.reported c.args.judge.now) (g.J.Judge.explains c.args.judge.now)
                (g.J.Judge.refusal c.args.judge.now) (g.J.Judge.costly c.args.judge.now) c.args.form input
                c.args.reached.now.at
                (g.O.Sink.contents c.args.out.now) (g.O.Sink.contents c.step_of.new.out)
                c.args.reached.now.reported on.new.reached.reported c.in-Whole.n _ on.new.reached.text.items
                on.result c.step_of.result (sym c.is_over.ensures ∙ c.if-is_over.false) front next.0
                (rw c.kept_size.ensures.size at on.ensures.answered)
                (rw c.kept_size.ensures.size at on.ensures.costly) on.ensures.err
                (rw c.as_slice.ensures.value at step),
            rw same.bytes next.1,
          );
      fits = rw same.bytes
          (fits-after _ _ _ _ _ _ on.result c.step_of.result (omega arith)
          (let fits = c.in-Whole.ensures.fits in omega (arith, fits)) step);
      flag = c.step_of.ensures.flag;
    }

pub returns-in-Last : goal.returns-in-Last
returns-in-Last g c =
    let on = c.answer_held-answered-in-Last in
    let same = on.ensures.same in
    let step = c.step_of-in-Last.ensures.step in
    record {
      work = on.ensures.work;
      room = on.ensures.room;
      at = on.ensures.at;
      loan = same.loan ∙ c.next_line.ensures.loan;
      reported = rw (same.reader, same.allowance, same.flow) c.next_line.ensures.reported;
      grows = grows-same c.next_line.ensures.grows same;
      follows = λ before input here a.
          let b = rw (same.bytes, same.flow) at a in
          let next = rw here at (c.in-Last.ensures.follows before input
          (c.next_line.ensures.grows.capacity ∙ c.requires.capacity) b) in
          let front = held_front before (bytes_of c.next_line.new.feed) b.more input.bytes c.in-Last.n
          c.args.reached.now.at.position b.bytes here (let fits = c.in-Last.ensures.fits in omega (arith, fits.1)) in (
            last_is (g.J.Judge.reported c.args.judge.now) (g.J.Judge.explains c.args.judge.now)
                (g.J.Judge.refusal c.args.judge.now) (g.J.Judge.costly c.args.judge.now) c.args.form input
                c.args.reached.now.at
                (g.O.Sink.contents c.args.out.now) (g.O.Sink.contents c.step_of-in-Last.new.out)
                c.args.reached.now.reported on.new.reached.reported c.in-Last.n _ on.new.reached.text.items
                on.result c.step_of-in-Last.result (sym c.is_over.ensures ∙ c.if-is_over.false) front next.0
                on.ensures.answered on.ensures.costly on.ensures.err
                (rw c.as_slice-in-Last.ensures.value at step),
            rw same.bytes next.1,
          );
      fits = rw same.bytes
          (fits-after _ _ _ _ _ _ on.result c.step_of-in-Last.result c.in-Last.ensures.fits.0 c.in-Last.ensures.fits.1
          step);
      flag = c.step_of-in-Last.ensures.flag;
    }

pub returns-in-Overlong : goal.returns-in-Overlong
returns-in-Overlong g c = record {
  work = c.requires.work;
  room = c.requires.room;
  at = refl;
  loan = c.next_line.ensures.loan;
  reported = c.next_line.ensures.reported;
  grows = c.next_line.ensures.grows;
  follows = λ before input here a.
      let next = rw here at (c.in-Overlong.ensures.follows before input
      (c.next_line.ensures.grows.capacity ∙ c.requires.capacity) a) in (
        long_is (g.J.Judge.reported c.args.judge.now) (g.J.Judge.explains c.args.judge.now)
            (g.J.Judge.refusal c.args.judge.now) (g.J.Judge.costly c.args.judge.now) c.args.form input
            c.args.reached.now.at
            (g.O.Sink.contents c.args.out.now) (g.O.Sink.contents c.args.out.now) c.args.reached.now.reported
            (sym c.is_over.ensures ∙ c.if-is_over.false) next.0,
        next.1,
      );
  fits = tt;
  flag = refl;
}

pub returns-in-End : goal.returns-in-End
returns-in-End g c = record {
  work = c.requires.work;
  room = c.requires.room;
  at = refl;
  loan = c.next_line.ensures.loan;
  reported = c.next_line.ensures.reported;
  grows = c.next_line.ensures.grows;
  follows = λ before input here a.
      let next = rw here at (c.in-End.ensures.follows before input
      (c.next_line.ensures.grows.capacity ∙ c.requires.capacity) a) in (
        end_is (g.J.Judge.reported c.args.judge.now) (g.J.Judge.explains c.args.judge.now)
            (g.J.Judge.refusal c.args.judge.now) (g.J.Judge.costly c.args.judge.now) c.args.form input
            c.args.reached.now.at
            (g.O.Sink.contents c.args.out.now) (g.O.Sink.contents c.end_step-in-End.new.out)
            c.args.reached.now.reported
            c.end_step-in-End.result (finished (sym c.is_over.ensures ∙ c.if-is_over.false) next.0)
            c.end_step-in-End.ensures.bytes c.end_step-in-End.ensures.step,
        next.1,
      );
  fits = fits-end _ _ c.end_step-in-End.result c.end_step-in-End.ensures.step;
  flag = c.end_step-in-End.ensures.flag;
}

pub returns-in-Broken : goal.returns-in-Broken
returns-in-Broken g c = record {
  work = c.requires.work;
  room = c.requires.room;
  at = refl;
  loan = c.next_line.ensures.loan;
  reported = c.next_line.ensures.reported;
  grows = c.next_line.ensures.grows;
  follows = λ before input here a.
      let next = rw here at (c.in-Broken.ensures.follows before input
      (c.next_line.ensures.grows.capacity ∙ c.requires.capacity) a) in (
        broken_is (g.J.Judge.reported c.args.judge.now) (g.J.Judge.explains c.args.judge.now)
            (g.J.Judge.refusal c.args.judge.now) (g.J.Judge.costly c.args.judge.now) c.args.form input
            c.args.reached.now.at
            (g.O.Sink.contents c.args.out.now) (g.O.Sink.contents c.args.out.now) c.args.reached.now.reported
            (sym c.is_over.ensures ∙ c.if-is_over.false) next.0,
        next.1,
      );
  fits = tt;
  flag = refl;
}
