-- One more line, or the end.
use Rattle.std.proofs.Common.{ℕ, [], ◌++◌, ◌≤◌, ◌<◌, ◌-◌, ◌∙◌, length, take, refl, ap, arith, length-append}
use Rattle.std.proofs.Common.{length-drop}
use Rattle.ruletable.proofs.AppendsLemmas.{Appends-same}
use Rattle.feed.specs.Feed.{bytes_of}
use Rattle.feed.proofs.GrowsLemmas.{Consumes-same}
use Rattle.toolrun.proofs.AgreesLemmas.{agrees_earlier, seen_more, slides-bytes, slides-len}
use Rattle.linejudge.specs.InputLines.{none}
use Rattle.linejudge.specs.LineRefusals.{none_reported}
use Rattle.linejudge.proofs.JudgeFrontLemmas.{batch_goes}
use Rattle.linejudge.proofs.LineRunLemmas.{fails_further, fails_there, more_lines, one_more_line, stops_there}
use Rattle.linejudge.proofs.LinesLemmas.{refused_by-one}
use Rattle.linejudge.proofs.NextLineLemmas.{held_taken, held_within}
use Rattle.linejudge.proofs.line_loop.answer_lines.Goals as goal

pub loop-feed-init : goal.loop-feed-init
loop-feed-init g c = record {
  capacity = c.requires.capacity;
  counted = rw c.requires.front.0 (omega arith);
  refused = rw c.requires.front.0 (omega arith);
  within = let l = ap length c.requires.empty in rw c.requires.front.0 (omega (arith, l, c.requires.allowance));
  reported = c.requires.reported;
  work = c.requires.work;
  room = c.requires.room;
  loan = refl;
  flag = refl;
  written = (
    [],
    rw c.requires.front.0 refl,
    rw c.requires.empty (Consumes-same _),
    λ input a. (
      [],
      rw c.requires.front.0 none,
      rw (c.requires.front.0, c.requires.front.1, c.requires.front.2) none_reported,
      Appends-same _,
    ),
  );
}

pub next_step-requires : goal.next_step-requires
next_step-requires g c =
    let so_far = c.loop-feed.invariant in
    record {
      small = c.requires.small;
      served = c.requires.served;
      work = c.judge_front-next.ensures.work;
      capacity = so_far.capacity;
      counted = so_far.counted;
      within = omega (arith, so_far.within);
      reported = so_far.reported;
      room = so_far.room;
      out_is_fresh = so_far.flag ∙ c.requires.out_is_fresh;
    }

pub next_position-reached-requires-clause-position : goal.next_position-reached-requires-clause-position
next_position-reached-requires-clause-position g c =
    let fits = (rw c.in-Ok-Answers.field-0-is at c.in-Ok-Answers.ensures.fits) in
    let grew = c.in-Ok-Answers.ensures.grows in
    let more = ap length grew.bytes in
    rw c.in-Ok-Answers.ensures.at (omega (
      arith,
      fits.0,
      fits.1,
      grew.allowance,
      more,
      length-append c.loop-feed.feed.ring.items grew.more,
      c.loop-feed.invariant.within,
    ))

pub loop-feed-smaller : goal.loop-feed-smaller
loop-feed-smaller g c =
    let fits = (rw c.in-Ok-Answers.field-0-is at c.in-Ok-Answers.ensures.fits) in
    let grew = c.in-Ok-Answers.ensures.grows in
    let more = ap length grew.bytes in
    rw (c.next_position-reached.ensures, c.in-Ok-Answers.ensures.at) (omega (
      arith,
      fits.0,
      fits.1,
      grew.allowance,
      more,
      length-append c.loop-feed.feed.ring.items grew.more,
      c.loop-feed.invariant.within,
    ))

pub loop-feed-preserved-then-at-next : goal.loop-feed-preserved-then-at-next
loop-feed-preserved-then-at-next g c =
    let so_far = c.loop-feed.invariant.written in
    let items = c.loop-feed.feed.ring.items in
    let at = c.loop-feed.reached.at in
    let next = c.judge_front-next.result in
    let on = c.judge_front-next.ensures in
    let part = c.front.ensures in
    let held = ap length part.1 in
    let n : ℕ = next.position - at.position in
    let le : n ≤ length items = omega (arith, on.ahead, on.within, held, length-append c.front.result.now part.0) in
    record {
      capacity = c.skip.ensures.capacity ∙ c.loop-feed.invariant.capacity;
      counted = on.counted;
      refused = on.refused;
      within = let kept = ap length c.skip.ensures.bytes in
          let all = c.loop-feed.invariant.within in
          omega (arith, kept, length-drop n items, c.skip.ensures.allowance, all, on.ahead, le);
      reported = rw (c.skip.ensures.reader, c.skip.ensures.allowance, c.skip.ensures.flow)
          c.loop-feed.invariant.reported;
      work = on.work;
      room = c.loop-feed.invariant.room;
      loan = c.skip.ensures.loan ∙ c.loop-feed.invariant.loan;
      flag = c.in_default.ensures.flag ∙ c.loop-feed.invariant.flag;
      written = (
        so_far.0 ++ take n items,
        let e = slides-len so_far.0 items n at.position so_far.1 le in omega (arith, e, on.ahead),
        rw (c.skip.ensures.reader, c.skip.ensures.bytes, slides-bytes so_far.0 items n) so_far.2,
        λ input b.
            let a = rw (c.skip.ensures.bytes, slides-bytes so_far.0 items n, c.skip.ensures.flow) at b in
            let front = so_far.3 input a in
            more_lines (g.J.Judge.reported c.args.judge.now) (g.J.Judge.explains c.args.judge.now)
            (g.J.Judge.refusal c.args.judge.now) (g.J.Judge.costly c.args.judge.now) c.args.form input at _ _ front.0
            c.loop-feed.reached.reported front.1
            front.2 front.3 next _ c.judge_front-next.new.text.items
            (batch_goes (g.J.Judge.reported c.args.judge.now) (g.J.Judge.explains c.args.judge.now)
            (g.J.Judge.refusal c.args.judge.now) c.args.form input so_far.0 items c.front.result.now
            c.judge_front-next.new.text.items at next so_far.1 part a on.goes_on)
            (rw c.as_slice.ensures.value at c.in_default.ensures.bytes),
      );
    }

pub returns-in-Err : goal.returns-in-Err
returns-in-Err g c =
    let so_far = c.loop-feed.invariant.written in
    let items = c.loop-feed.feed.ring.items in
    let at = c.loop-feed.reached.at in
    let on = c.judge_front-next.ensures in
    record {
      work = on.work;
      loan = c.loop-feed.invariant.loan;
      reported = c.loop-feed.invariant.reported;
      lines = (
        so_far.0 ++ items,
        so_far.2,
        omega (arith, length-append so_far.0 items, so_far.1, c.loop-feed.invariant.within),
        λ input a.
            let front = so_far.3 input a in
            fails_further (g.J.Judge.reported c.args.judge.now) (g.J.Judge.explains c.args.judge.now)
            (g.J.Judge.refusal c.args.judge.now) (g.J.Judge.costly c.args.judge.now) c.args.form input at _ _ front.0
            c.loop-feed.reached.reported front.1
            front.2 front.3 c.decided.ensures _ (length (so_far.0 ++ items)) c.in-Err.fault
            (rw so_far.1 at (held_within c.loop-feed.feed c.args.form so_far.0 input
            c.loop-feed.invariant.capacity (let len = c.len.ensures in omega (arith, len.len, len.within)) a))
            c.judge_front-next.result c.judge_front-next.new.text.items on.ahead
            (batch_goes (g.J.Judge.reported c.args.judge.now) (g.J.Judge.explains c.args.judge.now)
            (g.J.Judge.refusal c.args.judge.now) c.args.form input so_far.0 items c.front.result.now
            c.judge_front-next.new.text.items at c.judge_front-next.result so_far.1 c.front.ensures a on.goes_on)
            (rw c.as_slice.ensures.value at c.in-Err.ensures.bytes),
      );
      flag = c.in-Err.ensures.flag;
    }

pub loop-feed-preserved : goal.loop-feed-preserved
loop-feed-preserved g c =
    let so_far = c.loop-feed.invariant.written in
    let slid = c.skip-in-Ok-Answers.ensures in
    let grew = c.in-Ok-Answers.ensures.grows in
    let items = c.next_step.new.feed.ring.items in
    let n : ℕ = c.in-Ok-Answers.len in
    let fits = (rw c.in-Ok-Answers.field-0-is at c.in-Ok-Answers.ensures.fits) in
    let some : 0 < n = fits.0 in
    let le : n ≤ length items = fits.1 in
    record {
      capacity = slid.capacity ∙ grew.capacity ∙ c.loop-feed.invariant.capacity;
      counted = rw (c.next_position-reached.ensures, c.in-Ok-Answers.ensures.at)
          (omega (arith, c.loop-feed.invariant.counted, some));
      refused = rw (c.next_position-reached.ensures, c.in-Ok-Answers.ensures.at)
          (omega (arith, c.loop-feed.invariant.refused, refused_by-one c.in-Ok-Answers.said));
      within = let kept = ap length slid.bytes in
          let more = ap length grew.bytes in
          rw (c.next_position-reached.ensures, c.in-Ok-Answers.ensures.at) (omega (
            arith,
            kept,
            length-drop n items,
            slid.allowance,
            grew.allowance,
            more,
            length-append c.loop-feed.feed.ring.items grew.more,
            c.loop-feed.invariant.within,
            le,
          ));
      reported = rw (slid.reader, slid.allowance, slid.flow) c.in-Ok-Answers.ensures.reported;
      work = c.in-Ok-Answers.ensures.work;
      room = c.in-Ok-Answers.ensures.room;
      loan = slid.loan ∙ c.in-Ok-Answers.ensures.loan ∙ c.loop-feed.invariant.loan;
      flag = c.in-Ok-Answers.ensures.flag ∙ c.loop-feed.invariant.flag;
      written = (
        so_far.0 ++ take n items,
        rw (c.next_position-reached.ensures, c.in-Ok-Answers.ensures.at)
            (let e = slides-len so_far.0 items n c.loop-feed.reached.at.position so_far.1 le in omega (arith, e)),
        rw (slid.reader, slid.bytes, slides-bytes so_far.0 items n)
            (seen_more _ _ _ grew so_far.0 _ so_far.2),
        λ input b.
            let a = rw (slid.bytes, slides-bytes so_far.0 items n, slid.flow) at b in
            let front = so_far.3 input (agrees_earlier _ _ _ grew so_far.0 input a) in
            let step = c.in-Ok-Answers.ensures.follows so_far.0 input so_far.1 a in
            rw (c.next_position-reached.ensures, c.in-Ok-Answers.ensures.at)
            (one_more_line (g.J.Judge.reported c.args.judge.now)
            (g.J.Judge.explains c.args.judge.now) (g.J.Judge.refusal c.args.judge.now)
            (g.J.Judge.costly c.args.judge.now) c.args.form input
            c.loop-feed.reached.at _ _ front.0 c.loop-feed.reached.reported front.1 front.2 front.3 _
            c.next_step.new.reached.reported c.in-Ok-Answers.said c.in-Ok-Answers.len
            (rw c.in-Ok-Answers.field-0-is at step.0)),
      );
    }

pub returns-in-Ok-Stops : goal.returns-in-Ok-Stops
returns-in-Ok-Stops g c = record {
  work = c.in-Ok-Stops.ensures.work;
  loan = c.fill.ensures.loan ∙ c.in-Ok-Stops.ensures.loan ∙ c.loop-feed.invariant.loan;
  reported = c.fill.ensures.reported;
  lines =
      let so_far = c.loop-feed.invariant.written in
      let grew = c.in-Ok-Stops.ensures.grows in
      let more = c.fill.ensures.grows in
      let feed = c.fill.new.self in (
        so_far.0 ++ bytes_of feed,
        seen_more _ _ _ more so_far.0 _ (seen_more _ _ _ grew so_far.0 _ so_far.2),
        let first = ap length grew.bytes in
            let second = ap length more.bytes in
            omega (
              arith,
              length-append so_far.0 (bytes_of feed),
              so_far.1,
              grew.allowance,
              more.allowance,
              first,
              second,
              length-append c.loop-feed.feed.ring.items grew.more,
              length-append c.next_step.new.feed.ring.items more.more,
              c.loop-feed.invariant.within,
            ),
        λ input a.
            let then_ = agrees_earlier _ _ _ more so_far.0 input a in
            let front = so_far.3 input (agrees_earlier _ _ _ grew so_far.0 input then_) in
            let step = c.in-Ok-Stops.ensures.follows so_far.0 input so_far.1 then_ in
            stops_there (g.J.Judge.reported c.args.judge.now) (g.J.Judge.explains c.args.judge.now)
            (g.J.Judge.refusal c.args.judge.now) (g.J.Judge.costly c.args.judge.now) c.args.form input
            c.loop-feed.reached.at _ _ front.0
            c.loop-feed.reached.reported front.1 front.2 front.3 _ c.next_step.new.reached.reported
            (length (so_far.0 ++ bytes_of feed)) c.in-Ok-Stops.stop c.ending_at.result
            (rw c.in-Ok-Stops.field-0-is at step.0) (rw c.is_explained.ensures at c.ending_at.ensures.plain)
            (rw (c.is_explained.ensures, c.in-Ok-Stops.ensures.at) at c.ending_at.ensures.reported)
            (rw so_far.1 at (held_taken feed c.args.form so_far.0 input
            (more.capacity ∙ grew.capacity ∙ c.loop-feed.invariant.capacity) c.fill.ensures.within a c.fill.result
            c.fill.ensures.held)),
      );
  flag = c.in-Ok-Stops.ensures.flag ∙ c.loop-feed.invariant.flag;
}

pub returns-in-Err-next_step : goal.returns-in-Err-next_step
returns-in-Err-next_step g c = record {
  work = c.in-Err-next_step.ensures.work;
  loan = c.in-Err-next_step.ensures.loan ∙ c.loop-feed.invariant.loan;
  reported = c.in-Err-next_step.ensures.reported;
  lines =
      let so_far = c.loop-feed.invariant.written in
      let grew = c.in-Err-next_step.ensures.grows in
      let items = c.next_step.new.feed.ring.items in (
        so_far.0 ++ items,
        seen_more _ _ _ grew so_far.0 _ so_far.2,
        let more = ap length grew.bytes in
            omega (
              arith,
              length-append so_far.0 items,
              so_far.1,
              grew.allowance,
              more,
              length-append c.loop-feed.feed.ring.items grew.more,
              c.loop-feed.invariant.within,
            ),
        λ input a.
            let front = so_far.3 input (agrees_earlier _ _ _ grew so_far.0 input a) in
            let step = c.in-Err-next_step.ensures.follows so_far.0 input so_far.1 a in
            fails_there (g.J.Judge.reported c.args.judge.now) (g.J.Judge.explains c.args.judge.now)
            (g.J.Judge.refusal c.args.judge.now) (g.J.Judge.costly c.args.judge.now) c.args.form input
            c.loop-feed.reached.at _ _ front.0
            c.loop-feed.reached.reported front.1 front.2 front.3 c.decided.ensures _ (length (so_far.0 ++ items))
            c.in-Err-next_step.fault step.1 c.next_step.new.reached.reported step.0,
      );
  flag = c.in-Err-next_step.ensures.flag;
}
