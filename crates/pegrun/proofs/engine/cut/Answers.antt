-- One more unit, or the end.
use Rattle.std.proofs.Common.{◌≡◌, false, [], ◌++◌, ◌+◌, ◌≤◌, ◌∙◌, length, take, refl, ap, rules, arith}
use Rattle.std.proofs.Common.{length-append}
use Rattle.feed.specs.Feed.{bytes_of, input_limit, reader_of}
use Rattle.ruletable.proofs.AppendsLemmas.{Appends-same}
use Rattle.feed.proofs.GrowsLemmas.{Consumes-same}
use Rattle.pegrun.specs.Units.{none}
use Rattle.toolrun.proofs.AgreesLemmas.{agrees_earlier, seen_more, slides-len}
use Rattle.pegrun.proofs.CutLemmas.{one_more_unit, stops_at_position, fails_there, unit_kept}
use Rattle.pegrun.proofs.FollowsLemmas.{follows_front, front_is_first}
use Rattle.matchfailure.specs.NoMatches.{unit_before}
use Rattle.pegread.specs.PegViews.{rules_of}
use Rattle.pegrun.specs.MatchCalls.{calls_of, matches_for}
use Rattle.pegrun.proofs.MatchCallsLemmas.{few_at_stop, few_before_stop, few_with_one}
use Rattle.pegrun.specs.PastUnits.{Follows}
use Rattle.pegrun.specs.StopsExplained.{UnitBefore}
use Rattle.pegrun.proofs.PassedCutLemmas.{agrees_before, consumed_after, consumed_now, cut_at_fault, cut_at_write_fault}
use Rattle.pegrun.proofs.PassedCutLemmas.{none_more, not_asked, not_broken, room_after, room_passed, seen_fits}
use Rattle.pegrun.proofs.PassedCutLemmas.{written_on}
use Rattle.pegrun.proofs.engine.cut.Goals as goal

pub loop-n-init : goal.loop-n-init
loop-n-init g c = record {
  capacity = c.requires.capacity;
  within = let l = ap length c.requires.empty in omega (arith, l, c.requires.allowance);
  reported = c.requires.reported;
  loan = refl;
  flag = refl;
  units = c.clear.ensures c.args.peg.now c.args.settings.now.options.style;
  searched = refl;
  written = (
    [],
    refl,
    λ asked. follows_front c.new-past.result c.new-past.ensures.at c.new-past.ensures.bytes c.new-past.ensures.next,
    rw c.requires.empty (Consumes-same _),
    λ input a. (
      [],
      none,
      Appends-same _,
      λ asked kept. front_is_first _ _ _ input c.new-past.result c.new-past.ensures.bytes,
      omega arith,
    ),
  );
}

-- the unit before fits below the greatest position
pub pass-requires-clause-stands : goal.pass-requires-clause-stands
pass-requires-clause-stands g c = λ asked.
    let so_far = c.loop-n.invariant.written in
    let grew = c.in-Ok-Takes.ensures.grows in
    let fits = (rw c.in-Ok-Takes.field-0-is at c.in-Ok-Takes.ensures.fits) in
    let more = ap length grew.bytes in (
      so_far.0,
      so_far.2 asked,
      omega (
        arith,
        so_far.1,
        fits.1,
        grew.allowance,
        more,
        length-append c.loop-n.feed.ring.items grew.more,
        c.loop-n.invariant.within,
      ),
    )

-- the position after units of one byte
pub overflow_add-start-in-Ok-Units : goal.overflow_add-start-in-Ok-Units
overflow_add-start-in-Ok-Units g c =
    let grew = c.in-Ok-Takes.ensures.grows in
    let same = c.pass.ensures.same in
    let n = c.in-Ok-Takes.n in
    let fits = (rw c.in-Ok-Takes.field-0-is at c.in-Ok-Takes.ensures.fits) in
    let le : n ≤ length c.next_unit.new.feed.ring.items = omega (arith, fits.1) in
    let room = room_after g.R.Source.remaining c.loop-n.feed c.next_unit.new.feed c.pass.new.feed c.skip.new.self
    input_limit c.loop-n.start n grew same c.skip.ensures.bytes c.skip.ensures.allowance le
    c.loop-n.invariant.within in
    let p = (rw c.in-Ok-Units.field-0-is at c.in-Ok-Units.ensures.passed) in
    let passed = room_passed _ _ _ _ _ _ _ _ p input_limit (c.loop-n.start + n) room c.in-Ok-Units.n p.count in
    omega (arith, passed)

pub loop-n-preserved : goal.loop-n-preserved
loop-n-preserved g c =
    let so_far = c.loop-n.invariant.written in
    let grew = c.in-Ok-Takes.ensures.grows in
    let same = c.pass.ensures.same in
    let items = c.next_unit.new.feed.ring.items in
    let n = c.in-Ok-Takes.n in
    let fits = (rw c.in-Ok-Takes.field-0-is at c.in-Ok-Takes.ensures.fits) in
    let le : n ≤ length items = omega (arith, fits.1) in
    let first = so_far.0 ++ take n items in
    let here : length first ≡ c.loop-n.start + n = slides-len so_far.0 items n c.loop-n.start so_far.1 le in
    let seen = consumed_after c.next_unit.new.feed c.pass.new.feed c.skip.new.self so_far.0 n same c.skip.ensures.bytes
    g.R.Source.remaining (g.R.Source.remaining (reader_of c.args.feed.now)) c.skip.ensures.reader
    (seen_more _ _ _ grew so_far.0 _ so_far.3) in
    let known = c.in-Ok-Takes.ensures.units c.loop-n.invariant.units in
    let room = room_after g.R.Source.remaining c.loop-n.feed c.next_unit.new.feed c.pass.new.feed c.skip.new.self
    input_limit c.loop-n.start n grew same c.skip.ensures.bytes c.skip.ensures.allowance le
    c.loop-n.invariant.within in
    let p = (rw c.in-Ok-Units.field-0-is at c.in-Ok-Units.ensures.passed) in
    let m = c.in-Ok-Units.n in
    let p_count = p.count in
    record {
      capacity = p.capacity ∙ c.skip.ensures.capacity ∙ same.capacity ∙ grew.capacity ∙ c.loop-n.invariant.capacity;
      within = room_passed _ _ _ _ _ _ _ _ p input_limit (c.loop-n.start + n) room m p_count;
      reported = c.in-Ok-Units.ensures.reported;
      loan = c.in-Ok-Units.ensures.loan ∙ c.skip.ensures.loan ∙ same.loan ∙ c.in-Ok-Takes.ensures.loan
          ∙ c.loop-n.invariant.loan;
      flag = search rules;
      units = known;
      searched = c.loop-n.invariant.searched;
      written = written_on g.R.Source.remaining c.args.peg.now c.args.settings.now
          (g.R.Source.remaining (reader_of c.args.feed.now)) (g.O.Sink.contents c.args.out.now)
          (calls_of g.M.Matcher.matches c.args.counted.now.matcher) (Follows c.pass.new.self)
          (λ input at. c.pass.new.self.lost ≡ false → UnitBefore (rules_of c.args.peg.now.rules) c.args.peg.now.start
          c.args.settings.now input at
          (unit_before c.pass.new.self.at.byte (length c.pass.new.self.bytes.items)))
          c.next_unit.new.matcher.units known c.skip.new.self c.pass_known.new.feed (c.loop-n.start + n)
          (calls_of g.M.Matcher.matches c.next_unit.new.matcher) m (g.O.Sink.contents c.next_unit.new.out)
          (g.O.Sink.contents c.pass_known.new.out) p
          (λ asked. none_more m _ c.in-Ok-Units.field-0-is (c.in-Ok-Units.ensures.unasked asked)) (
            first,
            here,
            λ asked. c.pass.ensures.follows asked so_far.0 (so_far.2 asked),
            seen,
            λ input b.
                let a = agrees_before c.next_unit.new.feed c.pass.new.feed c.skip.new.self so_far.0 n same
                c.skip.ensures.bytes input c.skip.ensures.flow b in
                let front = so_far.4 input (agrees_earlier _ _ _ grew so_far.0 input a) in
                let step = c.in-Ok-Takes.ensures.follows so_far.0 input so_far.1 a in
                let is = (rw c.in-Ok-Takes.field-0-is at step.0) in
                let longer = one_more_unit _ _ _ input _ _ _ c.loop-n.start front.0 0 front.1 front.2 n is in (
                  longer.0,
                  longer.1,
                  longer.2,
                  λ asked kept. unit_kept _ _ _ input _ _ _ c.loop-n.start front.0 0 front.1 front.2 n is
                      c.pass.new.self so_far.0 items so_far.1 c.loop-n.past.next (let f = so_far.2 asked in f.next)
                      (c.pass.ensures.at asked) (c.pass.ensures.bytes asked kept) le,
                  few_with_one (matches_for c.args.settings.now) _ _ _ _ _ front.4 c.in-Ok-Takes.ensures.few longer.3,
                ),
          );
    }

-- the fault of the reader came while units were passed
pub returns-in-Ok-Broken-clause-units : goal.returns-in-Ok-Broken-clause-units
returns-in-Ok-Broken-clause-units g c =
    let so_far = c.loop-n.invariant.written in
    let grew = c.in-Ok-Takes.ensures.grows in
    let same = c.pass.ensures.same in
    let items = c.next_unit.new.feed.ring.items in
    let n = c.in-Ok-Takes.n in
    let fits = (rw c.in-Ok-Takes.field-0-is at c.in-Ok-Takes.ensures.fits) in
    let le : n ≤ length items = omega (arith, fits.1) in
    let first = so_far.0 ++ take n items in
    let here : length first ≡ c.loop-n.start + n = slides-len so_far.0 items n c.loop-n.start so_far.1 le in
    let seen = consumed_after c.next_unit.new.feed c.pass.new.feed c.skip.new.self so_far.0 n same c.skip.ensures.bytes
    g.R.Source.remaining (g.R.Source.remaining (reader_of c.args.feed.now)) c.skip.ensures.reader
    (seen_more _ _ _ grew so_far.0 _ so_far.3) in
    let known = c.in-Ok-Takes.ensures.units c.loop-n.invariant.units in
    let room = room_after g.R.Source.remaining c.loop-n.feed c.next_unit.new.feed c.pass.new.feed c.skip.new.self
    input_limit c.loop-n.start n grew same c.skip.ensures.bytes c.skip.ensures.allowance le
    c.loop-n.invariant.within in
    let p = (rw c.in-Ok-Broken.field-0-is at c.in-Ok-Broken.ensures.passed) in (
      first ++ (bytes_of c.skip.new.self ++ p.more),
      consumed_now _ _ _ _ _ _ _ _ p first _ seen,
      seen_fits _ _ _ _ _ _ _ _ p input_limit (c.loop-n.start + n) room first here,
      λ input there.
          let a = agrees_before c.next_unit.new.feed c.pass.new.feed c.skip.new.self so_far.0 n same
          c.skip.ensures.bytes input c.skip.ensures.flow (p.earlier first input there) in
          let front = so_far.4 input (agrees_earlier _ _ _ grew so_far.0 input a) in
          let step = c.in-Ok-Takes.ensures.follows so_far.0 input so_far.1 a in
          let is = (rw c.in-Ok-Takes.field-0-is at step.0) in
          let longer = one_more_unit _ _ _ input _ _ _ c.loop-n.start front.0 0 front.1 front.2 n is in
          let follow = p.follows c.args.peg.now first input known there in (
            cut_at_fault _ _ _ input _ _ _ (c.loop-n.start + n) longer.0 _ longer.1 longer.2 _
                here (not_asked c.args.settings.now.explain (λ asked.
                not_broken _ c.in-Ok-Broken.field-0-is (c.in-Ok-Broken.ensures.unasked asked)))
                follow,
            record {
              position = c.loop-n.start + n;
              within = omega (arith, length-append first (bytes_of c.skip.new.self ++ p.more), here);
              text = longer.0;
              units = longer.1;
              few = few_before_stop (matches_for c.args.settings.now) _ _ _
                  (few_with_one (matches_for c.args.settings.now) _ _ _ _ _ front.4 c.in-Ok-Takes.ensures.few longer.3);
            },
          ),
    )

-- the writer failed while units were passed
pub returns-in-Err-pass_known-clause-units : goal.returns-in-Err-pass_known-clause-units
returns-in-Err-pass_known-clause-units g c =
    let so_far = c.loop-n.invariant.written in
    let grew = c.in-Ok-Takes.ensures.grows in
    let same = c.pass.ensures.same in
    let items = c.next_unit.new.feed.ring.items in
    let n = c.in-Ok-Takes.n in
    let fits = (rw c.in-Ok-Takes.field-0-is at c.in-Ok-Takes.ensures.fits) in
    let le : n ≤ length items = omega (arith, fits.1) in
    let first = so_far.0 ++ take n items in
    let here : length first ≡ c.loop-n.start + n = slides-len so_far.0 items n c.loop-n.start so_far.1 le in
    let seen = consumed_after c.next_unit.new.feed c.pass.new.feed c.skip.new.self so_far.0 n same c.skip.ensures.bytes
    g.R.Source.remaining (g.R.Source.remaining (reader_of c.args.feed.now)) c.skip.ensures.reader
    (seen_more _ _ _ grew so_far.0 _ so_far.3) in
    let known = c.in-Ok-Takes.ensures.units c.loop-n.invariant.units in
    let room = room_after g.R.Source.remaining c.loop-n.feed c.next_unit.new.feed c.pass.new.feed c.skip.new.self
    input_limit c.loop-n.start n grew same c.skip.ensures.bytes c.skip.ensures.allowance le
    c.loop-n.invariant.within in
    let p = c.in-Err-pass_known.ensures.passed in (
      first ++ (bytes_of c.skip.new.self ++ p.more),
      consumed_now _ _ _ _ _ _ _ _ p first _ seen,
      seen_fits _ _ _ _ _ _ _ _ p input_limit (c.loop-n.start + n) room first here,
      λ input there.
          let a = agrees_before c.next_unit.new.feed c.pass.new.feed c.skip.new.self so_far.0 n same
          c.skip.ensures.bytes input c.skip.ensures.flow (p.earlier first input there) in
          let front = so_far.4 input (agrees_earlier _ _ _ grew so_far.0 input a) in
          let step = c.in-Ok-Takes.ensures.follows so_far.0 input so_far.1 a in
          let is = (rw c.in-Ok-Takes.field-0-is at step.0) in
          let longer = one_more_unit _ _ _ input _ _ _ c.loop-n.start front.0 0 front.1 front.2 n is in
          let follow = p.follows c.args.peg.now first input known there in (
            cut_at_write_fault _ _ _ input _ _ _ (c.loop-n.start + n) longer.0 _ longer.1 longer.2 _
                here c.in-Err-pass_known.fault follow,
            record {
              position = c.loop-n.start + n;
              within = omega (arith, length-append first (bytes_of c.skip.new.self ++ p.more), here);
              text = longer.0;
              units = longer.1;
              few = few_before_stop (matches_for c.args.settings.now) _ _ _
                  (few_with_one (matches_for c.args.settings.now) _ _ _ _ _ front.4 c.in-Ok-Takes.ensures.few longer.3);
            },
          ),
    )

pub ending_at-requires : goal.ending_at-requires
ending_at-requires g c = record {
  stands = λ asked.
      let so_far = c.loop-n.invariant.written in
      let grew = c.in-Ok-Stops.ensures.grows in
      let more = ap length grew.bytes in (
        so_far.0,
        so_far.2 asked,
        omega (
          arith,
          so_far.1,
          grew.allowance,
          more,
          length-append c.loop-n.feed.ring.items grew.more,
          c.loop-n.invariant.within,
        ),
      );
}

pub returns-in-Ok-Stops-clause-units : goal.returns-in-Ok-Stops-clause-units
returns-in-Ok-Stops-clause-units g c =
    let so_far = c.loop-n.invariant.written in
    let grew = c.in-Ok-Stops.ensures.grows in
    let same = c.ending_at.ensures.same in
    let items = c.next_unit.new.feed.ring.items in (
      so_far.0 ++ items,
      rw same.reader (seen_more _ _ _ grew so_far.0 _ so_far.3),
      let more = ap length grew.bytes in
          omega (
            arith,
            length-append so_far.0 items,
            so_far.1,
            grew.allowance,
            same.allowance,
            more,
            length-append c.loop-n.feed.ring.items grew.more,
            c.loop-n.invariant.within,
          ),
      λ input b.
          let a = rw same.flow at b in
          let front = so_far.4 input (agrees_earlier _ _ _ grew so_far.0 input a) in
          let step = c.in-Ok-Stops.ensures.follows so_far.0 input so_far.1 a in
          let took = (rw c.in-Ok-Stops.field-0-is at step.1) in (
            stops_at_position _ _ _ input _ _ _ c.loop-n.start front.0 (length (so_far.0 ++ items)) front.1 front.2
                c.loop-n.past so_far.0 items a.more so_far.1 a.bytes took front.3
                c.in-Ok-Stops.stop c.ending_at.result (rw c.in-Ok-Stops.field-0-is at step.0) c.ending_at.ensures.plain
                (λ asked. c.ending_at.ensures.reported asked so_far.0 (so_far.2 asked)) took,
            record {
              position = c.loop-n.start;
              within = omega (arith, length-append so_far.0 items, so_far.1);
              text = front.0;
              units = front.1;
              few = rw c.forget.ensures.calls
                  (few_at_stop (matches_for c.args.settings.now) _ _ _ _ front.4 c.in-Ok-Stops.ensures.few);
            },
          ),
    )

pub returns-in-Err-clause-units : goal.returns-in-Err-clause-units
returns-in-Err-clause-units g c =
    let so_far = c.loop-n.invariant.written in
    let grew = c.in-Err.ensures.grows in
    let items = c.next_unit.new.feed.ring.items in (
      so_far.0 ++ items,
      seen_more _ _ _ grew so_far.0 _ so_far.3,
      let more = ap length grew.bytes in
          omega (
            arith,
            length-append so_far.0 items,
            so_far.1,
            grew.allowance,
            more,
            length-append c.loop-n.feed.ring.items grew.more,
            c.loop-n.invariant.within,
          ),
      λ input a.
          let front = so_far.4 input (agrees_earlier _ _ _ grew so_far.0 input a) in
          let step = c.in-Err.ensures.follows so_far.0 input so_far.1 a in (
            fails_there _ _ _ input _ _ _ c.loop-n.start front.0 (length (so_far.0 ++ items)) front.1 front.2
                c.in-Err.fault step.0 step.1.0,
            record {
              position = c.loop-n.start;
              within = omega (arith, length-append so_far.0 items, so_far.1);
              text = front.0;
              units = front.1;
              few = few_at_stop (matches_for c.args.settings.now) _ _ _ _ front.4 c.in-Err.ensures.few;
            },
          ),
    )
