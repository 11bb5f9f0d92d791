-- The unit was run at a line feed, or looked past what was held there.
use Rattle.std.proofs.Common.{◌≤◌, ◌+◌, ◌∙◌, ℕ, List, Option, Some, arith, refl, subst, true}
use Rattle.std.proofs.lemmas.Grind.{common_steps}
use Rattle.feed.specs.Feed.{bytes_of}
use Rattle.pegrun.specs.Attempts.{IsSettledStep}
use Rattle.pegrun.specs.LineReads as reads
use Rattle.pegrun.proofs.LineReadLemmas.{all_tried, grows_none, grows_twice, nothing_tried, reads_on}
use Rattle.pegrun.proofs.LineReadLemmas.{reads_then, run_reads, some_reads, tries_within}
use Rattle.pegrun.proofs.LineUnitLemmas.{has_run, run_fits}
use Rattle.pegrun.proofs.line_unit.early_unit.Goals as goal

pub loop-tries-init : goal.loop-tries-init
loop-tries-init g c = record {
  loan = refl;
  grows = grows_none c.args.feed.now;
  reported = c.requires.reported;
  wrote = refl;
  flag = refl;
  few = omega arith;
  units = λ are. are;
  most = omega arith;
  tried = λ some. absurd (omega (arith, some));
  reads = (0, reads.ReadsForUnit.no_read, omega arith, λ lt. nothing_tried c.args.peg.now (bytes_of c.args.feed.now));
}

pub returns-in-Some-clause-reads : goal.returns-in-Some-clause-reads
returns-in-Some-clause-reads g c = λ lines.
    let so_far = c.loop-tries.invariant.reads in
    let more = c.in-Some.ensures.reads in (
      so_far.0 + more.0,
      reads_on c.args.peg.now (bytes_of c.args.feed.now) so_far.0 c.loop-tries.from (bytes_of c.loop-tries.feed)
          so_far.1 so_far.3 more.0 (bytes_of c.read_line.new.feed) more.1,
    )

pub returns-in-Some-try_unit-clause-grows : goal.returns-in-Some-try_unit-clause-grows
returns-in-Some-try_unit-clause-grows g c =
    grows_twice c.args.feed.now c.read_line.new.feed c.read_for_stop.new.feed
    (grows_twice c.args.feed.now c.loop-tries.feed c.read_line.new.feed c.loop-tries.invariant.grows
    c.in_default.ensures.grows) c.read_for_stop.ensures.grows

pub returns-in-Some-try_unit-clause-follows : goal.returns-in-Some-try_unit-clause-follows
returns-in-Some-try_unit-clause-follows g c =
    let so_far = c.loop-tries.invariant in
    let runs = c.if-not-runs_at_lines.false in
    let same = c.runs_at_lines.ensures in
    let line = c.in_default.ensures.line in
    let feed = c.read_line.new.feed in
    let new = g.O.Sink.contents c.try_unit.new.out in
    has_run g.R.Source.remaining c.args.peg.now c.requires.sound c.args.settings.now c.args.start
    (grind (arith, common_steps, runs, same)) feed c.read_for_stop.new.feed c.read_for_stop.ensures.grows
    (c.in_default.ensures.grows.capacity ∙ so_far.grows.capacity ∙ c.requires.capacity) (omega (arith, line.0)) line.1
    (g.O.Sink.contents c.args.out.now) new c.in-Some-try_unit.step c.read_for_stop.ensures.read
    (subst (λ (o : Option (List ℕ)). IsSettledStep c.args.peg.now (bytes_of feed) c.args.settings.now c.args.start o new
    (Some c.in-Some-try_unit.step)) so_far.wrote c.in-Some-try_unit.ensures.answer)

pub returns-in-Some-try_unit-clause-reads : goal.returns-in-Some-try_unit-clause-reads
returns-in-Some-try_unit-clause-reads g c = λ lines.
    let so_far = c.loop-tries.invariant.reads in
    let more = c.in_default.ensures.reads in
    run_reads c.args.peg.now (bytes_of c.args.feed.now) c.read_line.new.feed c.read_for_stop.new.feed
    c.in-Some-try_unit.step c.read_for_stop.ensures.read (so_far.0 + more.0)
    (reads_on c.args.peg.now (bytes_of c.args.feed.now) so_far.0 c.loop-tries.from (bytes_of c.loop-tries.feed) so_far.1
    so_far.3 more.0 (bytes_of c.read_line.new.feed) more.1)

pub returns-in-Some-try_unit-clause-fits : goal.returns-in-Some-try_unit-clause-fits
returns-in-Some-try_unit-clause-fits g c =
    let so_far = c.loop-tries.invariant in
    let runs = c.if-not-runs_at_lines.false in
    let same = c.runs_at_lines.ensures in
    let line = c.in_default.ensures.line in
    let feed = c.read_line.new.feed in
    run_fits g.R.Source.remaining c.args.peg.now c.requires.sound c.args.settings.now c.args.start
    (grind (arith, common_steps, runs, same)) feed c.read_for_stop.new.feed c.read_for_stop.ensures.grows
    (c.in_default.ensures.grows.capacity ∙ so_far.grows.capacity ∙ c.requires.capacity) (omega (arith, line.0)) line.1
    _ _ c.in-Some-try_unit.step c.read_for_stop.ensures.read c.in-Some-try_unit.ensures.answer

pub returns-in-Some-try_unit-clause-units : goal.returns-in-Some-try_unit-clause-units
returns-in-Some-try_unit-clause-units g c = λ are.
    c.in-Some-try_unit.ensures.units (c.loop-tries.invariant.units are)

pub loop-tries-preserved : goal.loop-tries-preserved
loop-tries-preserved g c =
    let so_far = c.loop-tries.invariant in
    let more = c.in_default.ensures.reads in
    let line = c.in_default.ensures.line in
    let waits = c.in_default-try_unit.ensures.answer in
    let from = c.next_from-from.ensures in
    let len = c.len.ensures.len in
    let test = c.loop-tries-test.true in
    let twice = c.try_unit.ensures.twice in
    let few = so_far.few in
    let ahead = from.ahead in
    let within : c.loop-tries.tries + 1 ≤ so_far.reads.0 + more.0 + 1 =
    tries_within c.loop-tries.tries so_far.reads.0 more.0 so_far.reads.2
    (λ some. some_reads c.loop-tries.from (bytes_of c.loop-tries.feed) more.0 (bytes_of c.read_line.new.feed) more.1
    (so_far.tried some) line.0) in
    record {
      loan = c.in_default.ensures.loan ∙ so_far.loan;
      grows = grows_twice c.args.feed.now c.loop-tries.feed c.read_line.new.feed so_far.grows
          c.in_default.ensures.grows;
      reported = c.in_default.ensures.reported;
      wrote = waits.1 ∙ so_far.wrote;
      flag = c.in_default-try_unit.ensures.flag ∙ so_far.flag;
      few = omega (arith, few, twice);
      units = λ are. c.in_default-try_unit.ensures.units (so_far.units are);
      most = omega (arith, test);
      tried = λ some. omega (arith, ahead, len);
      reads = (
        so_far.reads.0 + more.0,
        reads_on c.args.peg.now (bytes_of c.args.feed.now) so_far.reads.0 c.loop-tries.from
            (bytes_of c.loop-tries.feed) so_far.reads.1 so_far.reads.3 more.0 (bytes_of c.read_line.new.feed) more.1,
        within,
        λ lt. all_tried c.args.peg.now _ (bytes_of c.read_line.new.feed) (from.line (omega (arith, lt, within)) ∙ len)
            waits.0,
      );
    }

pub returns-clause-reads : goal.returns-clause-reads
returns-clause-reads g c = λ lines.
    let so_far = c.loop-tries.invariant.reads in
    let done = c.loop-tries-test.false in
    let many = so_far.2 in
    let grew = c.fill-2.ensures.grows in
    reads_then c.args.peg.now (bytes_of c.args.feed.now) so_far.0 (bytes_of c.loop-tries.feed) grew.more
    (bytes_of c.fill-2.new.self) so_far.1 (omega (arith, done, many)) grew.bytes
