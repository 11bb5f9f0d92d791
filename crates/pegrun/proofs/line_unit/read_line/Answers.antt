-- One more read, as no line feed stands there.
use Rattle.std.proofs.Common.{◌∙◌, suc, length, drop, ap, arith, refl, length-append}
use Rattle.feed.specs.Feed.{bytes_of}
use Rattle.pegrun.specs.LineReads.{HasNoLf, ReadsToLine}
use Rattle.pegrun.specs.LineReads as reads
use Rattle.pegrun.proofs.LineReadLemmas.{grows_none, grows_twice, none_after_last, none_at_all}
use Rattle.pegrun.proofs.line_unit.read_line.Goals.{in-Some+else-from-k, in_default}
use Rattle.pegrun.proofs.line_unit.read_line.Goals as goal

pub loop-limit-init : goal.loop-limit-init
loop-limit-init g c = record {
  loan = refl;
  grows = grows_none c.args.feed.now;
  reported = c.requires.reported;
  reads = (0, reads.ReadsToLine.no_read);
}

pub loop-limit-preserved : goal.loop-limit-preserved
loop-limit-preserved g c =
    let on = c.read_more.ensures in
    let so_far = c.loop-limit.invariant in
    let items = bytes_of c.loop-limit.feed in
    let no_line : HasNoLf (drop c.args.from items) = elim c.match-rfind.branch [
      | in-Some+else-from-k w ↦
          let before = w.if-from-k.false in
          none_after_last items c.args.from w.in-Some.k w.in-Some.ensures (omega (arith, before))
      | in_default w ↦ none_at_all items c.args.from w.in_default.ensures
    ] in
    let more = ap length on.grows.bytes in
    record {
      loan = on.loan ∙ so_far.loan;
      grows = grows_twice c.args.feed.now c.loop-limit.feed c.read_more.new.self so_far.grows on.grows;
      reported = on.reported;
      reads = (
        suc so_far.reads.0,
        rw on.grows.bytes
            (reads.ReadsToLine.one_read so_far.reads.0 items on.grows.more so_far.reads.1 no_line
            (omega (arith, more, length-append items on.grows.more, on.few))),
      );
    }
