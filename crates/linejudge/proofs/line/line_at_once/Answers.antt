-- One more read, or the line.
use Rattle.std.proofs.Common.{◌≤◌, ◌∙◌, length, ap, arith, refl, length-append}
use Rattle.feed.specs.Feed.{bytes_of, capacity_of}
use Rattle.linejudge.specs.InputLines.{no_read, one_read}
use Rattle.linejudge.proofs.NextLineLemmas.{grows_none, grows_twice, held_within, line_found, none_found}
use Rattle.linejudge.proofs.NextLineLemmas.{not_found, same_feed}
use Rattle.linejudge.proofs.line.line_at_once.Goals as goal

pub loop-k-init : goal.loop-k-init
loop-k-init g c = record {
  loan = refl;
  grows = grows_none c.args.feed.now;
  reported = c.requires;
  still = λ some. same_feed c.args.feed.now;
  reads = no_read;
}

pub loop-k-preserved : goal.loop-k-preserved
loop-k-preserved g c =
    let on = c.read_more.ensures in
    let so_far = c.loop-k.invariant in
    let items = bytes_of c.loop-k.feed in
    let none = none_found c.args.form.end items c.in_default.ensures in
    let more = ap length on.grows.bytes in
    record {
      loan = on.loan ∙ so_far.loan;
      grows = grows_twice c.args.feed.now c.loop-k.feed c.read_more.new.self so_far.grows on.grows;
      reported = on.reported;
      still = λ some.
          let same = so_far.still some in
          absurd (some (rw same.bytes at none));
      reads = rw on.grows.bytes
          (one_read items on.grows.more so_far.reads none
          (omega (arith, more, length-append items on.grows.more, on.few)));
    }

pub returns-in-Some-clause-follows : goal.returns-in-Some-clause-follows
returns-in-Some-clause-follows g c = λ before input room a.
    let len = c.len-len.ensures in
    let within : length (bytes_of c.loop-k.feed) ≤ capacity_of c.loop-k.feed = omega (arith, len.len, len.within) in (
      line_found c.loop-k.feed c.args.form before input room within a c.in-Some.k c.in-Some.ensures,
      held_within c.loop-k.feed c.args.form before input room within a,
    )

pub returns-in-Some-read_more-clause-follows : goal.returns-in-Some-read_more-clause-follows
returns-in-Some-read_more-clause-follows g c = λ before input room a.
    let feed = c.read_more.new.self in
    let held = c.in-Some-read_more.ensures.held in
    let none = (rw (← (ap bytes_of held.0)) at c.in_default.ensures) in (
      rw (c.without_end.ensures, c.len-len.ensures.len, ← (ap bytes_of held.0))
          (not_found feed c.args.form before input room held.2 a none c.in-Some-read_more.held held.1),
      held_within feed c.args.form before input room held.2 a,
    )
