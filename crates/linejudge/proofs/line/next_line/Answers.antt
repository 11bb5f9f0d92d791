-- What was found in the window, or was not.
use Rattle.std.proofs.Common.{◌≤◌, length, refl, arith}
use Rattle.feed.specs.Feed.{bytes_of, capacity_of}
use Rattle.linejudge.proofs.NextLineLemmas.{found_has_end, grows_none, none_found, held_taken, held_within, line_found}
use Rattle.linejudge.proofs.NextLineLemmas.{not_found, same_feed, without_fits, without_short}
use Rattle.linejudge.proofs.line.next_line.Goals as goal

pub returns-in-Some : goal.returns-in-Some
returns-in-Some g c = record {
  loan = refl;
  grows = grows_none c.args.feed.now;
  reported = c.requires;
  follows = λ before input room a.
      let len = c.len.ensures.len in
      let most = c.len.ensures.within in
      let within : length (bytes_of c.args.feed.now) ≤ capacity_of c.args.feed.now = omega (arith, len, most) in (
        line_found c.args.feed.now c.args.form before input room within a c.in-Some.k c.in-Some.ensures,
        held_within c.args.feed.now c.args.form before input room within a,
      );
  still = λ some. same_feed c.args.feed.now;
  reads = λ is. absurd (cc);
  filled = λ not none before input room a.
      absurd (found_has_end c.args.form.end c.in-Some.k (bytes_of c.args.feed.now) c.in-Some.ensures none);
  fits = let is = c.in-Some.ensures in let high = is.0.high in omega (arith, high);
  short =
      let is = c.in-Some.ensures in
      let high = is.0.high in
      let len = c.len.ensures.len in
      let most = c.len.ensures.within in
      omega (arith, high, len, most);
}

pub returns-in-Some-find : goal.returns-in-Some-find
returns-in-Some-find g c = record {
  loan = c.fill-held.ensures.loan;
  grows = c.fill-held.ensures.grows;
  reported = c.fill-held.ensures.reported;
  follows = λ before input room a.
      let feed = c.fill-held.new.self in (
        line_found feed c.args.form before input room c.fill-held.ensures.within a c.in-Some-find.k
            c.in-Some-find.ensures,
        held_within feed c.args.form before input room c.fill-held.ensures.within a,
      );
  still = λ some. absurd (some (none_found c.args.form.end (bytes_of c.args.feed.now) c.in_default.ensures));
  reads = λ is. absurd (cc);
  filled = λ not none before input room a.
      held_taken c.fill-held.new.self c.args.form before input room c.fill-held.ensures.within a
      c.fill-held.result c.fill-held.ensures.held;
  fits =
      let is = c.in-Some-find.ensures in
      let high = is.0.high in
      omega (arith, high);
  short =
      let is = c.in-Some-find.ensures in
      let high = is.0.high in
      omega (arith, high, c.fill-held.ensures.within);
}

pub returns-in-None : goal.returns-in-None
returns-in-None g c = record {
  loan = c.fill-held.ensures.loan;
  grows = c.fill-held.ensures.grows;
  reported = c.fill-held.ensures.reported;
  follows = λ before input room a.
      let feed = c.fill-held.new.self in (
        rw (c.without_end.ensures, c.len-len.ensures.len)
            (not_found feed c.args.form before input room c.fill-held.ensures.within a c.in-None.ensures
            c.fill-held.result c.fill-held.ensures.held),
        held_within feed c.args.form before input room c.fill-held.ensures.within a,
      );
  still = λ some. absurd (some (none_found c.args.form.end (bytes_of c.args.feed.now) c.in_default.ensures));
  reads = λ is. absurd (cc);
  filled = λ not none before input room a.
      held_taken c.fill-held.new.self c.args.form before input room c.fill-held.ensures.within a
      c.fill-held.result c.fill-held.ensures.held;
  fits = rw (c.without_end.ensures, c.len-len.ensures.len)
      (without_fits c.fill-held.result (length c.fill-held.new.self.ring.items));
  short = rw (c.without_end.ensures, c.len-len.ensures.len)
      (without_short c.fill-held.new.self c.fill-held.result c.fill-held.ensures.held);
}
