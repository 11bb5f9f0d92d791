-- The unit was tried so many times, and each time it looked past what was held.
use Rattle.std.proofs.Common.{◌-◌, ◌≡◌, ℕ, ◌≤◌, ◌<◌, ◌+◌, ◌*◌, length}
use Rattle.feed.specs.Feed.{Grows, IsTrueOfReader, SameLoan, bytes_of}
use Rattle.pegrun.specs.ByteUnits.{AreByteUnits}
use Rattle.pegrun.specs.LineReads.{ReadsForUnit, line_reads}
use Rattle.pegrun.specs.MatchCalls.{calls_of, most_tries}
use Rattle.pegrun.proofs.LineReadLemmas.{CanWait}
use Rattle.pegrun.proofs.line_unit.early_unit.Given as goal

abbrev pub invariant-loop-tries : goal.invariant-loop-tries
invariant-loop-tries g l = record {
  loan : SameLoan l.fn.feed l.feed;
  grows : Grows g.R.Source.remaining l.fn.feed l.feed;
  reported : IsTrueOfReader g.R.Source.remaining g.R.Source.failed g.R.Source.ended l.feed;
  wrote : g.O.Sink.contents l.out ≡ g.O.Sink.contents l.fn.out;
  flag : g.O.Sink.failed l.out ≡ g.O.Sink.failed l.fn.out;
  few : calls_of g.M.Matcher.matches l.matcher ≤ calls_of g.M.Matcher.matches l.fn.matcher + 2 * l.tries;
  units : AreByteUnits l.peg l.settings.options.style l.fn.matcher.units
      → AreByteUnits l.peg l.settings.options.style l.matcher.units;
  most : l.tries ≤ most_tries;
  tried : 0 < l.tries → length (bytes_of l.feed) ≤ l.from;
  reads : (n : ℕ) × ReadsForUnit l.peg (bytes_of l.fn.feed) n (bytes_of l.feed) × (l.tries ≤ n + 1)
      × (n < line_reads → CanWait l.peg l.from (bytes_of l.feed));
}

abbrev pub decreases-loop-tries : goal.decreases-loop-tries
decreases-loop-tries g l = 89 - l.tries
