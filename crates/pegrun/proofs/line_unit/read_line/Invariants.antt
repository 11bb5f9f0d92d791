-- What was read so far, read by read.
use Rattle.std.proofs.Common.{◌-◌, ◌+◌, ℕ, length}
use Rattle.feed.specs.Feed.{Grows, IsTrueOfReader, SameLoan, bytes_of}
use Rattle.feed.proofs.GrowsLemmas.{open_count}
use Rattle.pegrun.specs.LineReads.{ReadsToLine}
use Rattle.pegrun.proofs.line_unit.read_line.Given as goal

abbrev pub invariant-loop-limit : goal.invariant-loop-limit
invariant-loop-limit g l = record {
  loan : SameLoan l.fn.feed l.feed;
  grows : Grows g.R.Source.remaining l.fn.feed l.feed;
  reported : IsTrueOfReader g.R.Source.remaining g.R.Source.failed g.R.Source.ended l.feed;
  reads : (n : ℕ) × ReadsToLine l.from (bytes_of l.fn.feed) n (bytes_of l.feed);
}

abbrev pub decreases-loop-limit : goal.decreases-loop-limit
decreases-loop-limit g l = (l.feed.ring.capacity - length l.feed.ring.items) + open_count l.feed.flow
