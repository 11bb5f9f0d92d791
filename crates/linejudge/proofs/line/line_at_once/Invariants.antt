-- What was read so far, read by read.
use Rattle.std.proofs.Common.{◌-◌, ◌+◌, length}
use Rattle.feed.specs.Feed.{Grows, IsTrueOfReader, SameFeed, SameLoan, bytes_of}
use Rattle.feed.proofs.GrowsLemmas.{open_count}
use Rattle.linejudge.specs.InputLines.{HasNoEnd, ReadsForLine}
use Rattle.linejudge.proofs.line.line_at_once.Given as goal

abbrev pub invariant-loop-k : goal.invariant-loop-k
invariant-loop-k g l = record {
  loan : SameLoan l.fn.feed l.feed;
  grows : Grows g.R.Source.remaining l.fn.feed l.feed;
  reported : IsTrueOfReader g.R.Source.remaining g.R.Source.failed g.R.Source.ended l.feed;
  still : (HasNoEnd l.form.end (bytes_of l.fn.feed) → ⊥) → SameFeed l.fn.feed l.feed;
  reads : ReadsForLine l.form.end (bytes_of l.fn.feed) (bytes_of l.feed);
}

abbrev pub decreases-loop-k : goal.decreases-loop-k
decreases-loop-k g l = (l.feed.ring.capacity - length l.feed.ring.items) + open_count l.feed.flow
