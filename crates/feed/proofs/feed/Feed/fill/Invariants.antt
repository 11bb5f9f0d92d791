-- What was read so far.
use Rattle.std.proofs.Common.{◌-◌, ◌+◌, length}
use Rattle.feed.specs.Feed.{Grows, IsTrueOfReader, SameLoan}
use Rattle.feed.proofs.GrowsLemmas.{open_count}
use Rattle.feed.proofs.feed.Feed.fill.Given as goal

abbrev pub invariant-loop-held : goal.invariant-loop-held
invariant-loop-held g l = record {
  loan : SameLoan l.fn.self l.self;
  grows : Grows g.R.Source.remaining l.fn.self l.self;
  reported : IsTrueOfReader g.R.Source.remaining g.R.Source.failed g.R.Source.ended l.self;
}

abbrev pub decreases-loop-held : goal.decreases-loop-held
decreases-loop-held g l = (l.self.ring.capacity - length l.self.ring.items) + open_count l.self.flow
