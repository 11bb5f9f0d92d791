-- The units so far, of every input that begins with what was seen, have been written, and the last one is kept if the
-- run is explained.
use Rattle.std.proofs.Common.{◌≡◌, ◌+◌, ◌-◌, ◌*◌, ◌≤◌, ◌++◌, length, true, false, ℕ, List}
use Rattle.std.specs.Io.KnownBytes.{Appends, Consumes}
use Rattle.feed.specs.Feed.{IsTrueOfReader, SameLoan, allowance_of, bytes_of, capacity_of, flow_of, input_limit}
use Rattle.feed.specs.Feed.{reader_of}
use Rattle.matchfailure.specs.FailureSearches.{evaluated_by}
use Rattle.matchfailure.specs.NoMatches.{unit_before}
use Rattle.pegread.specs.PegViews.{rules_of}
use Rattle.toolrun.specs.Agrees.{Agrees}
use Rattle.toolrun.specs.Input.{Input}
use Rattle.pegrun.specs.ByteUnits.{AreByteUnits}
use Rattle.pegrun.specs.PastUnits.{Follows}
use Rattle.pegrun.specs.StopsExplained.{UnitBefore}
use Rattle.pegrun.specs.MatchCalls.{calls_of, matches_for}
use Rattle.pegrun.specs.Units.{Units, unit_count}
use Rattle.pegrun.proofs.engine.cut.Given as goal

abbrev pub invariant-loop-n : goal.invariant-loop-n
invariant-loop-n g l = record {
  capacity : capacity_of l.feed ≡ l.settings.limit + 1;
  within : l.start + length (bytes_of l.feed) + allowance_of l.feed ≡ input_limit;
  reported : IsTrueOfReader g.R.Source.remaining g.R.Source.failed g.R.Source.ended l.feed;
  loan : SameLoan l.fn.feed l.feed;
  flag : g.O.Sink.failed l.out ≡ g.O.Sink.failed l.fn.out;
  units : AreByteUnits l.peg l.settings.options.style l.counted.matcher.units;
  searched : evaluated_by l.counted.search ≡ evaluated_by l.fn.counted.search;
  written : (before : List ℕ) × (length before ≡ l.start) ×
      (l.settings.explain ≡ true → Follows l.past before) ×
      Consumes (g.R.Source.remaining (reader_of l.fn.feed)) (g.R.Source.remaining (reader_of l.feed))
      (before ++ bytes_of l.feed) ×
      ((input : Input) → Agrees (before ++ bytes_of l.feed) (flow_of l.feed) input →
      (text : List ℕ) × (units : Units (rules_of l.peg.rules) l.peg.start l.settings input l.start text) ×
      Appends (g.O.Sink.contents l.fn.out) (g.O.Sink.contents l.out) text ×
      (l.settings.explain ≡ true → l.past.lost ≡ false → UnitBefore (rules_of l.peg.rules) l.peg.start l.settings input
      l.start (unit_before l.past.at.byte (length l.past.bytes.items))) ×
      (calls_of g.M.Matcher.matches l.counted.matcher ≤ calls_of g.M.Matcher.matches l.fn.counted.matcher
      + matches_for l.settings * unit_count (rules_of l.peg.rules) l.peg.start l.settings input units));
}

abbrev pub decreases-loop-n : goal.decreases-loop-n
decreases-loop-n g l = input_limit - l.start
