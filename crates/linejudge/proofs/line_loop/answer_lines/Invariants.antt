-- The lines so far, of every input that begins with what was seen, have been answered.
use Rattle.std.proofs.Common.{◌≡◌, ◌+◌, ◌-◌, ◌≤◌, ◌++◌, length, ℕ, List, true}
use Rattle.std.specs.Io.KnownBytes.{Appends, Consumes}
use Rattle.feed.specs.Feed.{IsTrueOfReader, SameLoan, allowance_of, bytes_of, capacity_of, flow_of, input_limit}
use Rattle.feed.specs.Feed.{reader_of}
use Rattle.toolrun.specs.Agrees.{Agrees}
use Rattle.toolrun.specs.Input.{Input}
use Rattle.linejudge.specs.InputLines.{Lines}
use Rattle.linejudge.specs.LineRefusals.{ReportedUpTo}
use Rattle.linejudge.specs.LineSteps.{HasRoom}
use Rattle.linejudge.proofs.line_loop.answer_lines.Given as goal

abbrev pub invariant-loop-feed : goal.invariant-loop-feed
invariant-loop-feed g l = record {
  capacity : capacity_of l.feed ≡ l.form.limit + 1;
  counted : l.reached.at.count ≤ l.reached.at.position;
  refused : l.reached.at.refused ≤ l.reached.at.count;
  within : l.reached.at.position + length (bytes_of l.feed) + allowance_of l.feed ≡ input_limit;
  reported : IsTrueOfReader g.R.Source.remaining g.R.Source.failed g.R.Source.ended l.feed;
  work : g.J.Judge.works_in l.judge l.work;
  room : g.J.Judge.explains l.judge ≡ true → HasRoom l.reached.reported;
  loan : SameLoan l.fn.feed l.feed;
  flag : g.O.Sink.failed l.out ≡ g.O.Sink.failed l.fn.out;
  written : (before : List ℕ) × (length before ≡ l.reached.at.position) ×
      Consumes (g.R.Source.remaining (reader_of l.fn.feed)) (g.R.Source.remaining (reader_of l.feed))
      (before ++ bytes_of l.feed) ×
      ((input : Input) → Agrees (before ++ bytes_of l.feed) (flow_of l.feed) input →
      (text : List ℕ) × Lines (g.J.Judge.reported l.judge) l.form input l.reached.at text
      × ReportedUpTo (g.J.Judge.reported l.judge) (g.J.Judge.explains l.judge) (g.J.Judge.refusal l.judge) l.form input
      l.reached.reported.lacks l.reached.at l.reached.reported.text.items
      × Appends (g.O.Sink.contents l.fn.out) (g.O.Sink.contents l.out) text);
}

abbrev pub decreases-loop-feed : goal.decreases-loop-feed
decreases-loop-feed g l = input_limit - l.reached.at.position
