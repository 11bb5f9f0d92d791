-- The rules so far.
use Rattle.std.specs.List.{AllPairs}
use Rattle.abnfread.specs.AbnfViews.{rules_of}
use Rattle.coverlines.specs.CoverLines.{AreGoalLines, Falls}
use Rattle.coverlines.specs.KnownWords.{AreKnownOf}
use Rattle.coverlines.proofs.cover.goal_lines.Given as goal

abbrev pub invariant-loop-id : goal.invariant-loop-id
invariant-loop-id l = record {
  order : AllPairs Falls l.found.items;
  lines : AreKnownOf l.words (rules_of l.rules) → AreGoalLines l.words.bounds (rules_of l.rules) l.contexts l.sites
      l.id l.found.items;
}
