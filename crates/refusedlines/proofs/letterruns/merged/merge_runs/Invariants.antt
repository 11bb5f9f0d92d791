use Rattle.std.proofs.Common.{ℕ, ◌<◌, ◌≤◌, ◌↔◌, length, get_or, take, All}
use Rattle.refusedlines.specs.LetterRuns.{AreApartFrom, RunsHave}
use Rattle.refusedlines.specs.declared.letterruns.run.LetterRun.{LetterRun}
use Rattle.refusedlines.proofs.letterruns.merged.merge_runs.Given as goal

abbrev pub invariant-loop-run : goal.invariant-loop-run
invariant-loop-run l = record {
  apart : AreApartFrom 0 l.merged.items;
  before : (k : ℕ) (d : LetterRun) → l.run-index ≤ k → k < length l.run-items
      → All (λ r. r.first ≤ (get_or l.run-items k d).first) l.merged.items;
  same : (c : ℕ) → RunsHave l.merged.items c ↔ RunsHave (take l.run-index l.run-items) c;
}
