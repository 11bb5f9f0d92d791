use Rattle.std.proofs.Common.{◌≡◌, ◌↔◌, ℕ, true, take, All}
use Rattle.ruletable.specs.Letters.{has}
use Rattle.refusedlines.specs.LetterRuns.{IsSomeRun, RunsHave}
use Rattle.refusedlines.specs.ReadLetters.{DotsRead}
use Rattle.refusedlines.proofs.read_letters.letters_read.Given as goal

abbrev pub invariant-loop-dot : goal.invariant-loop-dot
invariant-loop-dot l = record {
  some : All IsSomeRun l.runs.items;
  letters : (c : ℕ) → RunsHave l.runs.items c
      ↔ ((has l.alphabet c ≡ true) × DotsRead l.flat (take l.dot-index l.dots) c);
}
