use Rattle.std.proofs.Common.{ℕ, Bool}
use Rattle.rulelines.specs.Samples.{AreInLineOrder}
use Rattle.rulelines.specs.Search.{AreSameGrammars, Searches}
use Rattle.rulelines.proofs.search.search_all.Given as goal

abbrev pub invariant-loop-at : goal.invariant-loop-at
invariant-loop-at l = AreSameGrammars l.initial.search l.search × ((has : ℕ → Bool) → AreInLineOrder has l.samples
    → Searches has l.samples l.initial.search 0 0 0 → Searches has l.samples l.search l.at 0 l.at)
