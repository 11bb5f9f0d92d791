use Rattle.std.proofs.Common.{◌≡◌, ◌<◌, ℕ, Bool}
use Rattle.std.specs.Prelude.{slice_get, Some}
use Rattle.rulelines.specs.CutSearch.{AreMorePairs, AreSoundIn, LeadsIn}
use Rattle.rulelines.specs.declared.pairs.SearchedPair.{SearchedPair}
use Rattle.rulelines.specs.Samples.{AreInLineOrder}
use Rattle.rulelines.specs.Search.{AreSameGrammars, Searches}
use Rattle.rulelines.proofs.search.expand.Given as goal

abbrev pub invariant-loop-symbol : goal.invariant-loop-symbol
invariant-loop-symbol l = AreSameGrammars l.initial.search l.search × ((has : ℕ → Bool) (m : ℕ)
    → AreInLineOrder has l.samples → Searches has l.samples l.initial.search l.at 0 m
    → Searches has l.samples l.search l.at l.symbol-index m) × AreMorePairs l.initial.search l.search
    × ((p : SearchedPair) → slice_get l.initial.search.pairs.items.items l.at ≡ Some p → AreSoundIn l.initial.search
    → (j c : ℕ) → j < l.symbol-index → slice_get l.samples j ≡ Some c → LeadsIn l.search c p)
