-- Of the values so far.
use Rattle.std.proofs.Common.{◌≡◌, ◌↔◌}
use Rattle.abnfcheck.proofs.AlikeSymbolsLemmas.{AllTo}
use Rattle.abnfcheck.proofs.alike.are_values_alike.Given as goal

abbrev pub invariant-loop-value : goal.invariant-loop-value
invariant-loop-value l = AllTo (λ v. (l.pair.first ≡ v) ↔ (l.pair.second ≡ v)) l.values l.value-index
