use Rattle.std.proofs.Common.{◌≡◌, ◌-◌, ℕ, List, length}
use Rattle.fixpoint.specs.Distances.{Distance}
use Rattle.fixpoint.specs.ShortChains.{AreChains}
use Rattle.abnfcheck.proofs.ChainEndsLemmas.{Completes}
use Rattle.abnfcheck.proofs.reached_names.ends_to.Given as goal

abbrev pub invariant-loop-step : goal.invariant-loop-step
invariant-loop-step l = (length l.ids.items ≡ l._step) × ((rows : List (List ℕ)) → AreChains rows l.first l.chains
    → Distance rows l.first l.at (l.count - l._step) × Completes rows l.first l.to l.at l.ids.items)
