use Rattle.std.proofs.Common.{ℕ, ◌-◌, List}
use Rattle.fixpoint.specs.Distances.{Distance}
use Rattle.fixpoint.specs.Fills.{Down}
use Rattle.fixpoint.specs.ShortChains.{AreChains}
use Rattle.fixpoint.proofs.chains.Chains.chain_to.Given as goal

abbrev pub invariant-loop-step : goal.invariant-loop-step
invariant-loop-step l = (rows : List (List ℕ)) (s : ℕ) → AreChains rows s l.self
    → Distance rows s l.at (l.count - l._step) × Down rows s l.n l.at l.chain.items
