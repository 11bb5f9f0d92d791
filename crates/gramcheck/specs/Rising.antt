-- Events whose positions stand in order.
use Rattle.std.specs.Prelude.{ℕ, ◌≤◌, List, [], ◌∷◌}
use Rattle.gramcheck.specs.Outcome.{Event, Opened, Closed, Acted}

-- The positions of the events stand in order, from low to high.
abbrev pub Rise : ℕ → ℕ → List Event → Type 0
Rise low high [] = low ≤ high
Rise low high (Opened p ∷ events) = (low ≤ p) × Rise p high events
Rise low high (Closed p ∷ events) = (low ≤ p) × Rise p high events
Rise low high (Acted template ∷ events) = Rise low high events
