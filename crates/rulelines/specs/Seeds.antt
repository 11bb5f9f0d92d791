-- The seed of a source of numbers by lot.
use Rattle.std.specs.Prelude.{ℕ}
use Rattle.rulelines.specs.declared.list.lots.Lots.{Lots}

-- what the next number is made of
abbrev pub seed_of : Lots → ℕ
seed_of lots = lots.state
