-- How many units a search for failures evaluated.
use Rattle.std.specs.Prelude.{ℕ}
use Rattle.matchfailure.specs.declared.explain.explain.FailureSearch.{FailureSearch}

-- the units that it evaluated since it was made
abbrev pub evaluated_by : FailureSearch → ℕ
evaluated_by s = s.evaluated

-- The count stops at the greatest number of 128 bits. A run evaluates fewer.
abbrev pub most_evaluated : ℕ
most_evaluated = 340282366920938463463374607431768211455
