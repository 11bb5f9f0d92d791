-- Runs of symbols, each the numbers from a first to a last.
use Rattle.std.specs.Prelude.{ℕ, ◌+◌, ◌≤◌, ◌⊎◌, List, [], ◌∷◌}
use Rattle.refusedlines.specs.declared.letterruns.run.LetterRun.{LetterRun}

-- a number is one of the run
abbrev pub RunHas : LetterRun → ℕ → Type 0
RunHas run c = (run.first ≤ c) × (c ≤ run.last)

-- a number is one of some run
abbrev pub RunsHave : List LetterRun → ℕ → Type 0
RunsHave [] c = ⊥
RunsHave (run ∷ runs) c = RunHas run c ⊎ RunsHave runs c

-- some number is one of the run
abbrev pub IsSomeRun : LetterRun → Type 0
IsSomeRun run = run.first ≤ run.last

-- no run begins before n, and between two runs a number is left out
abbrev pub AreApartFrom : ℕ → List LetterRun → Type 0
AreApartFrom n [] = Unit {0}
AreApartFrom n (run ∷ runs) = (n ≤ run.first) × IsSomeRun run × AreApartFrom (run.last + 2) runs
