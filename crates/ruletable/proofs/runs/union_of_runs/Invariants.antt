-- What is in the union or in a run that is left is in one of all the runs.
use Rattle.std.proofs.Common.{◌≡◌, ℕ, ◌||◌, false, get_or}
use Rattle.ruletable.specs.Runs.{in_runs, runs_of, test_of}
use Rattle.ruletable.proofs.runs.union_of_runs.Given as goal

abbrev pub invariant-loop-first : goal.invariant-loop-first
invariant-loop-first l = (b : ℕ) → (get_or l.union b false || in_runs l.first-iterator b)
    ≡ in_runs (runs_of (test_of l.set)) b
