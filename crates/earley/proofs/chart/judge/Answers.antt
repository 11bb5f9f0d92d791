use Rattle.std.proofs.Common.{ℕ, ◌+◌, ◌*◌, ◌≤◌, Bool, List, Result, Ok, Err, IfOk, length, map, subst}
use Rattle.std.specs.Prelude.{IfSome}
use Rattle.earleyitems.proofs.ChartSetsLemmas.{set_bound}
use Rattle.earleyitems.specs.ChartSets.{set_at, IsSet}
use Rattle.flatgrammar.specs.Flat.{Flat, Dot}
use Rattle.flatgrammar.specs.Positions.{positions}
use Rattle.earley.proofs.chart.judge.Goals as goal

sets_bound : {E : Type 0} (flat : Flat) (x : List ℕ) (sets : List (List (Dot × ℕ))) (r : Result Bool E)
    → IfOk r (λ _. (j : ℕ) → IsSet flat x j (set_at sets j))
    → IfOk r (λ _. (j : ℕ) → length (set_at sets j) ≤ positions flat.nodes * (j + 1))
sets_bound flat x sets (Ok b) are = λ j. set_bound flat x j (set_at sets j) (are j)
sets_bound flat x sets (Err e) are = tt

pub returns-in-Some-clause-bound : goal.returns-in-Some-clause-bound
returns-in-Some-clause-bound g c =
    let flat = c.args.flat.now in
    let x = map g.L.Letter.number c.args.line.now in
    let are = subst (λ o. IfSome o (λ _. (j : ℕ) → IsSet flat x j (set_at c.judge_within.new.chart j))) c.in-Some.is
    c.in_ok-yes.ensures.sets in
    λ j. set_bound flat x j (set_at c.judge_within.new.chart j) (are j)

pub returns-in-None-clause-bound : goal.returns-in-None-clause-bound
returns-in-None-clause-bound g c =
    sets_bound c.args.flat.now (map g.L.Letter.number c.args.line.now) c.judge_many.new.chart c.judge_many.result
    c.judge_many.ensures.sets
