-- A call gives the first run that is left, or finds none.
use Rattle.std.proofs.Common.{◌≡◌, ◌-◌, length, ap, arith, rules}
use Rattle.ruletable.specs.Runs.{test_of, position_of}
use Rattle.ruletable.proofs.RunsLemmas.{after-none, after-step}
use Rattle.ruletable.proofs.runs.RunsIterator.next.Goals as goal
use Rattle.ruletable.proofs.runs.RunsIterator.next.Goals.{in-Some, in-None}

pub returns-in_err-self-clause-steps : goal.returns-in_err-self-clause-steps
returns-in_err-self-clause-steps c =
    let none = after-none (test_of c.self.inside.set.now) 256 (omega arith) (λ b l h. absurd (omega arith)) in
    rw (c.from_residual.ensures, ← c.self.view_is, c.in_err-self.was) (none, none)

pub returns-in_err-first-clause-steps : goal.returns-in_err-first-clause-steps
returns-in_err-first-clause-steps c =
    let none = after-none (test_of c.self.inside.set.now) c.in_ok-self.field-0 (omega arith) (c.in_err-first.ensures) in
    rw (c.from_residual-in_err-first.ensures, ← c.self.view_is, c.in_ok-self.was) (none, none)

last_of : (c : goal.Joined-self) → c.match-self.last ≡ position_of c.first_from-self-inside.result - 1
last_of c = elim c.match-self.branch [
  | in-Some w ↦ rw w.in-Some.is w.last-is
  | in-None w ↦ rw w.in-None.is w.last-is
]

pub returns-clause-steps : goal.returns-clause-steps
returns-clause-steps c =
    rw (← c.self.view_is, c.in_ok-self.was)
    (after-step (test_of c.self.inside.set.now) c.in_ok-self.field-0 c.in_ok-first.first c.match-self.last
    c.first_from-self-inside.result
    c.in_ok-first.ensures c.first_from-self-inside.ensures (last_of c))

pub returns-clause-goes : goal.returns-clause-goes
returns-clause-goes c = record {
  on = λ _. (search rules, search rules, (let step = ap length (returns-clause-steps c) in omega arith));
  keeps = search rules;
  rests = search rules;
}
