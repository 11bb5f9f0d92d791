-- A factored grammar with loops derives the lines of the grammar.
use Rattle.abnfrun.proofs.factored.automaton_grammar.Goals as goal

pub returns-in-Some-2 : goal.returns-in-Some-2
returns-in-Some-2 c = λ has w.
    let loops = (rw c.in-Some.is at c.in_ok-loops.ensures) has w in
    let made = (rw c.in-Some-2.is at c.in_ok-made.ensures) has w in
    (λ derives. loops.0 (made.0 derives), λ derives. made.1 (loops.1 derives))
