-- All numbers stand between the least and the greatest one.
use Rattle.std.proofs.Common.{◌≡◌, arith}
use Rattle.std.proofs.lemmas.Bool.Decides.{Decides-eqb}
use Rattle.earley.proofs.row_step.is_single.Goals as goal

pub returns-in-Some-Some : goal.returns-in-Some-Some
returns-in-Some-Some c t j k one two =
    let same : c.in-Some-Some.least ≡ c.in-Some-Some.last = (Decides-eqb c.in-Some-Some.least c.in-Some-Some.last).0 t
    in
    let low_one = c.in-Some-Some.ensures.first j one (omega arith) in
    let low_two = c.in-Some-Some.ensures.first k two (omega arith) in
    let high_one = c.in-Some-Some.ensures'.last j one in
    let high_two = c.in-Some-Some.ensures'.last k two in
    omega (arith, same, low_one, low_two, high_one, high_two)
