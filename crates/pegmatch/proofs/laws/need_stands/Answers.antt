use Rattle.std.proofs.Common.{◌<◌, length, arith}
use Rattle.pegmatch.proofs.laws.need_stands.Goals as goal

pub returns : goal.returns
returns c = λ g window rest o o' looked d e.
    let short : looked < length window → ⊥ = λ less.
    let on_window = c.shorter_input_of_start.ensures _ _ _ _ _ _ less e in
    let same = c.one_outcome_of_start.ensures _ _ _ _ _ _ _ d on_window in
    omega (arith, same.1, less) in
    omega (arith, short)
