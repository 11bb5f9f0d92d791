use Rattle.std.proofs.Common.{arith}
use Rattle.earley.proofs.RowDotsLemmas.{less_is, less_test}
use Rattle.earley.proofs.row_dots.is_older.Goals as goal

pub returns-in-Some : goal.returns-in-Some
returns-in-Some c = (
  λ t. (c.in-Some.first, c.in-Some.ensures.found.1, less_is _ _ t),
  λ h. less_test _ _ (let le = c.in-Some.ensures.first h.0 h.1 (omega arith) in let lt = h.2 in
      omega (arith, le, lt)),
)

pub returns-in-None : goal.returns-in-None
returns-in-None c = (
  λ t. absurd (cc t),
  λ h. let lt = c.in-None.ensures.none h.0 h.1 in absurd (omega (arith, lt)),
)
