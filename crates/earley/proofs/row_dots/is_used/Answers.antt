use Rattle.std.proofs.Common.{arith}
use Rattle.earley.proofs.row_dots.is_used.Goals as goal

pub returns-in-None : goal.returns-in-None
returns-in-None c = (
  (λ t. absurd (cc t)),
  (λ h. let lt = c.in-None.ensures.none h.0 h.1 in absurd (omega (arith, lt))),
)
