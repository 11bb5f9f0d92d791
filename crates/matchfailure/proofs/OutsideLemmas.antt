-- The evaluations that are asked for outside of `!`.
-- Serves: farthest_is_within, same_on_longer
use Rattle.std.proofs.Common.{ℕ, List}
use Rattle.pegread.specs.Pattern.{Rule}
use Rattle.pegnodes.specs.Nodes.{Shape}
use Rattle.pegmatch.specs.Visits.{Visits, first, asked}
use Rattle.matchfailure.specs.Farthest.{Outside, first_outside, asked_outside}

-- what is asked for outside of `!` is asked for
pub is_visited : {rules : List Rule} {nodes : List Shape} {bodies x : List ℕ} {start n p : ℕ}
    → Outside rules nodes bodies x start n p → Visits rules nodes bodies x start n p
is_visited (first_outside h) = first h
is_visited (asked_outside o a) = asked (is_visited o) a.1
