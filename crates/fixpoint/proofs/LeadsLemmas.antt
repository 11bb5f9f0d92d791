-- Chains put together.
-- Serves: on_cycle (marks)
use Rattle.std.proofs.Common.{ℕ, List}
use Rattle.fixpoint.specs.Leads.{Leads, one, more}

module _ (rows : List (List ℕ)) where
  pub leads_joined : {a b c : ℕ} → Leads rows a b → Leads rows b c → Leads rows a c
  leads_joined g (one step) = more g step
  leads_joined g (more h step) = more (leads_joined g h) step
