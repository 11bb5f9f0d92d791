use Rattle.std.proofs.Common.{refl, Option, Some, None, IfSome, ℕ}
use Rattle.pegnodes.specs.Nodes.{Plus}
use Rattle.pegnodes.specs.Decides.{DecidesBelow, DecidesShape}
use Rattle.pegnodes.specs.declared.by_byte.Decided.{Decided}
use Rattle.pegnodes.specs.declared.by_byte.MarkedNodes.{MarkedNodes}
use Rattle.pegnodes.proofs.DecidesLemmas.{verdict_lifted, plus_fails_by}
use Rattle.pegnodes.proofs.by_byte.over_plus.Goals as goal

each_star : (o : Decided) (r : Option Decided)
    → ((s : ℕ) → IfSome r (λ d. (g : MarkedNodes) (b n m : ℕ) → DecidesBelow g b m o → DecidesShape g b n (Plus m s) d))
    → IfSome r (λ d. (g : MarkedNodes) (b n m s : ℕ) → DecidesBelow g b m o → DecidesShape g b n (Plus m s) d)
each_star o None h = tt
each_star o (Some d) h = λ g b n m s. h s g b n m

pub returns-in-Fails : goal.returns-in-Fails
returns-in-Fails c = each_star c.args.operand c.summed.result (λ s.
    verdict_lifted (λ m. Plus m s) c.args.operand _ _ _ c.summed.result c.in-Fails.is refl (plus_fails_by s)
    c.summed.ensures)
