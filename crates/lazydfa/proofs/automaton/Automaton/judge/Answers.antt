use Rattle.std.proofs.Common.{◌≡◌, ◌↔◌, ℕ, List, refl}
use Rattle.flatgrammar.specs.Flat.{Flat}
use Rattle.flatgrammar.specs.FlatVerdicts.{DerivesLine, IsFlatVerdict}
use Rattle.flatgrammar.specs.declared.verdict.Verdict.{Verdict}
use Rattle.flatgrammar.specs.declared.verdict.Verdict.TheVariants.{Yes, No}

yes_derives : (flat : Flat) (x : List ℕ) (verdict : Verdict) → IsFlatVerdict flat x verdict
    → (verdict ≡ Yes) ↔ DerivesLine flat x
yes_derives flat x Yes derives = (λ _. derives, λ _. refl)
yes_derives flat x (No n) is = (λ yes. cc yes, λ derives. absurd (is.0 derives))
