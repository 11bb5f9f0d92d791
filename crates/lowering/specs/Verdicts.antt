-- The verdict of a rule on a line.
use Rattle.std.specs.Prelude.{ℕ, Bool, List}
use Rattle.abnfread.specs.Element.{Rule}
use Rattle.abnfcheck.specs.Prefixes.{IsFurthest}
use Rattle.abnfcheck.specs.Derivable.{RuleDerives}
use Rattle.flatgrammar.specs.declared.verdict.Verdict.{Verdict}
use Rattle.flatgrammar.specs.declared.verdict.Verdict.TheVariants.{Yes, No}

-- yes: the rule derives the line; no: it does not, and the longest viable prefix has n symbols
abbrev pub IsVerdict : (ℕ → Bool) → List Rule → ℕ → List ℕ → Verdict → Type 0
IsVerdict has rules id x Yes = RuleDerives has rules id x
IsVerdict has rules id x (No n) = (RuleDerives has rules id x → ⊥) × IsFurthest has rules id x n
