-- A flat grammar that answers for a rule: which lines the rule derives, and which prefixes of lines are viable.
use Rattle.std.specs.Prelude.{ℕ, ◌<◌, ◌≤◌, ◌↔◌, Bool, List, length}
use Rattle.abnfread.specs.Element.{Rule}
use Rattle.abnfcheck.specs.Prefixes.{BeginsMember}
use Rattle.abnfcheck.specs.Derivable.{AreLetters, RuleDerives}
use Rattle.flatgrammar.specs.Flat.{Flat}
use Rattle.flatgrammar.specs.FlatVerdicts.{DerivesLine}
use Rattle.flatgrammar.specs.Holds.{HasItem}

-- On lines within the limit: the flat grammar derives a line exactly if the rule does; and the set after the first n
-- symbols of a line, one or more, has an item exactly if they are a viable prefix.
pub record GivesPrefixes (has : ℕ → Bool) (rules : List Rule) (id : ℕ) (flat : Flat) : Type 0 where
  pub lines : (x : List ℕ) → length x ≤ flat.limit → AreLetters has x → DerivesLine flat x
      ↔ RuleDerives has rules id x
  pub viable : (x : List ℕ) (n : ℕ) → length x ≤ flat.limit → AreLetters has x → 0 < n → n ≤ length x → HasItem flat x n
      ↔ BeginsMember has rules id x n
