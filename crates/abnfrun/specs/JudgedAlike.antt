-- Grammars that derive the same lines, and flat grammars that judge lines alike.
use Rattle.std.specs.Prelude.{◌≡◌, ℕ, ◌<◌, ◌≤◌, ◌↔◌, Bool, true, List, length}
use Rattle.abnfread.specs.AbnfViews.{rules_of}
use Rattle.abnfcheck.specs.AbnfGrammar.{Grammar}
use Rattle.abnfcheck.specs.Derivable.{AreLetters, RuleDerives}
use Rattle.flatgrammar.specs.Flat.{Flat}
use Rattle.flatgrammar.specs.FlatVerdicts.{DerivesLine}
use Rattle.flatgrammar.specs.Holds.{HasItem}

-- the judged rules derive the same lines, over each alphabet
abbrev pub DeriveAlike : Grammar → Grammar → Type 0
DeriveAlike g other = (has : ℕ → Bool) (w : List ℕ) → RuleDerives has (rules_of other.rules) other.judged w
    ↔ RuleDerives has (rules_of g.rules) g.judged w

-- On lines within the limit of the first: both derive the same. Where the longest viable prefix is asked for, the sets
-- after one symbol or more have an item in both or in neither.
pub record AreJudgedAlike (has : ℕ → Bool) (viable : Bool) (flat other : Flat) : Type 0 where
  pub lines : (x : List ℕ) → length x ≤ flat.limit → AreLetters has x → DerivesLine other x ↔ DerivesLine flat x
  pub prefixes : viable ≡ true → (x : List ℕ) (n : ℕ) → length x ≤ flat.limit → AreLetters has x → 0 < n
      → n ≤ length x → HasItem other x n ↔ HasItem flat x n
