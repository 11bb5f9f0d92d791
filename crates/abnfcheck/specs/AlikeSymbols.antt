-- Symbols that no set of symbols in the bodies of rules distinguishes.
use Rattle.std.specs.Prelude.{◌≡◌, ◌↔◌, ℕ, ◌≤◌, List, slice_get, Some, Contains}
use Rattle.abnfcheck.specs.AbnfGrammar.{Reachable}
use Rattle.abnfcheck.specs.Derivable.{AtMost, StandsFor}
use Rattle.abnfread.specs.Element as e
use Rattle.abnfread.specs.Element.{Element, Elements, Rule, bodies, more, none}

-- no set in an element distinguishes two symbols: both may stand for a symbol of a text, or neither; both are a value,
-- or neither; and so for a range. A repetition with reversed bounds has no set.
abbrev mutual
  pub AreAlikeIn : ℕ → ℕ → Element → Type 0
  AreAlikeIn c d (e.Text folds text) = (t : ℕ) → Contains text t → StandsFor folds t c ↔ StandsFor folds t d
  AreAlikeIn c d (e.Values values) = (v : ℕ) → Contains values v → (c ≡ v) ↔ (d ≡ v)
  AreAlikeIn c d (e.Range low high) = ((low ≤ c) × (c ≤ high)) ↔ ((low ≤ d) × (d ≤ high))
  AreAlikeIn c d (e.Concat es) = AreAlikeInAll c d es
  AreAlikeIn c d (e.Alt es) = AreAlikeInAll c d es
  AreAlikeIn c d (e.Rep a b el) = AtMost a b → AreAlikeIn c d el
  AreAlikeIn c d (e.Opt el) = AreAlikeIn c d el
  AreAlikeIn c d (e.Name n) = Unit {0}
  AreAlikeIn c d (e.Prose text) = Unit {0}

  pub AreAlikeInAll : ℕ → ℕ → Elements → Type 0
  AreAlikeInAll c d none = Unit {0}
  AreAlikeInAll c d (more el es) = AreAlikeIn c d el × AreAlikeInAll c d es

-- nor in a body of the rules
abbrev pub AreAlikeInRules : List Rule → ℕ → ℕ → Type 0
AreAlikeInRules rules c d = (id : ℕ) (el : Element) → slice_get (bodies rules) id ≡ Some el → AreAlikeIn c d el

-- nor in a body of those that the judged one reaches
abbrev pub AreAlikeFor : List Rule → ℕ → ℕ → ℕ → Type 0
AreAlikeFor rules judged c d = (id : ℕ) (el : Element) → Reachable rules judged id
    → slice_get (bodies rules) id ≡ Some el → AreAlikeIn c d el
