-- Elements that derive the empty list, whatever the symbols.
use Rattle.std.specs.Prelude.{◌≡◌, ◌↔◌, ℕ, Bool, true, false, List, [], length, slice_get, Some}
use Rattle.abnfread.specs.Element.{Element, Elements, Rule}
use Rattle.abnfcheck.specs.Derivable.{Derives, DerivesAll, DerivesSome, RuleDerives}

module _ (rules : List Rule) where
  abbrev pub IsEmpty : Element → Type 0
  IsEmpty el = (has : ℕ → Bool) → Derives has rules el []

  abbrev pub IsNeverEmpty : Element → Type 0
  IsNeverEmpty el = (has : ℕ → Bool) → Derives has rules el [] → ⊥

  -- a mark is true exactly if the element derives the empty list
  pub record Settles (mark : Bool) (el : Element) : Type 0 where
    pub yes : mark ≡ true → IsEmpty el
    pub no : mark ≡ false → IsNeverEmpty el

  -- .. if all members do, or one of them
  pub record SettlesAll (mark : Bool) (es : Elements) : Type 0 where
    pub yes : mark ≡ true → (has : ℕ → Bool) → DerivesAll has rules es []
    pub no : mark ≡ false → (has : ℕ → Bool) → DerivesAll has rules es [] → ⊥

  pub record SettlesSome (mark : Bool) (es : Elements) : Type 0 where
    pub yes : mark ≡ true → (has : ℕ → Bool) → DerivesSome has rules es []
    pub no : mark ≡ false → (has : ℕ → Bool) → DerivesSome has rules es [] → ⊥

-- of each rule a mark that is true exactly if it derives the empty list
pub record AreNullRules (rules : List Rule) (marks : List Bool) : Type 0 where
  pub count : length marks ≡ length rules
  pub each : (id : ℕ) (mark : Bool) → slice_get marks id ≡ Some mark → (has : ℕ → Bool) → (mark ≡ true)
      ↔ RuleDerives has rules id []

-- as many rules, of which the same derive the empty list
pub record AreNullAlike (rules others : List Rule) : Type 0 where
  pub count : length others ≡ length rules
  pub alike : (has : ℕ → Bool) (id : ℕ) → RuleDerives has others id [] ↔ RuleDerives has rules id []
