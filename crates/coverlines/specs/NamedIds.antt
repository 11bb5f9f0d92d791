-- The rules that elements name.
use Rattle.std.specs.Prelude.{◌≡◌, ◌↔◌, ◌⊎◌, ℕ, ◌<◌, List, length, slice_get, Contains, Some}
use Rattle.fixpoint.specs.StepRows.{row_at}
use Rattle.abnfread.specs.Element.{Element, Elements, Name, Rule, bodies, id_of}
use Rattle.abnfcheck.specs.AbnfGrammar.{Within, WithinSome}

module _ (rules : List Rule) where
  -- the rule with that id has a name that stands in an element
  pub record HasNameOf (e : Element) (id : ℕ) : Type 0 where
    pub name : List ℕ
    pub within : Within e (Name name)
    pub is : id ≡ id_of rules name
    pub below : id < length rules

  -- .. in one of some elements
  pub record SomeHasNameOf (es : Elements) (id : ℕ) : Type 0 where
    pub name : List ℕ
    pub within : WithinSome es (Name name)
    pub is : id ≡ id_of rules name
    pub below : id < length rules

  -- of each rule the ids of the rules that its body names
  pub record AreNamedRows (rows : List (List ℕ)) : Type 0 where
    pub count : length rows ≡ length rules
    pub each : (id : ℕ) (body : Element) → slice_get (bodies rules) id ≡ Some body → (m : ℕ)
        → (Contains (row_at rows id) m ↔ HasNameOf body m)

-- some numbers were added
abbrev pub AddsNamed : (ℕ → Type 0) → List ℕ → List ℕ → Type 0
AddsNamed these old new = (id : ℕ) → (Contains new id ↔ (Contains old id ⊎ these id))
