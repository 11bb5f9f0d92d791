-- Names that are one slip away from another one.
use Rattle.std.specs.Prelude.{◌≡◌, ℕ, ◌<◌, ◌≤◌, ◌-◌, nat_lt, Bool, true, false, List, [], ◌∷◌, ◌++◌, length, codes}
use Rattle.std.specs.Prelude.{slice_get, Option, Some, None, MatchOption}
use Rattle.std.specs.Str.{str_to_ascii_lowercase}
use Rattle.diagnostics.specs.ShownBytes.{cut}

-- the second list is the first, perhaps after one insertion, one deletion, one replacement, or one swap of neighbours
pub data WithinOneEdit : List ℕ → List ℕ → Type 0 where
  no_edit : {a : List ℕ} → WithinOneEdit a a
  inserted : (front rest : List ℕ) (b : ℕ) → WithinOneEdit (front ++ rest) (front ++ b ∷ rest)
  deleted : (front rest : List ℕ) (b : ℕ) → WithinOneEdit (front ++ b ∷ rest) (front ++ rest)
  replaced : (front rest : List ℕ) (b c : ℕ) → WithinOneEdit (front ++ b ∷ rest) (front ++ c ∷ rest)
  swapped : (front rest : List ℕ) (b c : ℕ) → WithinOneEdit (front ++ b ∷ c ∷ rest) (front ++ c ∷ b ∷ rest)

-- two names of three bytes or more are as near as that, if ASCII letters compare without case
pub record AreNear (a b : List ℕ) : Type 0 where
  pub long : 3 ≤ length a
  pub other_long : 3 ≤ length b
  pub edit : WithinOneEdit (str_to_ascii_lowercase a) (str_to_ascii_lowercase b)

module _ (name : List ℕ) (names : List (List ℕ)) where
  -- the first of some names that is near
  pub record IsFirstNear (found : List ℕ) : Type 0 where
    pub position : ℕ
    pub there : slice_get names position ≡ Some found
    pub near : AreNear name found
    pub first : (k : ℕ) (other : List ℕ) → k < position → slice_get names k ≡ Some other → AreNear name other → ⊥

  -- it, or none if none is near
  abbrev pub IsMeant : Option (List ℕ) → Type 0
  IsMeant found = MatchOption found ((k : ℕ) (other : List ℕ) → slice_get names k ≡ Some other → AreNear name other
      → ⊥) IsFirstNear

-- whether an id is among the first 16 after so many
abbrev pub is_before_limit : ℕ → Option ℕ → Bool
is_before_limit count None = false
is_before_limit count (Some id) = nat_lt (id - count) 16

-- the line of the rule that is meant
abbrev pub meant_line : List ℕ → List ℕ
meant_line rule = codes "  perhaps '" ++ (cut rule ++ codes "' is meant\n")

abbrev pub meant_reported : Option (List ℕ) → List ℕ
meant_reported None = []
meant_reported (Some rule) = meant_line rule

-- the line of the first of the rules with these names whose name is one slip away from a name, if that is early and
-- there is one
abbrev pub IsMeantIf : Bool → List (List ℕ) → List ℕ → List ℕ → Type 0
IsMeantIf false rules name line = line ≡ []
IsMeantIf true rules name line = (found : Option (List ℕ)) × IsMeant name rules found × (line ≡ meant_reported found)
