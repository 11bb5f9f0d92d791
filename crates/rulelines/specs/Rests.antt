-- Rests of lines: the symbols that lead from a state to the end.
use Rattle.std.specs.Prelude.{◌≡◌, ℕ, ◌+◌, ◌<◌, ◌≤◌, Bool, true, List, [], ◌∷◌, length, Contains}
use Rattle.std.specs.Prelude.{Option, None, Some}
use Rattle.abnfcheck.specs.Derivable.{AreLetters}
use Rattle.flatgrammar.specs.Flat.{Flat, Dot}
use Rattle.flatgrammar.specs.Stacks.{Led, LedToEnd, ReadBy}
use Rattle.lazydfa.specs.StateSets.{StateSet}
use Rattle.rulelines.specs.FirstLines.{ComesFirst, IsShortlexBefore, sort_key}

module _ (flat : Flat) (last : Dot → Bool) where
  -- stacks lead to the end by moves and these symbols
  abbrev pub LeadToEnd : (List Dot → Type 0) → List ℕ → Type 0
  LeadToEnd from [] = LedToEnd flat last from
  LeadToEnd from (c ∷ w) = LeadToEnd (ReadBy flat last (Led flat last from) c) w

  -- a state takes these symbols to the end
  abbrev pub Takes : StateSet → List ℕ → Type 0
  Takes s [] = s.ended ≡ true
  Takes s (c ∷ w) = LeadToEnd (ReadBy flat last (Contains s.stacks) c) w

  module _ (has : ℕ → Bool) where
    -- so many symbols, which the state takes
    pub record IsRest (s : StateSet) (k : ℕ) (w : List ℕ) : Type 0 where
      pub symbols : AreLetters has w
      pub count : length w ≡ k
      pub takes : Takes s w

    abbrev pub HasRest : StateSet → ℕ → Type 0
    HasRest s k = (w : List ℕ) × IsRest s k w

    -- it takes the symbol of a key, and k more
    pub record TakesKey (s : StateSet) (key k : ℕ) : Type 0 where
      pub symbol : ℕ
      pub is : sort_key symbol ≡ key
      pub more : List ℕ
      pub rest : IsRest s (k + 1) (symbol ∷ more)

    -- the first key from a number on that it takes
    abbrev pub IsFirstKey : StateSet → ℕ → ℕ → Option ℕ → Type 0
    IsFirstKey s from k None = (j : ℕ) → from ≤ j → TakesKey s j k → ⊥
    IsFirstKey s from k (Some key) = (from ≤ key) × TakesKey s key k
        × ((j : ℕ) → from ≤ j → j < key → TakesKey s j k → ⊥)

    -- of its rests of so many symbols, the first
    pub record IsFirstRest (s : StateSet) (k : ℕ) (u : List ℕ) : Type 0 where
      pub is : IsRest s k u
      pub first : (v : List ℕ) → IsRest s k v → ComesFirst u v

    -- .. after another list, and as long
    pub record IsNextRest (s : StateSet) (line u : List ℕ) : Type 0 where
      pub is : IsRest s (length line) u
      pub later : IsShortlexBefore line u
      pub first : (v : List ℕ) → IsRest s (length line) v → IsShortlexBefore line v → ComesFirst u v

    abbrev pub HasNoNextRest : StateSet → List ℕ → Type 0
    HasNoNextRest s line = (v : List ℕ) → IsRest s (length line) v → IsShortlexBefore line v → ⊥
