-- The lines that one rule alone derives, and their order.
use Rattle.std.specs.Prelude.{◌≡◌, ◌⊎◌, ℕ, ◌+◌, ◌<◌, ◌≤◌, Bool, ◌&&◌, List, ◌∷◌, length, if◌then◌else◌, leb, eqb}
use Rattle.abnfread.specs.Element.{Rule}
use Rattle.abnfcheck.specs.Derivable.{AreLetters, RuleDerives}

-- the old rule derives a list of symbols, and the new one does not
pub record IsOfOldAlone (has : ℕ → Bool) (old_rules : List Rule) (old_rule : ℕ) (new_rules : List Rule)
    (new_rule : ℕ) (w : List ℕ) : Type 0 where
  pub symbols : AreLetters has w
  pub derives : RuleDerives has old_rules old_rule w
  pub not_new : RuleDerives has new_rules new_rule w → ⊥

-- %x21-7E come first, then the space, then others by number
abbrev pub sort_key : ℕ → ℕ
sort_key c = if leb 33 c && leb c 126 then c else (if eqb c 32 then 127 else 128 + c)

-- in the shortlex order, u is before v: it is shorter, or as long and before it by the first symbol that differs
pub data IsShortlexBefore : List ℕ → List ℕ → Type 0 where
  shorter : {u v : List ℕ} → length u < length v → IsShortlexBefore u v
  symbol : {c d : ℕ} {u v : List ℕ} → length u ≡ length v → sort_key c < sort_key d
      → IsShortlexBefore (c ∷ u) (d ∷ v)
  later : {c : ℕ} {u v : List ℕ} → IsShortlexBefore u v → IsShortlexBefore (c ∷ u) (c ∷ v)

-- it is v, or before it
abbrev pub ComesFirst : List ℕ → List ℕ → Type 0
ComesFirst u v = (u ≡ v) ⊎ IsShortlexBefore u v

-- the first of some lines
abbrev pub IsFirstLine : (List ℕ → Type 0) → List ℕ → Type 0
IsFirstLine lines w = lines w × ((v : List ℕ) → lines v → ComesFirst w v)

-- there is none
abbrev pub HasNoLine : (List ℕ → Type 0) → Type 0
HasNoLine lines = (w : List ℕ) → lines w → ⊥

-- there is none of at most n symbols
abbrev pub HasNoLineUpTo : (List ℕ → Type 0) → ℕ → Type 0
HasNoLineUpTo lines n = (w : List ℕ) → length w ≤ n → lines w → ⊥
