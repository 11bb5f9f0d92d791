-- Lines of bytes as UTF-8 (RFC 3629, section 3).
use Rattle.std.specs.Prelude.{◌≡◌, ℕ, ◌+◌, ◌*◌, ◌<◌, ◌≤◌, List, [], ◌∷◌, ◌++◌, map, take, length}
use Rattle.ruletable.specs.declared.point.CodePoint.{CodePoint}
use Rattle.ruletable.specs.Letters.{IsPoint}

-- the number of a code point
abbrev pub number : CodePoint → ℕ
number c = c.point

abbrev pub numbers : List CodePoint → List ℕ
numbers points = map number points

-- The bytes of a number: the four rows of the table, each with its range of numbers. The bits of the number stand in
-- the bytes, the high ones first, six in each byte but the first.
pub data Writes : ℕ → List ℕ → Type 0 where
  one : {c : ℕ} → c < 0x80 → Writes c (c ∷ [])
  two : {c : ℕ} (a b : ℕ) → c ≡ a * 64 + b → b < 64 → 0x80 ≤ c → c < 0x800 → Writes c ((0xC0 + a) ∷ (0x80 + b) ∷ [])
  three : {c : ℕ} (a b d : ℕ) → c ≡ (a * 64 + b) * 64 + d → b < 64 → d < 64 → 0x800 ≤ c → c < 0x10000
      → Writes c ((0xE0 + a) ∷ (0x80 + b) ∷ (0x80 + d) ∷ [])
  four : {c : ℕ} (a b d e : ℕ) → c ≡ ((a * 64 + b) * 64 + d) * 64 + e → b < 64 → d < 64 → e < 64 → 0x10000 ≤ c
      → c < 0x110000 →
      Writes c ((0xF0 + a) ∷ (0x80 + b) ∷ (0x80 + d) ∷ (0x80 + e) ∷ [])

-- code points, and their bytes one after another
pub data Spells : List ℕ → List ℕ → Type 0 where
  end : Spells [] []
  next : {c : ℕ} {cs bytes rest : List ℕ} → IsPoint c → Writes c bytes → Spells cs rest
      → Spells (c ∷ cs) (bytes ++ rest)

-- the line is UTF-8
pub record IsText (line : List ℕ) : Type 0 where
  pub points : List ℕ
  pub spelled : Spells points line

-- the line's first n bytes are its longest prefix that is UTF-8
pub record IsLongestText (line : List ℕ) (n : ℕ) : Type 0 where
  pub within : n ≤ length line
  pub text : IsText (take n line)
  pub longest : (m : ℕ) → n < m → m ≤ length line → IsText (take m line) → ⊥
