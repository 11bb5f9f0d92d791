-- How tokens and white space make up a text.
use Rattle.std.specs.Prelude.{◌≡◌, ℕ, ◌-◌, ◌≤◌, ◌⊎◌, List, [], ◌∷◌, ◌++◌, length, take, drop}
use Rattle.lexer.specs.SliceEnds.{Longest, NoToken}
use Rattle.lexer.specs.TokenLists.{Tok, kind_of, slice_of, start_of, end_of}

-- The text is white space and the first token's slice, white space and the second token's slice, and so on; the last
-- slice is empty, and ends it.
pub data MakeUp {K : Type 0} (White : List ℕ → List ℕ → Type 0) : List (Tok K) → List ℕ → Type 0 where
  made_last : {x : Tok K} {t : List ℕ} → White t [] → slice_of x ≡ [] → MakeUp White (x ∷ []) t
  made_more : {x : Tok K} {ts : List (Tok K)} {t w m : List ℕ} → t ≡ w ++ (slice_of x ++ m) → White w []
      → MakeUp White ts m → MakeUp White (x ∷ ts) t

-- the token's slice is the text's part from the start of its span up to the end
pub record LiesIn {K : Type 0} (text : List ℕ) (x : Tok K) : Type 0 where
  pub rises : start_of x ≤ end_of x
  pub within : end_of x ≤ length text
  pub slice : slice_of x ≡ take (end_of x - start_of x) (drop (start_of x) text)

-- each token starts where the one before ends or later, the first one at n or later
abbrev pub AreInOrder : {K : Type 0} → ℕ → List (Tok K) → Type 0
AreInOrder n [] = Unit {0}
AreInOrder n (x ∷ ts) = (n ≤ start_of x) × AreInOrder (end_of x) ts

-- the token is the longest that begins where its span starts, or none begins there
abbrev pub IsLongest : {K : Type 0} → (K → List ℕ → List ℕ → Type 0) → List ℕ → Tok K → Type 0
IsLongest Stands text x =
    Longest Stands (kind_of x) (drop (start_of x) text) (drop (end_of x) text) ⊎ NoToken Stands (drop (start_of x) text)
