-- What is laid into a buffer.
use Rattle.std.specs.Prelude.{◌≡◌, ℕ, List, ◌++◌, length, take, drop}

-- a text over the front of a buffer, as much of it as there is room for
abbrev pub laid : List ℕ → List ℕ → List ℕ
laid text room = take (length room) text ++ drop (length text) room

-- a buffer before and after, and how many bytes the whole text has
pub record Filled : Type 0 where
  pub old : List ℕ
  pub new : List ℕ
  pub len : ℕ

-- as much of the text as there is room for was laid into the buffer
abbrev pub IsLaid : List ℕ → Filled → Type 0
IsLaid text buffer = (buffer.new ≡ laid text buffer.old) × (buffer.len ≡ length text)

-- the buffer is as it was, and there is no text
abbrev pub IsUntouched : Filled → Type 0
IsUntouched buffer = (buffer.new ≡ buffer.old) × (buffer.len ≡ 0)
