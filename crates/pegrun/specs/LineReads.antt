-- What is read before a unit that is run at a line feed.
use Rattle.std.specs.Prelude.{◌≡◌, ◌≢◌, ℕ, suc, ◌+◌, ◌<◌, ◌≤◌, List, [], ◌∷◌, ◌++◌, length, drop}
use Prim.Native.Char.{code}
use Rattle.std.specs.List.{All}
use Rattle.gramcheck.specs.Grammar.{Grammar}
use Rattle.gramcheck.specs.Outcome.{Outcome}
use Rattle.pegmatch.specs.Answers.{StartGives}

-- none of these bytes is a line feed
abbrev pub HasNoLf : List ℕ → Type 0
HasNoLf bytes = All (λ b. b ≢ code "\n") bytes

-- the start rule compares a byte that follows these, whatever that is
abbrev pub LooksPast : Grammar → List ℕ → Type 0
LooksPast g bytes = (o : Outcome) × StartGives g (bytes ++ 0 ∷ []) o (suc (length bytes))

-- A unit waits where this is held: no line feed is there, or only before the end of bytes past which the unit looks.
pub record MustWait (g : Grammar) (held : List ℕ) : Type 0 where
  pub tried : List ℕ
  pub rest : List ℕ
  pub bytes : held ≡ tried ++ rest
  pub no_line : HasNoLf rest
  pub looks : 0 < length tried → LooksPast g tried

-- How the bytes that are held grow, read by read, until a line feed stands at or after a position.
pub data ReadsToLine (from : ℕ) (first : List ℕ) : ℕ → List ℕ → Type 0 where
  no_read : ReadsToLine from first 0 first
  one_read : (n : ℕ) (held more : List ℕ) → ReadsToLine from first n held → HasNoLf (drop from held)
      → length more ≤ 4096 → ReadsToLine from first (suc n) (held ++ more)

-- so many reads of a unit wait for a line feed each
abbrev pub line_reads : ℕ
line_reads = 63

-- How the bytes that are held grow, read by read, where units are run at line feeds. Before each of the first reads the
-- unit must wait: else it is run, and nothing is read. Each of them gives at most 4096 bytes.
pub data ReadsForUnit (g : Grammar) (first : List ℕ) : ℕ → List ℕ → Type 0 where
  no_read : ReadsForUnit g first 0 first
  one_read : (n : ℕ) (held more : List ℕ) → ReadsForUnit g first n held
      → (n < line_reads → MustWait g held × (length more ≤ 4096)) → ReadsForUnit g first (suc n) (held ++ more)
