-- Letters, each a number.
use Rattle.std.specs.Prelude.{◌≡◌, ◌⊎◌, ℕ, ◌+◌, ◌<◌, ◌≤◌, Bool, true, ◌&&◌, ◌||◌, ltb, leb, if◌then◌else◌}
use Rattle.ruletable.specs.declared.alphabet.Alphabet.{Alphabet}
use Rattle.ruletable.specs.declared.alphabet.Alphabet.TheVariants.{Bytes, Utf8}

-- a code point that is no surrogate (RFC 3629, section 3)
abbrev pub IsPoint : ℕ → Type 0
IsPoint c = (c < 0xD800) ⊎ ((0xE000 ≤ c) × (c < 0x110000))

-- whether a value is that of a letter
abbrev pub has : Alphabet → ℕ → Bool
has Bytes value = ltb value 256
has Utf8 value = ltb value 0xD800 || (leb 0xE000 value && ltb value 0x110000)

-- a value from low to high is that of a letter
pub record HasLetter (has : ℕ → Bool) (low high : ℕ) : Type 0 where
  pub letter : ℕ
  pub from : low ≤ letter
  pub to : letter ≤ high
  pub is : has letter ≡ true

-- a letter from A to Z as that from a to z, any other as it is
abbrev pub small : ℕ → ℕ
small c = if ltb 64 c && ltb c 91 then c + 32 else c
