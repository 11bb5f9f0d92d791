-- What a text, a literal and a class spell: at most one thing, and always something.
use Rattle.std.specs.Prelude.{◌≡◌, ℕ, Bool, List, ◌⊎◌}
use Rattle.pegread.specs.Chars.{Char, SpellsNone}
use Rattle.pegread.specs.Literals.{IsLiteral, SpellsBytes}
use Rattle.pegread.specs.Classes.{IsClass, SpellsSet}

-- the front of a text spells at most one byte, in one way
abbrev pub OneChar : Type 0
OneChar = (t r s : List ℕ) (b c : ℕ) → Char t r b → Char t s c → (r ≡ s) × (b ≡ c)

-- it spells one unless the text is empty or a backslash alone
abbrev pub SomeChar : Type 0
SomeChar = (t : List ℕ) → SpellsNone t ⊎ ((r : List ℕ) × (b : ℕ) × Char t r b)

-- and none if it is
abbrev pub NoChar : Type 0
NoChar = (t r : List ℕ) (b : ℕ) → Char t r b → SpellsNone t → ⊥

-- a slice spells at most one list of bytes
abbrev pub OneLiteral : Type 0
OneLiteral = (slice bs cs : List ℕ) → SpellsBytes slice bs → SpellsBytes slice cs → bs ≡ cs

-- a literal spells some
abbrev pub SomeLiteral : Type 0
SomeLiteral = (slice : List ℕ) → IsLiteral slice → (bs : List ℕ) × SpellsBytes slice bs

-- a slice spells at most one set
abbrev pub OneClass : Type 0
OneClass = (slice : List ℕ) (f g : ℕ → Bool) → SpellsSet slice f → SpellsSet slice g → f ≡ g

-- a class spells one
abbrev pub SomeClass : Type 0
SomeClass = (slice : List ℕ) → IsClass slice → (f : ℕ → Bool) × SpellsSet slice f
