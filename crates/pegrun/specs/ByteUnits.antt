-- Units whose result depends on their first byte alone.
use Rattle.std.specs.Prelude.{◌≡◌, ℕ, ◌≤◌, Bool, List, [], ◌∷◌, Option, Some, None, slice_get, is_some}
use Rattle.std.specs.Prelude.{unwrap_or}
use Rattle.std.specs.List.{flat_map}
use Rattle.gramcheck.specs.Grammar.{Grammar}
use Rattle.gramcheck.specs.Outcome.{Takes, Event}
use Rattle.pegmatch.specs.Answers.{StartGives}
use Rattle.pegmatch.specs.Text.{text_of}
use Rattle.pegmatch.specs.declared.style.PrintStyle.{PrintStyle}
use Rattle.pegrun.specs.declared.byte_units.ByteUnits.{ByteUnits}
use Rattle.pegrun.specs.declared.byte_units.ByteUnit.{ByteUnit}
use Rattle.pegrun.specs.declared.byte_units.ByteUnit.TheVariants.{Open, Other, Prints}

-- On each input that begins with that byte, the start rule takes that byte, compares no other, and prints this text.
abbrev pub IsByteUnit : Grammar → PrintStyle → ℕ → List ℕ → Type 0
IsByteUnit g style b text = (rest : List ℕ) → (events : List Event) × (looked : ℕ)
    × StartGives g (b ∷ rest) (Takes 1 events) looked × (looked ≤ 1) × (text ≡ text_of style (b ∷ rest) events)

-- the text of an entry, if it has one
abbrev pub known_text : Option ByteUnit → Option (List ℕ)
known_text None = None
known_text (Some Open) = None
known_text (Some Other) = None
known_text (Some (Prints text)) = Some text.items

-- the text that the table has for a byte
abbrev pub text_by : ByteUnits → ℕ → Option (List ℕ)
text_by units b = known_text (slice_get units.known.items b)

-- each text of the table is that of a unit whose result depends on that byte alone
abbrev pub AreByteUnits : Grammar → PrintStyle → ByteUnits → Type 0
AreByteUnits g style units = (b : ℕ) (text : List ℕ) → text_by units b ≡ Some text → IsByteUnit g style b text

-- whether the table has a text for a byte
abbrev pub is_known : ByteUnits → ℕ → Bool
is_known units b = is_some (text_by units b)

-- the texts of these bytes, concatenated
abbrev pub texts_of : ByteUnits → List ℕ → List ℕ
texts_of units bytes = flat_map (λ b. unwrap_or (text_by units b) []) bytes

-- both tables have the same texts
abbrev pub SameTexts : ByteUnits → ByteUnits → Type 0
SameTexts old new = (b : ℕ) → text_by new b ≡ text_by old b
