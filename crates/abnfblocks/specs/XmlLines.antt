-- The text that is read of an XML text, line by line.
use Prim.Native.Char.{code}
use Rattle.std.specs.Prelude.{◌≡◌, ℕ, ◌==◌, ◌||◌, ◌&&◌, not, Bool, List, [], ◌∷◌, ◌++◌, if◌then◌else◌}
use Rattle.std.specs.List.{filter, flat_map, list_all, list_any}
use Rattle.rfcforms.specs.XmlPieces.{MarksPieces}
use Rattle.rfcforms.specs.declared.xml.region.Region.TheVariants.{Outside}
use Rattle.abnfblocks.specs.LineKinds.{is_blank}
use Rattle.abnfblocks.specs.TextLines.{line_parts}

-- a blank, CR, or the mark of a byte that belongs to no contents
abbrev pub is_void : ℕ → Bool
is_void b = is_blank b || (b == code "\r") || (b == 1)

-- other bytes than contents stand in the line, and its contents are blank
abbrev pub void_part : List ℕ → Bool
void_part part = list_any (λ b. b == 1) part && list_all is_void part

-- what is read of a line, with LF: `<`, or its contents
abbrev pub shown_part : List ℕ → List ℕ
shown_part part = (if void_part part then code "<" ∷ [] else filter (λ b. not (b == 1)) part) ++ code "\n" ∷ []

-- the text that is read of an XML text
abbrev pub HoldsXml : List ℕ → List ℕ → Type 0
HoldsXml text shown = (marked : List ℕ) × MarksPieces Outside text marked
    × (shown ≡ flat_map shown_part (line_parts marked))
