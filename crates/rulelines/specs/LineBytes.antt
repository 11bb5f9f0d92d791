-- The bytes of a line of symbols.
use Rattle.std.specs.Prelude.{ℕ, List, [], ◌∷◌, if◌then◌else◌}
use Rattle.std.specs.Char.{encode_utf8}
use Rattle.std.specs.List.{flat_map}
use Rattle.ruletable.specs.Letters.{has}
use Rattle.ruletable.specs.declared.alphabet.Alphabet.{Alphabet}
use Rattle.ruletable.specs.declared.alphabet.Alphabet.TheVariants.{Bytes, Utf8}

-- the bytes of a symbol: a byte, or a code point in UTF-8 (RFC 3629, section 3); other numbers have none
abbrev pub symbol_bytes : Alphabet → ℕ → List ℕ
symbol_bytes Bytes c = if has Bytes c then c ∷ [] else []
symbol_bytes Utf8 c = if has Utf8 c then encode_utf8 c else []

-- the bytes of all symbols, one after another
abbrev pub line_bytes : Alphabet → List ℕ → List ℕ
line_bytes alphabet line = flat_map (symbol_bytes alphabet) line
