-- Texts in UTF-16, and code points that look like characters of ASCII.
use Rattle.std.specs.Prelude.{ℕ, ◌/◌, ◌%◌, ◌==◌, ◌&&◌, ◌||◌, Bool, false, List, [], ◌∷◌, ◌++◌, map, codes, encode_utf8}
use Rattle.diagnostics.specs.FirstBytes.{Row, row}
use Rattle.diagnostics.specs.ShownBytes.{hex_digit}

-- The text is in UTF-16, not in UTF-8: it begins with a byte order mark of UTF-16 (RFC 2781, section 3.2), or one of
-- its first two bytes is 0.
abbrev pub in_utf16 : List ℕ → Bool
in_utf16 [] = false
in_utf16 (a ∷ []) = a == 0
in_utf16 (a ∷ b ∷ bs) =
    (((a == 0xFF) && (b == 0xFE)) || ((a == 0xFE) && (b == 0xFF))) || ((a == 0) || (b == 0))

-- a code point below 65536 in four hexadecimal digits
abbrev pub point_name : ℕ → List ℕ
point_name c = codes "U+" ++ (hex_digit (c / 4096) ∷ hex_digit ((c / 256) % 16) ∷ hex_digit ((c / 16) % 16)
    ∷ hex_digit (c % 16) ∷ [])

-- its row
abbrev pub point_row : List ℕ → ℕ → Row
point_row words c = row (encode_utf8 c) (point_name c ++ words)

-- curly quotes, with what is written in their place
abbrev pub quote_rows : List ℕ → List Row
quote_rows words = map (point_row (codes " is a curly quote: " ++ words))
    (0x2018 ∷ 0x2019 ∷ 0x201A ∷ 0x201B ∷ 0x201C ∷ 0x201D ∷ 0x201E ∷ 0x201F ∷ [])

-- dashes, white space and byte order marks that word processors write
abbrev pub point_rows : List Row
point_rows =
    map (point_row (codes " is a dash: write \"-\""))
    (0x2010 ∷ 0x2011 ∷ 0x2012 ∷ 0x2013 ∷ 0x2014 ∷ 0x2015 ∷ 0x2212 ∷ [])
    ++ (map (point_row (codes " is no white space: write a space"))
    (0xA0 ∷ 0x2000 ∷ 0x2001 ∷ 0x2002 ∷ 0x2003 ∷ 0x2004 ∷ 0x2005 ∷ 0x2006 ∷ 0x2007 ∷ 0x2008 ∷ 0x2009 ∷ 0x200A
    ∷ 0x200B ∷ 0x202F ∷ 0x3000 ∷ [])
    ++ map (point_row (codes " is a byte order mark: a grammar has none")) (0xFEFF ∷ []))
