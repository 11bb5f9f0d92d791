-- Where a token of a kind ends (RFC 5234, section 4; RFC 7405): each relation holds of a text and of what follows the
-- part that begins it.
use Prim.Native.Char.{code}
use Rattle.std.specs.Prelude.{◌≡◌, ℕ, ◌||◌, ◌&&◌, ◌==◌, nat_le, not, Bool, true, false, List, [], ◌∷◌}
use Rattle.std.specs.Char.{is_ascii_alphabetic, is_ascii_alphanumeric}
use Rattle.lexer.specs.SliceEnds as cuts
use Rattle.abnfread.specs.declared.kind.AbnfKind.{AbnfKind}
use Rattle.abnfread.specs.declared.kind.AbnfKind.TheVariants.{Name, Is, Adds, Slash, LParen, RParen, LBrack, RBrack}
use Rattle.abnfread.specs.declared.kind.AbnfKind.TheVariants.{Repeat, Text, Num, Prose, Bad, End}
use Rattle.abnfread.specs.BaseDigits.{is_digit, NamesBase}

-- letters, digits and `-`
abbrev pub continues_name : ℕ → Bool
continues_name b = is_ascii_alphanumeric b || (b == code "-")

-- what may stand in quotes, %x20-21 and %x23-7E, and what in angle brackets, %x20-3D and %x3F-7E
abbrev pub is_quotable : ℕ → Bool
is_quotable b = nat_le (code " ") b && nat_le b (code "~") && not (b == code "\"")

abbrev pub is_prose : ℕ → Bool
is_prose b = nat_le (code " ") b && nat_le b (code "~") && not (b == code ">")

-- the letter, of either case, that says whether a text's case counts: `s` or `i`
abbrev pub is_case : ℕ → Bool
is_case c = (c == code "s") || (c == code "S") || (c == code "i") || (c == code "I")

-- space, tab and LF
abbrev pub is_blank : ℕ → Bool
is_blank b = (b == code " ") || (b == code "\t") || (b == code "\n")

-- all but LF
abbrev pub is_inside : ℕ → Bool
is_inside b = not (b == code "\n")

-- bytes that pass, any number of them
pub data Run (f : ℕ → Bool) : List ℕ → List ℕ → Type 0 where
  none : {r : List ℕ} → Run f r r
  more : {b : ℕ} {bs r : List ℕ} → f b ≡ true → Run f bs r → Run f (b ∷ bs) r

-- the text begins with no byte that passes
abbrev pub Stops : (ℕ → Bool) → List ℕ → Type 0
Stops f [] = Unit {0}
Stops f (b ∷ bs) = f b ≡ false

-- one digit of the base, and further ones
pub data Digits (base : ℕ) : List ℕ → List ℕ → Type 0 where
  digits : {b : ℕ} {bs r : List ℕ} → is_digit base b ≡ true → Run (is_digit base) bs r → Digits base (b ∷ bs) r

-- a dot and digits, any number of times
pub data Dotted (base : ℕ) : List ℕ → List ℕ → Type 0 where
  no_dot : {r : List ℕ} → Dotted base r r
  dot : {bs m r : List ℕ} → Digits base bs m → Dotted base m r → Dotted base (code "." ∷ bs) r

-- numbers of the base, one and any number of others with dots between, or two with `-` between
pub data Numbers (base : ℕ) : List ℕ → List ℕ → Type 0 where
  values : {bs m r : List ℕ} → Digits base bs m → Dotted base m r → Numbers base bs r
  range : {bs m r : List ℕ} → Digits base bs (code "-" ∷ m) → Digits base m r → Numbers base bs r

-- digits, or digits on both sides of a star, as many as one likes
pub data Count : List ℕ → List ℕ → Type 0 where
  exactly : {bs r : List ℕ} → Run (is_digit 10) bs r → Count bs r
  at_least : {bs m r : List ℕ} → Run (is_digit 10) bs (code "*" ∷ m) → Run (is_digit 10) m r → Count bs r

-- a piece of white space: a blank, CR LF, or a comment, which ends before LF or at the end of the text
pub data Piece : List ℕ → List ℕ → Type 0 where
  blank : {b : ℕ} {r : List ℕ} → is_blank b ≡ true → Piece (b ∷ r) r
  crlf : {r : List ℕ} → Piece (code "\r" ∷ code "\n" ∷ r) r
  comment : {bs r : List ℕ} → Run is_inside bs r → Stops is_inside r → Piece (code ";" ∷ bs) r

abbrev pub White : List ℕ → List ℕ → Type 0
White = cuts.White Piece

-- A token of the kind begins the text, and r is what follows it.
pub data Stands : AbnfKind → List ℕ → List ℕ → Type 0 where
  name : {b : ℕ} {bs r : List ℕ} → is_ascii_alphabetic b ≡ true → Run continues_name bs r → Stands Name (b ∷ bs) r
  is : {r : List ℕ} → Stands Is (code "=" ∷ r) r
  adds : {r : List ℕ} → Stands Adds (code "=" ∷ code "/" ∷ r) r
  slash : {r : List ℕ} → Stands Slash (code "/" ∷ r) r
  lparen : {r : List ℕ} → Stands LParen (code "(" ∷ r) r
  rparen : {r : List ℕ} → Stands RParen (code ")" ∷ r) r
  lbrack : {r : List ℕ} → Stands LBrack (code "[" ∷ r) r
  rbrack : {r : List ℕ} → Stands RBrack (code "]" ∷ r) r
  -- a number alone; a star with a number before it, after it, both or neither
  counted : {b : ℕ} {bs r : List ℕ} → is_digit 10 b ≡ true → Count bs r → Stands Repeat (b ∷ bs) r
  star : {bs r : List ℕ} → Run (is_digit 10) bs r → Stands Repeat (code "*" ∷ bs) r
  text : {bs r : List ℕ} → Run is_quotable bs (code "\"" ∷ r) → Stands Text (code "\"" ∷ bs) r
  cased : {c : ℕ} {bs r : List ℕ} → is_case c ≡ true → Run is_quotable bs (code "\"" ∷ r)
      → Stands Text (code "%" ∷ c ∷ code "\"" ∷ bs) r
  num : {base c : ℕ} {bs r : List ℕ} → NamesBase c base → Numbers base bs r → Stands Num (code "%" ∷ c ∷ bs) r
  prose : {bs r : List ℕ} → Run is_prose bs (code ">" ∷ r) → Stands Prose (code "<" ∷ bs) r

abbrev pub First : AbnfKind → List ℕ → List ℕ → Type 0
First = cuts.First Piece Stands Bad End
