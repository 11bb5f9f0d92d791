-- Where a token of a kind ends: each relation holds of a text and of what follows the token that begins it.
use Prim.Native.Char.{code}
use Rattle.std.specs.Prelude.{◌≡◌, ◌≢◌, ℕ, ◌||◌, ◌==◌, Bool, true, false, List, [], ◌∷◌}
use Rattle.std.specs.Char.{is_ascii_alphabetic, is_ascii_alphanumeric}
use Rattle.lexer.specs.SliceEnds as ends
use Rattle.pegread.specs.declared.kind.Kind.{Kind}
use Rattle.pegread.specs.declared.kind.Kind.TheVariants.{Ident, Arrow, Begin, EndCap, Slash, Amp, Bang, Quest, Star}
use Rattle.pegread.specs.declared.kind.Kind.TheVariants.{Plus, Dot, LParen, RParen, Literal, Class, Action, Bad, End}

-- letters and `_`
abbrev pub starts_name : ℕ → Bool
starts_name b = is_ascii_alphabetic b || (b == code "_")

-- letters, digits and `_`
abbrev pub continues_name : ℕ → Bool
continues_name b = is_ascii_alphanumeric b || (b == code "_")

-- space, tab, LF and CR
abbrev pub is_blank : ℕ → Bool
is_blank b = (b == code " ") || (b == code "\t") || (b == code "\n") || (b == code "\r")

-- LF and CR
abbrev pub ends_line : ℕ → Bool
ends_line b = (b == code "\n") || (b == code "\r")

-- bytes of a name, any number of them
pub data Names : List ℕ → List ℕ → Type 0 where
  none : {r : List ℕ} → Names r r
  more : {b : ℕ} {bs r : List ℕ} → continues_name b ≡ true → Names bs r → Names (b ∷ bs) r

-- up to the next mark that no escape takes, and with it
pub data Closes (mark : ℕ) : List ℕ → List ℕ → Type 0 where
  close : {r : List ℕ} → Closes mark (mark ∷ r) r
  escape : {b : ℕ} {bs r : List ℕ} → Closes mark bs r → Closes mark (code "\\" ∷ b ∷ bs) r
  plain : {b : ℕ} {bs r : List ℕ} → b ≢ mark → b ≢ code "\\" → Closes mark bs r → Closes mark (b ∷ bs) r

-- up to the brace that matches one that stands before, and with it
pub data Body : List ℕ → List ℕ → Type 0 where
  last : {r : List ℕ} → Body (code "}" ∷ r) r
  nested : {bs m r : List ℕ} → Body bs m → Body m r → Body (code "{" ∷ bs) r
  other : {b : ℕ} {bs r : List ℕ} → b ≢ code "{" → b ≢ code "}" → Body bs r → Body (b ∷ bs) r

-- no byte, or one that is of no comment's inside
abbrev pub IsLineEnd : List ℕ → Type 0
IsLineEnd [] = Unit {0}
IsLineEnd (b ∷ bs) = ends_line b ≡ true

-- a comment's inside
pub data Comment : List ℕ → List ℕ → Type 0 where
  ended : {r : List ℕ} → IsLineEnd r → Comment r r
  inside : {b : ℕ} {bs r : List ℕ} → ends_line b ≡ false → Comment bs r → Comment (b ∷ bs) r

-- a piece of white space: a blank, or a comment
pub data Piece : List ℕ → List ℕ → Type 0 where
  blank : {b : ℕ} {r : List ℕ} → is_blank b ≡ true → Piece (b ∷ r) r
  comment : {bs r : List ℕ} → Comment bs r → Piece (code "#" ∷ bs) r

-- white space: blanks and comments, as far as one likes
abbrev pub White : List ℕ → List ℕ → Type 0
White = ends.White Piece

-- the text doesn't begin with `-`, which would make an arrow of a `<` before it
abbrev pub NoDash : List ℕ → Type 0
NoDash = ends.Lacks (code "-")

-- A token of the kind begins the text, and r follows it.
pub data Stands : Kind → List ℕ → List ℕ → Type 0 where
  ident : {b : ℕ} {bs r : List ℕ} → starts_name b ≡ true → Names bs r → Stands Ident (b ∷ bs) r
  arrow : {r : List ℕ} → Stands Arrow (code "<" ∷ code "-" ∷ r) r
  begin : {r : List ℕ} → Stands Begin (code "<" ∷ r) r
  end_cap : {r : List ℕ} → Stands EndCap (code ">" ∷ r) r
  slash : {r : List ℕ} → Stands Slash (code "/" ∷ r) r
  amp : {r : List ℕ} → Stands Amp (code "&" ∷ r) r
  bang : {r : List ℕ} → Stands Bang (code "!" ∷ r) r
  quest : {r : List ℕ} → Stands Quest (code "?" ∷ r) r
  star : {r : List ℕ} → Stands Star (code "*" ∷ r) r
  plus : {r : List ℕ} → Stands Plus (code "+" ∷ r) r
  dot : {r : List ℕ} → Stands Dot (code "." ∷ r) r
  lparen : {r : List ℕ} → Stands LParen (code "(" ∷ r) r
  rparen : {r : List ℕ} → Stands RParen (code ")" ∷ r) r
  single : {bs r : List ℕ} → Closes (code "'") bs r → Stands Literal (code "'" ∷ bs) r
  double : {bs r : List ℕ} → Closes (code "\"") bs r → Stands Literal (code "\"" ∷ bs) r
  class : {bs r : List ℕ} → Closes (code "]") bs r → Stands Class (code "[" ∷ bs) r
  action : {bs r : List ℕ} → Body bs r → Stands Action (code "{" ∷ bs) r

-- a token that begins the text is of no kind that passes the test
abbrev pub StandsNone : (Kind → Bool) → List ℕ → Type 0
StandsNone f t = (kind : Kind) (r : List ℕ) → Stands kind t r → f kind ≡ false

-- the first token of a text that no white space begins: the longest that stands there, or Bad where none does, or the
-- end
abbrev pub First : Kind → List ℕ → List ℕ → Type 0
First = ends.First Piece Stands Bad End
