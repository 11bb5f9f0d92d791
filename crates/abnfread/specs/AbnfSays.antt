-- What tokens say, and how large and how deep that may be.
use Prim.Native.Char.{code}
use Rattle.std.specs.Prelude.{◌≡◌, ℕ, zero, suc, ◌≤◌, ◌||◌, ◌==◌, Bool, true, Option, List, [], ◌∷◌, ◌++◌, All}
use Rattle.ruletable.specs.declared.span.Span.{Span}
use Rattle.lexer.specs.TokenLists.{tok}
use Rattle.lexer.specs.Viability as viability
use Rattle.lexer.specs.GrammarLimits.{max_open}
use Rattle.abnfread.specs.declared.kind.AbnfKind.{AbnfKind}
use Rattle.abnfread.specs.declared.kind.AbnfKind.TheVariants as kinds
use Rattle.abnfread.specs.AbnfSlices.{is_case}
use Rattle.abnfread.specs.AbnfSpelling as spelling
use Rattle.abnfread.specs.AbnfWords.{Word, word, Said, Name, Is, Adds, Slash, LParen, RParen, LBrack, RBrack, Repeat}
use Rattle.abnfread.specs.AbnfWords.{Text, Values, Range, Prose, End}
use Rattle.abnfread.specs.MarkedTokens.{Marked, marked}
use Rattle.abnfread.specs.Numerals.{SaysRepeat, SaysNum, IsWithin, max_number}

-- what a token says, which what begins no token has none of
pub data SaysKind : AbnfKind → List ℕ → Span → Said → Type 0 where
  says_name : {z : List ℕ} {p : Span} → SaysKind kinds.Name z p (Name z p)
  says_is : {z : List ℕ} {p : Span} → SaysKind kinds.Is z p Is
  says_adds : {z : List ℕ} {p : Span} → SaysKind kinds.Adds z p Adds
  says_slash : {z : List ℕ} {p : Span} → SaysKind kinds.Slash z p Slash
  says_lparen : {z : List ℕ} {p : Span} → SaysKind kinds.LParen z p LParen
  says_rparen : {z : List ℕ} {p : Span} → SaysKind kinds.RParen z p RParen
  says_lbrack : {z : List ℕ} {p : Span} → SaysKind kinds.LBrack z p LBrack
  says_rbrack : {z : List ℕ} {p : Span} → SaysKind kinds.RBrack z p RBrack
  says_repeat : {z : List ℕ} {p : Span} {a : ℕ} {b : Option ℕ} → SaysRepeat z a b
      → SaysKind kinds.Repeat z p (Repeat a b)
  -- what stands in quotes; letters stand for either case, but for a text after `%s`
  says_text : {z t : List ℕ} {p : Span} → z ≡ code "\"" ∷ (t ++ code "\"" ∷ []) → SaysKind kinds.Text z p (Text true t)
  says_cased : {z t : List ℕ} {p : Span} {c : ℕ} → is_case c ≡ true
      → z ≡ code "%" ∷ c ∷ code "\"" ∷ (t ++ code "\"" ∷ [])
      → SaysKind kinds.Text z p (Text ((c == code "i") || (c == code "I")) t)
  says_num : {z : List ℕ} {p : Span} {s : Said} → SaysNum z s → SaysKind kinds.Num z p s
  -- what stands in angle brackets
  says_prose : {z t : List ℕ} {p : Span} → z ≡ code "<" ∷ (t ++ code ">" ∷ []) → SaysKind kinds.Prose z p (Prose t)
  says_end : {z : List ℕ} {p : Span} → SaysKind kinds.End z p End

-- the word of a token has its marks
pub data Says : Marked → Word → Type 0 where
  says : {k : AbnfKind} {z : List ℕ} {p : Span} {g f : Bool} {s : Said} → SaysKind k z p s
      → Says (marked (tok k z p) g f) (word g f s)

-- the words of a list of tokens, one of each
abbrev pub SayAll : List Marked → List Word → Type 0
SayAll = viability.SayAll Says

-- what the tokens say begins some rules
abbrev pub Viable : List Marked → Type 0
Viable = viability.Viable Says spelling.Grammar

-- its numbers are within the limits
abbrev pub IsSmall : Said → Type 0
IsSmall (Repeat a b) = IsWithin max_number a b
IsSmall (Values vs) = All (λ v. v ≤ max_number) vs
IsSmall (Range a b) = (a ≤ max_number) × (b ≤ max_number)
IsSmall s = Unit {0}

abbrev pub AreSmall : List Word → Type 0
AreSmall [] = Unit {0}
AreSmall (word g f s ∷ ws) = IsSmall s × AreSmall ws

-- the brackets that are open after a word, of those that were open before it
abbrev pub open_after : Said → ℕ → ℕ
open_after LParen d = suc d
open_after LBrack d = suc d
open_after RParen zero = zero
open_after RParen (suc d) = d
open_after RBrack zero = zero
open_after RBrack (suc d) = d
open_after s d = d

-- with d brackets open before the list, at most m are open anywhere in it
abbrev pub IsShallow : ℕ → ℕ → List Word → Type 0
IsShallow m d [] = d ≤ m
IsShallow m d (word g f s ∷ ws) = (d ≤ m) × IsShallow m (open_after s d) ws

-- the tokens' words pass no limit
pub record AreWithin (ms : List Marked) : Type 0 where
  pub words : List Word
  pub say : SayAll ms words
  pub shallow : IsShallow max_open 0 words
  pub small : AreSmall words

-- with token i the tokens begin no rules any more
abbrev pub IsHopeless : List Marked → ℕ → Type 0
IsHopeless = viability.IsHopeless Viable AreWithin

-- with token i the tokens still begin rules, but pass a limit
abbrev pub IsOver : List Marked → ℕ → Type 0
IsOver = viability.IsOver Viable AreWithin
