-- What tokens say to a grammar.
use Prim.Native.Char.{code}
use Rattle.std.specs.Prelude.{◌≡◌, ℕ, Bool, List, [], ◌∷◌, ◌++◌}
use Rattle.lexer.specs.Viability as viability
use Rattle.ruletable.specs.declared.span.Span.{Span}
use Rattle.pegread.specs.declared.kind.Kind.TheVariants as kinds
use Rattle.lexer.specs.TokenLists.{tok}
use Rattle.pegread.specs.Tokens.{Tok}
use Rattle.pegread.specs.Literals.{SpellsBytes}
use Rattle.pegread.specs.Classes.{SpellsSet}

-- a token as far as a grammar goes: its kind, with a name and where it stands, a literal's bytes, a class's members, or
-- an action's template
pub data Word : Type 0 where
  Ident : List ℕ → Span → Word
  Arrow : Word
  Begin : Word
  EndCap : Word
  Slash : Word
  Amp : Word
  Bang : Word
  Quest : Word
  Star : Word
  Plus : Word
  Dot : Word
  LParen : Word
  RParen : Word
  Literal : List ℕ → Word
  Class : (ℕ → Bool) → Word
  Action : List ℕ → Word
  End : Word

-- the word of a token, which what begins no token has none of
pub data Says : Tok → Word → Type 0 where
  says_name : {z : List ℕ} {p : Span} → Says (tok kinds.Ident z p) (Ident z p)
  says_arrow : {z : List ℕ} {p : Span} → Says (tok kinds.Arrow z p) Arrow
  says_begin : {z : List ℕ} {p : Span} → Says (tok kinds.Begin z p) Begin
  says_end_cap : {z : List ℕ} {p : Span} → Says (tok kinds.EndCap z p) EndCap
  says_slash : {z : List ℕ} {p : Span} → Says (tok kinds.Slash z p) Slash
  says_amp : {z : List ℕ} {p : Span} → Says (tok kinds.Amp z p) Amp
  says_bang : {z : List ℕ} {p : Span} → Says (tok kinds.Bang z p) Bang
  says_quest : {z : List ℕ} {p : Span} → Says (tok kinds.Quest z p) Quest
  says_star : {z : List ℕ} {p : Span} → Says (tok kinds.Star z p) Star
  says_plus : {z : List ℕ} {p : Span} → Says (tok kinds.Plus z p) Plus
  says_dot : {z : List ℕ} {p : Span} → Says (tok kinds.Dot z p) Dot
  says_lparen : {z : List ℕ} {p : Span} → Says (tok kinds.LParen z p) LParen
  says_rparen : {z : List ℕ} {p : Span} → Says (tok kinds.RParen z p) RParen
  -- the bytes that are spelled between its quotes
  says_literal : {z bs : List ℕ} {p : Span} → SpellsBytes z bs → Says (tok kinds.Literal z p) (Literal bs)
  -- the set that is spelled between its brackets
  says_class : {z : List ℕ} {f : ℕ → Bool} {p : Span} → SpellsSet z f → Says (tok kinds.Class z p) (Class f)
  -- the text between its outer braces
  says_action : {z t : List ℕ} {p : Span} → z ≡ code "{" ∷ (t ++ code "}" ∷ []) → Says (tok kinds.Action z p) (Action t)
  says_end : {z : List ℕ} {p : Span} → Says (tok kinds.End z p) End

-- the words of a list of tokens, one of each
abbrev pub SayAll : List Tok → List Word → Type 0
SayAll = viability.SayAll Says
