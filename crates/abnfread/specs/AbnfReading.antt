-- What a text spells, and what is wrong with one that spells nothing.
use Rattle.std.specs.Prelude.{◌≡◌, ℕ, ◌<◌, ◌≤◌, Bool, true, false, length, slice_get, List, Some}
use Rattle.ruletable.specs.Lines.{line_at}
use Rattle.ruletable.specs.declared.lines.LineRule.TheVariants.{Lf}
use Rattle.ruletable.specs.declared.fault.ReadFault.{ReadFault}
use Rattle.ruletable.specs.declared.fault.ReadFault.TheVariants as faults
use Rattle.lexer.specs.TokenLists.{tok, start_of}
use Rattle.lexer.specs.GrammarLimits.{max_grammar, max_open}
use Rattle.abnfread.specs.declared.kind.AbnfKind.TheVariants.{LParen, LBrack}
use Rattle.abnfread.specs.AbnfSays.{SayAll, AreSmall, IsShallow, IsHopeless, IsOver}
use Rattle.abnfread.specs.AbnfSpelling.{Grammar}
use Rattle.abnfread.specs.AbnfWords.{Word}
use Rattle.abnfread.specs.Element.{Definition}
use Rattle.abnfread.specs.MarkedTokens.{Marked, marked, tok_of, AreMarked}

-- The text spells the definitions, and keeps to the limits: of its length, of brackets open at once, and of numbers.
pub record Reads (text : List ℕ) (definitions : List Definition) : Type 0 where
  pub size : length text ≤ max_grammar
  pub tokens : List Marked
  pub are_tokens : AreMarked text tokens
  pub words : List Word
  pub say : SayAll tokens words
  pub grammar : Grammar words definitions
  pub shallow : IsShallow max_open 0 words
  pub small : AreSmall words

-- a token of the text decides, and stands on that line
pub record IsDecidedAt (text : List ℕ) (line : ℕ) (Decides : List Marked → ℕ → Marked → Type 0) : Type 0 where
  pub size : length text ≤ max_grammar
  pub all : List Marked
  pub are_tokens : AreMarked text all
  pub number : ℕ
  pub token : Marked
  pub there : slice_get all number ≡ Some token
  pub decides : Decides all number token
  pub line_is : line ≡ line_at Lf text (start_of (tok_of token))

-- an opening bracket
abbrev pub is_bracket : Marked → Bool
is_bracket (marked (tok LParen z p) g f) = true
is_bracket (marked (tok LBrack z p) g f) = true
is_bracket m = false

abbrev pub IsSyntax : List Marked → ℕ → Marked → Type 0
IsSyntax ms i m = IsHopeless ms i

-- over a limit of brackets, or else of numbers
abbrev pub IsTooDeep : List Marked → ℕ → Marked → Type 0
IsTooDeep ms i m = IsOver ms i × (is_bracket m ≡ true)

abbrev pub IsTooLarge : List Marked → ℕ → Marked → Type 0
IsTooLarge ms i m = IsOver ms i × (is_bracket m ≡ false)

-- The text is rejected for that fault. Its length counts first. Then the first token decides that is hopeless or over a
-- limit. Any allocation may fail, but a text that is too long is rejected for its length alone.
abbrev pub IsFaultOf : List ℕ → ReadFault → Type 0
IsFaultOf text (faults.Syntax line) = IsDecidedAt text line IsSyntax
IsFaultOf text (faults.Depth line) = IsDecidedAt text line IsTooDeep
IsFaultOf text (faults.NumberTooLarge line) = IsDecidedAt text line IsTooLarge
IsFaultOf text faults.TooLong = max_grammar < length text
IsFaultOf text faults.Memory = length text ≤ max_grammar
IsFaultOf text (faults.CodePredicate line) = ⊥
