-- What a text spells, and what is wrong with one that spells nothing.
use Rattle.std.specs.Prelude.{◌≡◌, ℕ, ◌+◌, ◌<◌, ◌≤◌, length, map, slice_get, List, Some}
use Rattle.ruletable.specs.Lines.{line_at}
use Rattle.ruletable.specs.declared.lines.LineRule.TheVariants.{Any}
use Rattle.ruletable.specs.declared.fault.ReadFault.{ReadFault}
use Rattle.ruletable.specs.declared.fault.ReadFault.TheVariants as faults
use Rattle.lexer.specs.Viability as viability
use Rattle.lexer.specs.GrammarLimits.{max_grammar, max_open}
use Rattle.pegread.specs.declared.kind.Kind.TheVariants.{Amp, Action}
use Rattle.pegread.specs.Pattern.{Rule}
use Rattle.lexer.specs.TokenLists.{kind_of, start_of}
use Rattle.pegread.specs.Tokens.{Tok, AreTokens}
use Rattle.pegread.specs.Words.{Word, SayAll}
use Rattle.pegread.specs.Limits.{IsShallow}
use Rattle.pegread.specs.Spelling.{Grammar, Viable}

-- The text is a grammar of these definitions, and keeps to the limits of its length and of brackets open at once.
pub record Reads (text : List ℕ) (definitions : List Rule) : Type 0 where
  pub within : length text ≤ max_grammar
  pub tokens : List Tok
  pub are_tokens : AreTokens (length text) text tokens
  pub words : List Word
  pub say : SayAll tokens words
  pub grammar : Grammar words definitions
  pub shallow : IsShallow max_open 0 tokens

-- an action right after an `&`
pub record IsCodePredicate (ts : List Tok) (i : ℕ) : Type 0 where
  pub position : ℕ
  pub next : i ≡ position + 1
  pub amp : slice_get (map kind_of ts) position ≡ Some Amp
  pub action : slice_get (map kind_of ts) i ≡ Some Action

-- at most 200 brackets are open at once
abbrev pub AreWithin : List Tok → Type 0
AreWithin = IsShallow max_open 0

-- with token i the tokens begin no grammar any more
abbrev pub IsHopeless : List Tok → ℕ → Type 0
IsHopeless = viability.IsHopeless Viable AreWithin

-- with token i the tokens still begin a grammar, but too many brackets are open
abbrev pub IsTooDeep : List Tok → ℕ → Type 0
IsTooDeep = viability.IsOver Viable AreWithin

-- a token of the text decides, and stands on that line
pub record IsDecidedAt (text : List ℕ) (line : ℕ) (Decides : List Tok → ℕ → Type 0) : Type 0 where
  pub within : length text ≤ max_grammar
  pub all : List Tok
  pub are_tokens : AreTokens (length text) text all
  pub number : ℕ
  pub token : Tok
  pub there : slice_get all number ≡ Some token
  pub decides : Decides all number
  pub line_is : line ≡ line_at Any text (start_of token)

-- The text is rejected for that fault. Its length decides first, then the first token that is hopeless or opens too
-- many brackets. Any allocation may fail, but a text that is too long is rejected for its length alone.
abbrev pub IsFaultOf : List ℕ → ReadFault → Type 0
IsFaultOf text (faults.Syntax line) = IsDecidedAt text line (λ ts i. IsHopeless ts i × (IsCodePredicate ts i → ⊥))
IsFaultOf text (faults.CodePredicate line) = IsDecidedAt text line (λ ts i. IsHopeless ts i × IsCodePredicate ts i)
IsFaultOf text (faults.Depth line) = IsDecidedAt text line IsTooDeep
IsFaultOf text faults.TooLong = max_grammar < length text
IsFaultOf text faults.Memory = length text ≤ max_grammar
IsFaultOf text (faults.NumberTooLarge line) = ⊥
