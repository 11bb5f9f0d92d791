-- Texts of ABNF one after another, and what they spell together (RFC 5234, sections 2.1 and 2.2).
use Rattle.std.specs.Prelude.{ℕ, List, Some}
use Rattle.lexer.specs.GrammarLimits.{max_open}
use Rattle.lexer.specs.TokenLists.{Tok}
use Rattle.abnfread.specs.declared.kind.AbnfKind.{AbnfKind}
use Rattle.abnfread.specs.AbnfSays.{SayAll, AreSmall, IsShallow}
use Rattle.abnfread.specs.AbnfSpelling.{Grammar}
use Rattle.abnfread.specs.AbnfWords.{Word}
use Rattle.abnfread.specs.Element.{Definition}
use Rattle.abnfread.specs.MarkedTokens.{AreTokens, marks}
use Rattle.abnfblocks.specs.LinkedLines.{moved_span}

-- a definition whose name stands so many bytes further on
abbrev pub moved_definition : ℕ → Definition → Definition
moved_definition n d = record { adds = d.adds; name = d.name; span = moved_span n d.span; body = d.body }

-- The text spells the definitions, whatever its length, and its first rule is not indented.
pub record SpellsAtMargin (text : List ℕ) (definitions : List Definition) : Type 0 where
  pub tokens : List (Tok AbnfKind)
  pub are_tokens : AreTokens text tokens
  pub words : List Word
  pub say : SayAll (marks text (Some 0) 0 tokens) words
  pub grammar : Grammar words definitions
  pub shallow : IsShallow max_open 0 words
  pub small : AreSmall words
