-- What explains a fault of a grammar's text: the lines after its message.
use Rattle.std.specs.Prelude.{◌≡◌, ℕ, ◌<◌, ◌≤◌, length, slice_get, List, [], ◌++◌, Some, codes}
use Rattle.lexer.specs.TokenLists.{tok}
use Rattle.lexer.specs.GrammarLimits.{max_grammar}
use Rattle.diagnostics.specs.PhraseLists.{listed}
use Rattle.diagnostics.specs.Pictures.{position_reported}
use Rattle.diagnostics.specs.ReportedPhrases.{AreAllReported}
use Rattle.pegread.specs.declared.kind.Kind.TheVariants.{End}
use Rattle.pegread.specs.Reading.{IsHopeless, IsTooDeep}
use Rattle.pegread.specs.Tokens.{Tok, AreTokens}
use Rattle.ruletable.specs.declared.fault.ReadFault.{ReadFault}
use Rattle.ruletable.specs.declared.fault.ReadFault.TheVariants.{Memory}
use Rattle.ruletable.specs.declared.lines.LineRule.TheVariants.{Any}
use Rattle.pegprint.specs.PegExpected.{CanStand, phrases}
use Rattle.pegprint.specs.PegMistakes.{mistake_reported}

-- what stands before what is reported of a token: its position, but for the end
abbrev pub token_position : List ℕ → Tok → List ℕ
token_position text (tok End z p) = codes "  at the end of the text: "
token_position text (tok _ z p) = position_reported Any text p.start

-- The lines that explain why the text is no grammar.
pub data Why (text : List ℕ) : List ℕ → Type 0 where
  too_long : max_grammar < length text → Why text (codes "  a grammar has at most 1048576 bytes\n")
  -- with that token the tokens begin no grammar: what could stand in its place, and the mistake that it shows
  hopeless : {all : List Tok} {i : ℕ} {t : Tok} {reported : List (List ℕ)} → length text ≤ max_grammar
      → AreTokens (length text) text all → slice_get all i ≡ Some t → IsHopeless all i
      → AreAllReported (CanStand all i) phrases reported →
      Why text (token_position text t ++ (codes "expected " ++ (listed reported
      ++ (codes "\n" ++ mistake_reported text all t))))
  -- that bracket is one too many of those open at once
  too_deep : {all : List Tok} {i : ℕ} {t : Tok} → length text ≤ max_grammar → AreTokens (length text) text all
      → slice_get all i ≡ Some t → IsTooDeep all i →
      Why text (token_position text t ++ codes "200 brackets are open before it\n")

-- the lines after the message of a fault: none after that of a failed allocation
abbrev pub Explains : List ℕ → ReadFault → List ℕ → Type 0
Explains text Memory why = why ≡ []
Explains text _ why = Why text why
