-- What explains a fault of a grammar's text, with the faults after it.
use Rattle.std.specs.Prelude.{◌≡◌, ◌≢◌, ◌⊎◌, ℕ, ◌+◌, List, [], ◌∷◌, ◌++◌, drop, take}
use Rattle.lexer.specs.TokenLists.{tok, start_of}
use Rattle.diagnostics.specs.LaterFaults.{AreLaterFaults, on_line}
use Rattle.pegread.specs.declared.kind.Kind.TheVariants.{Arrow}
use Rattle.pegread.specs.Reading.{IsFaultOf, IsHopeless, IsTooDeep}
use Rattle.pegread.specs.Tokens.{Tok}
use Rattle.ruletable.specs.Faults.{fault_text}
use Rattle.ruletable.specs.Lines.{line_at}
use Rattle.ruletable.specs.declared.fault.ReadFault.{ReadFault}
use Rattle.ruletable.specs.declared.fault.ReadFault.TheVariants as faults
use Rattle.ruletable.specs.declared.lines.LineRule.TheVariants.{Any}
use Rattle.pegprint.specs.PegDecisions.{IsTokenOf}
use Rattle.pegprint.specs.PegExplained.{Explains}
use Rattle.pegprint.specs.PegRuleLines.{IsNext}

-- where the last token starts
abbrev pub last_start : List Tok → ℕ
last_start [] = 0
last_start (t ∷ []) = start_of t
last_start (t ∷ u ∷ ts) = last_start (u ∷ ts)

-- that token of the text decides, and the one before it starts at that position
pub record DecidesAfter (text : List ℕ) (token : Tok) (before : ℕ) : Type 0 where
  pub decides : IsTokenOf text token (λ ts i. IsHopeless ts i ⊎ IsTooDeep ts i)
  pub is : before ≡ last_start (take decides.number decides.all)

-- Where the name of the next rule can stand: at the token that decides, or at the one before it if that is `<-`.
abbrev pub name_from : ℕ → Tok → ℕ
name_from before (tok Arrow z p) = before
name_from before (tok _ z p) = p.start

-- that token of the text decides, and that is where the name of the next rule can stand
pub record IsDeciding (text : List ℕ) (token : Tok) (ahead : ℕ) : Type 0 where
  pub before : ℕ
  pub is_after : DecidesAfter text token before
  pub is : ahead ≡ name_from before token

-- The text has a fault if it is read from a position on: the message of the fault and the lines that explain it. The
-- name of the next rule can stand so many bytes after that position.
pub record IsFaultFrom (text : List ℕ) (start : ℕ) (reported : List ℕ) (ahead : ℕ) : Type 0 where
  pub fault : ReadFault
  pub is_fault : IsFaultOf (drop start text) fault
  pub named : fault ≢ faults.Memory
  pub why : List ℕ
  pub explains : Explains (drop start text) fault why
  pub token : Tok
  pub decides : IsDeciding (drop start text) token ahead
  pub is : reported ≡ fault_text (on_line (line_at Any text (start + start_of token)) fault) ++ why

-- the faults after the first one of the text, at most 15
pub record AreOthers (text reported : List ℕ) : Type 0 where
  pub token : Tok
  pub ahead : ℕ
  pub decides : IsDeciding text token ahead
  pub are : AreLaterFaults (IsFaultFrom text) (IsNext text) 15 0 ahead reported

-- a text that is too long is not read any further, nor one for which an allocation fails
abbrev pub AreFurther : List ℕ → ReadFault → List ℕ → Type 0
AreFurther text faults.Memory reported = reported ≡ []
AreFurther text faults.TooLong reported = reported ≡ []
AreFurther text _ reported = AreOthers text reported

-- the lines after the message of a fault, and the messages of the faults after it with the lines after these
pub record ExplainsAll (text : List ℕ) (fault : ReadFault) (why : List ℕ) : Type 0 where
  pub first : List ℕ
  pub explains : Explains text fault first
  pub others : List ℕ
  pub are : AreFurther text fault others
  pub is : why ≡ first ++ others
