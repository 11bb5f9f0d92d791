-- What explains a fault of a grammar's text, with the faults after it.
use Rattle.std.specs.Prelude.{◌≡◌, ◌≢◌, ℕ, ◌+◌, List, [], ◌++◌, drop}
use Rattle.lexer.specs.TokenLists.{Tok, start_of}
use Rattle.diagnostics.specs.LaterFaults.{AreLaterFaults, on_line}
use Rattle.ruletable.specs.Faults.{fault_text}
use Rattle.ruletable.specs.Lines.{line_at}
use Rattle.ruletable.specs.declared.fault.ReadFault.{ReadFault}
use Rattle.ruletable.specs.declared.fault.ReadFault.TheVariants as faults
use Rattle.ruletable.specs.declared.lines.LineRule.TheVariants.{Lf}
use Rattle.abnfread.specs.AbnfReading.{IsFaultOf}
use Rattle.abnfread.specs.declared.kind.AbnfKind.{AbnfKind}
use Rattle.abnfexplain.specs.AbnfDecisions.{IsFaultToken}
use Rattle.abnfexplain.specs.AbnfExplained.{Explains}
use Rattle.abnfexplain.specs.AbnfRuleLines.{IsNext}

-- The text has a fault if it is read from a position on: the message of the fault and the lines that explain it. The
-- token that decides stands so many bytes after that position, and the word of the next rule there or further on.
pub record IsFaultFrom (text : List ℕ) (start : ℕ) (reported : List ℕ) (ahead : ℕ) : Type 0 where
  pub fault : ReadFault
  pub is_fault : IsFaultOf (drop start text) fault
  pub named : fault ≢ faults.Memory
  pub why : List ℕ
  pub explains : Explains (drop start text) fault why
  pub token : Tok AbnfKind
  pub decides : IsFaultToken (drop start text) token
  pub ahead_is : ahead ≡ start_of token
  pub is : reported ≡ fault_text (on_line (line_at Lf text (start + ahead)) fault) ++ why

-- the faults after the first one of the text, at most 15
pub record AreOthers (text reported : List ℕ) : Type 0 where
  pub token : Tok AbnfKind
  pub decides : IsFaultToken text token
  pub are : AreLaterFaults (IsFaultFrom text) (IsNext text) 15 0 (start_of token) reported

-- a text that is too long is not read any further, nor one for which an allocation fails
abbrev pub AreFurther : List ℕ → ReadFault → List ℕ → Type 0
AreFurther text faults.Memory reported = reported ≡ []
AreFurther text faults.TooLong reported = reported ≡ []
AreFurther text _ reported = AreOthers text reported

-- the lines after the message of a fault, and the messages of the faults after it with the lines after these
pub record ExplainsAll (text : List ℕ) (fault : ReadFault) (why : List ℕ) : Type 0 where
  pub first : List ℕ
  pub explains : Explains text fault first
  pub others : List ℕ
  pub are : AreFurther text fault others
  pub is : why ≡ first ++ others
