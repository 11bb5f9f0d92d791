-- That a canonical text is read as the rules that it was made of.
use Rattle.std.specs.Prelude.{◌≡◌, ℕ, ◌≤◌, length, map, List, []}
use Rattle.ruletable.specs.Rules as table
use Rattle.pegread.specs.declared.expr.Expr.{Expr}
use Rattle.lexer.specs.GrammarLimits.{max_grammar}
use Rattle.pegprint.specs.Canon.{grammar_text}
use Rattle.pegread.specs.Definitions.{IsTableOf}
use Rattle.pegread.specs.Formed.{AreBytes, AreFormedRules, IsSome}
use Rattle.pegread.specs.Pattern.{Rule}
use Rattle.pegread.specs.Reading.{Reads}

-- rules that differ in nothing but in where their names stand
pub record SameButSpans (rules again : List Rule) : Type 0 where
  pub names : map (λ rule. rule.name) rules ≡ map (λ rule. rule.name) again
  pub bodies : map (λ rule. rule.body) rules ≡ map (λ rule. rule.body) again

-- the text reads as these rules, but for their spans, and as nothing else
pub record ReadsAs (text : List ℕ) (rules : List Rule) : Type 0 where
  pub again : List Rule
  pub same : SameButSpans rules again
  pub reads : Reads text again
  pub only : (other : List Rule) → Reads text other → other ≡ again

-- a text reads as the rules of this table, and defines no name again
pub record IsRead (source : List ℕ) (rules : table.Rules Expr) (redefined : List ℕ) : Type 0 where
  pub bytes : AreBytes source
  pub definitions : List Rule
  pub reads : Reads source definitions
  pub kept : IsTableOf definitions rules redefined
  pub unique : redefined ≡ []

-- what a text reads as, its canonical text reads as again, where that is not too long
abbrev pub ReadBack : Type 0
ReadBack = (source : List ℕ) (rules : List Rule) → AreBytes source → Reads source rules → length (grammar_text rules)
    ≤ max_grammar → ReadsAs (grammar_text rules) rules

-- the canonical text does not depend on spans
abbrev pub SpansUnseen : Type 0
SpansUnseen = (rules again : List Rule) → SameButSpans rules again → grammar_text rules ≡ grammar_text again

-- the canonical text of what a canonical text reads as is that text
abbrev pub PrintsItself : Type 0
PrintsItself = (source : List ℕ) (rules again : List Rule) → AreBytes source → Reads source rules
    → Reads (grammar_text rules) again → grammar_text again ≡ grammar_text rules

-- what a text reads as is formed
abbrev pub ReadsFormed : Type 0
ReadsFormed = (source : List ℕ) (rules : List Rule) → AreBytes source → Reads source rules → IsSome rules
    × AreFormedRules rules
