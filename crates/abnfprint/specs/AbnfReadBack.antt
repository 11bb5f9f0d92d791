-- That a canonical text is read as the rules that it was made of.
use Rattle.std.specs.Prelude.{◌≡◌, ℕ, ◌≤◌, length, map, List, []}
use Rattle.ruletable.specs.Rules as table
use Rattle.lexer.specs.GrammarLimits.{max_grammar}
use Rattle.abnfread.specs.declared.elem.Elem.{Elem}
use Rattle.abnfread.specs.AbnfReading.{Reads}
use Rattle.abnfread.specs.AbnfTable.{firsts, agains, earlies, IsTableOf}
use Rattle.abnfread.specs.CoreRules.{core_list}
use Rattle.abnfread.specs.Element.{Rule, Definition, body_of}
use Rattle.abnfprint.specs.CanonicalAbnf.{grammar_text}
use Rattle.abnfprint.specs.FormedAbnf.{AreFormedRules, IsSome}

-- the rules that the definitions of a file make (RFC 5234, sections 2.2 and 3.3)
abbrev pub file_rules : List Definition → List Rule
file_rules ds = firsts (body_of core_list) [] ds

-- rules that differ in nothing but in where their names stand
pub record SameButSpans (rules again : List Rule) : Type 0 where
  pub names : map (λ rule. rule.name) rules ≡ map (λ rule. rule.name) again
  pub bodies : map (λ rule. rule.body) rules ≡ map (λ rule. rule.body) again

-- The text reads as definitions, and as no others. Their table has these rules, but for their spans. It defines no name
-- again, and extends none before it is defined.
pub record ReadsAs (text : List ℕ) (rules : List Rule) : Type 0 where
  pub again : List Definition
  pub reads : Reads text again
  pub only : (other : List Definition) → Reads text other → other ≡ again
  pub same : SameButSpans rules (file_rules again)
  pub no_again : agains (body_of core_list) [] again ≡ []
  pub no_early : earlies (body_of core_list) 0 [] again ≡ []

-- a text reads as the rules of this table, whether or not it defines a name again
pub record IsRead (source : List ℕ) (rules : table.Rules Elem) (redefined early : List ℕ) : Type 0 where
  pub definitions : List Definition
  pub reads : Reads source definitions
  pub kept : IsTableOf definitions rules redefined early

-- the rules that a text reads as, its canonical text reads as again, where that is not too long
abbrev pub ReadBack : Type 0
ReadBack = (source : List ℕ) (ds : List Definition) → Reads source ds → length (grammar_text (file_rules ds))
    ≤ max_grammar → ReadsAs (grammar_text (file_rules ds)) (file_rules ds)

-- the canonical text says nothing of spans
abbrev pub SpansUnseen : Type 0
SpansUnseen = (rules again : List Rule) → SameButSpans rules again → grammar_text rules ≡ grammar_text again

-- the canonical text of what a canonical text reads as is that text
abbrev pub PrintsItself : Type 0
PrintsItself = (source : List ℕ) (ds again : List Definition) → Reads source ds
    → Reads (grammar_text (file_rules ds)) again → grammar_text (file_rules again) ≡ grammar_text (file_rules ds)

-- the rules that a text reads as are formed
abbrev pub ReadsFormed : Type 0
ReadsFormed = (source : List ℕ) (ds : List Definition) → Reads source ds → IsSome (file_rules ds)
    × AreFormedRules (file_rules ds)
