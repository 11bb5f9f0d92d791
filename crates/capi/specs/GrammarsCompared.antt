-- What two grammars are opened as for a comparison, and what is found of them.
use Rattle.std.specs.Prelude.{◌≡◌, ℕ, List, Option, Some, None, MatchOption}
use Rattle.abnfcheck.specs.AbnfGrammar.{Grammar}
use Rattle.abnfexplain.specs.AbnfAllFaults.{ExplainsAll}
use Rattle.abnfread.specs.AbnfReading.{IsFaultOf, Reads}
use Rattle.abnfread.specs.AbnfViews.{rules_of}
use Rattle.abnfread.specs.Element.{Definition}
use Rattle.abnfread.specs.declared.elem.Elem.{Elem}
use Rattle.abnfrun.specs.AbnfExplainedNotes.{ExplainsAbnfNote}
use Rattle.abnfrun.specs.AbnfNoted.{all_rules, judged_of, AreNotesOn, IsRefusedFor, rule_given}
use Rattle.abnfrun.specs.AbnfSettings.{AbnfSettings}
use Rattle.abnfrun.specs.AbnfTextHints.{AreTextHints}
use Rattle.capi.specs.OpenCall.{IsOpening}
use Rattle.ruletable.specs.Letters.{has}
use Rattle.ruletable.specs.declared.alphabet.Alphabet.{Alphabet}
use Rattle.rulelines.specs.Alone.{IsKnownOf}
use Rattle.rulelines.specs.FirstLines.{IsOfOldAlone}
use Rattle.rulelines.specs.declared.alone.Alone.{Alone}
use Rattle.rulelines.specs.declared.alone.Alone.TheVariants.{First, Never, NeverUpTo, Unknown}
use Rattle.rulelines.specs.declared.comparison.Comparison.{Comparison}
use Rattle.ruletable.specs.Notes.{Said}
use Rattle.ruletable.specs.Rules as table
use Rattle.toolrun.specs.declared.status.Status.{Status}
use Rattle.toolrun.specs.declared.status.Status.TheVariants.{Done, NoMatch, Overlong, Refused}

-- the grammar has these rules and that judged one, or there is none
abbrev pub HoldsRules : table.Rules Elem → Option ℕ → Option Grammar → Type 0
HoldsRules rules None grammar = grammar ≡ None
HoldsRules rules (Some id) grammar = MatchOption grammar ⊥ (λ g. (g.rules ≡ rules) × (g.judged ≡ id))

-- The text has these notes, and this is its grammar: the text's rules, the core rules after them, and the rule that
-- settings name. Or one of the notes rejects it, and there is none.
pub record IsOpenGrammar (text : List ℕ) (settings : AbnfSettings) (notes : List Said) (grammar : Option Grammar) : Type
    0 where
  pub definitions : List Definition
  pub reads : Reads text definitions
  pub are_notes : AreNotesOn definitions (rule_given settings) notes
  pub ready : MatchOption grammar (IsRefusedFor definitions (rule_given settings))
      (λ g. (IsRefusedFor definitions (rule_given settings) → ⊥) × (rules_of g.rules ≡ all_rules definitions)
      × (g.judged ≡ judged_of definitions (rule_given settings)))

-- the status of opening, by whether there is a grammar
abbrev pub opened_code : Option Grammar → ℕ
opened_code (Some g) = 0
opened_code None = 2

-- a grammar in ABNF is opened for its rules
abbrev pub IsGrammarOpening : List ℕ → AbnfSettings → List ℕ → Option Grammar → ℕ → Type 0
IsGrammarOpening text settings = IsOpening (IsFaultOf text) (ExplainsAll text) (ExplainsAbnfNote text)
    (AreTextHints text settings) (IsOpenGrammar text settings) settings

-- what is found is known of the lines that each of two rules alone derives
pub record AreLinesFound (letters : Alphabet) (old new : Grammar) (found : Comparison) : Type 0 where
  pub old_alone : IsKnownOf (IsOfOldAlone (has letters) (rules_of old.rules) old.judged (rules_of new.rules) new.judged)
      found.old_alone
  pub new_alone : IsKnownOf (IsOfOldAlone (has letters) (rules_of new.rules) new.judged (rules_of old.rules) old.judged)
      found.new_alone

-- The status of what is found: 1 where a line is known that one of the rules alone derives, 0 where there is none of
-- either rule, and else 3.
abbrev pub found_status : Alone → Alone → Status
found_status (First w) other = NoMatch
found_status Never (First w) = NoMatch
found_status Never Never = Done
found_status Never (NeverUpTo n) = Overlong
found_status Never Unknown = Overlong
found_status (NeverUpTo m) (First w) = NoMatch
found_status (NeverUpTo m) Never = Overlong
found_status (NeverUpTo m) (NeverUpTo n) = Overlong
found_status (NeverUpTo m) Unknown = Overlong
found_status Unknown (First w) = NoMatch
found_status Unknown Never = Overlong
found_status Unknown (NeverUpTo n) = Overlong
found_status Unknown Unknown = Overlong

-- What is found of two grammars, and the status; nothing is known where one of them is rejected.
pub data AreFoundBetween (letters : Alphabet) : Option Grammar → Option Grammar → Comparison → Status → Type 0 where
  both_compared : {old new : Grammar} {found : Comparison} → AreLinesFound letters old new found
      → AreFoundBetween letters (Some old) (Some new) found (found_status found.old_alone found.new_alone)
  lacks_old : {new : Option Grammar} {found : Comparison} → found.old_alone ≡ Unknown → found.new_alone ≡ Unknown
      → AreFoundBetween letters None new found Refused
  lacks_new : {old : Option Grammar} {found : Comparison} → found.old_alone ≡ Unknown → found.new_alone ≡ Unknown
      → AreFoundBetween letters old None found Refused
