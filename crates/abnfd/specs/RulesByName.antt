-- What is reported of two texts whose rules are compared by name: those that both define, in the order of the old one.
use Rattle.std.specs.Prelude.{◌≡◌, ◌≢◌, ◌⊎◌, ℕ, List, [], ◌∷◌, ◌++◌, Bool, true, false, Option, None, Some, All}
use Rattle.std.specs.Prelude.{MatchOption, codes, length, map, max, not}
use Rattle.std.specs.List.{filter, flat_map, list_any}
use Rattle.abnfcheck.specs.AbnfGrammar.{Grammar, IsSound}
use Rattle.abnfcheck.specs.AbnfNotes.{AreOthersRefused}
use Rattle.abnfcheck.specs.AbnfUses.{rule_names}
use Rattle.abnfd.specs.ComparedSides.{IsSideOf}
use Rattle.abnfd.specs.ComparedTexts.{AreCompared, AreLinesKnown}
use Rattle.abnfd.specs.ComparisonText.{verdict_between, verdict_status}
use Rattle.abnfd.specs.UnchangedRules.{ArePairs}
use Rattle.abnfd.specs.declared.by_name.BothRules.{BothRules}
use Rattle.abnfd.specs.declared.by_name.CheckedRules.{CheckedRules}
use Rattle.abnfd.specs.declared.by_name.TextRules.{TextRules}
use Rattle.abnfprint.specs.AbnfReadBack.{file_rules}
use Rattle.abnfread.specs.AbnfReading.{IsFaultOf, Reads}
use Rattle.abnfread.specs.AbnfViews.{rules_of}
use Rattle.abnfread.specs.Element.{Definition, Rule}
use Rattle.abnfrun.specs.AbnfNoted.{IsRefusedFor, all_rules, judged_of}
use Rattle.fixpoint.specs.NumberMarks.{IsMarked}
use Rattle.ruletable.specs.declared.alphabet.Alphabet.{Alphabet}
use Rattle.rulelines.specs.declared.comparison.Comparison.{Comparison}
use Rattle.fixpoint.specs.IdMarks.{AreMarks}
use Rattle.ruletable.specs.Rules as table
use Rattle.ruletable.specs.Rules.{same_name}
use Rattle.ruletable.specs.declared.fault.ReadFault.{ReadFault}
use Rattle.ruletable.specs.declared.fault.ReadFault.TheVariants.{Memory}
use Rattle.ruletable.specs.declared.table.NameCase.TheVariants.{Fold}
use Rattle.toolrun.specs.Status.{code_of}
use Rattle.toolrun.specs.declared.status.Status.{Status}
use Rattle.toolrun.specs.declared.status.Status.TheVariants.{Done, Fault, NoMatch, NoMemory, Overlong, Refused}

-- the word for the status of a comparison
abbrev pub status_word : Status → List ℕ
status_word Done = codes "same"
status_word NoMatch = codes "differ"
status_word Refused = codes "rejected"
status_word Overlong = codes "not known"
status_word Fault = codes "rejected"
status_word NoMemory = codes "rejected"

-- the line of a rule
abbrev pub row_text : List ℕ → Status → List ℕ
row_text name status = name ++ (codes ": " ++ (status_word status ++ codes "\n"))

-- the names of the rules that definitions make, in order
abbrev pub defined_names : List Definition → List (List ℕ)
defined_names definitions = rule_names (file_rules definitions)

-- a name is one of these (RFC 5234, section 2.1: names compare without case)
abbrev pub is_named : List (List ℕ) → List ℕ → Bool
is_named known name = list_any (same_name Fold name) known

-- those names that are known, and those that are not
abbrev pub named_in : List (List ℕ) → List (List ℕ) → List (List ℕ)
named_in known names = filter (is_named known) names

abbrev pub missing_in : List (List ℕ) → List (List ℕ) → List (List ℕ)
missing_in known names = filter (λ name. not (is_named known name)) names

-- a line for each name
abbrev pub names_text : List ℕ → List (List ℕ) → List ℕ
names_text mark names = flat_map (λ name. mark ++ (name ++ codes "\n")) names

-- a rule that both define, and the status of its comparison
pub record RuleRow : Type 0 where
  pub name : List ℕ
  pub status : Status

abbrev pub rows_text : List RuleRow → List ℕ
rows_text rows = flat_map (λ row. row_text row.name row.status) rows

-- the greatest code of the statuses, 0 where there is none
abbrev pub greatest_code : List RuleRow → ℕ
greatest_code [] = 0
greatest_code (row ∷ rows) = max (code_of row.status) (greatest_code rows)

-- The text defines these names, and these are its rules with the core rules. Where a marked rule is judged, nothing
-- rejects the grammar; where another one is, something does.
pub record AreChecked (text : List ℕ) (checked : CheckedRules) : Type 0 where
  pub definitions : List Definition
  pub reads : Reads text definitions
  pub names_fold : checked.names.names ≡ Fold
  pub names_are : table.names_of checked.names ≡ defined_names definitions
  pub folds : checked.rules.names ≡ Fold
  pub kept : rules_of checked.rules ≡ all_rules definitions
  pub accepted : (rule : List ℕ) → IsMarked checked.sound.items (judged_of definitions (Some rule))
      → IsRefusedFor definitions (Some rule) → ⊥
  pub rejected : (rule : List ℕ) → (IsMarked checked.sound.items (judged_of definitions (Some rule)) → ⊥)
      → IsRefusedFor definitions (Some rule)

-- the rules of two texts, with pairs of rules whose bodies are alike
pub record AreBothChecked (old new : List ℕ) (both : BothRules) : Type 0 where
  pub olds_are : AreChecked old both.old
  pub news_are : AreChecked new both.new
  pub pairs : ArePairs (rules_of both.old.rules) (rules_of both.new.rules) both.partners.items

-- the text has a fault
abbrev pub IsFaulty : List ℕ → Type 0
IsFaulty text = (fault : ReadFault) × IsFaultOf text fault × (fault ≢ Memory)

-- the rules of a text, unless it has a fault
abbrev pub HasChecked : List ℕ → Option CheckedRules → Type 0
HasChecked text checked = MatchOption checked (IsFaulty text) (AreChecked text)

-- a text's rules, and the messages on it, as where its first rule is judged
pub record IsTextRules (side text : List ℕ) (opened : TextRules) : Type 0 where
  pub grammar : Option Grammar
  pub is_side : IsSideOf side text None opened.reported.items grammar
  pub has_checked : HasChecked text opened.checked

-- no rule is marked if one is defined again, else those are by which lines can be judged
abbrev pub AreAccepted : List Rule → Bool → List Bool → Type 0
AreAccepted rules true marks = marks ≡ []
AreAccepted rules false marks = AreMarks (IsSound rules) (length rules) marks × AreOthersRefused rules marks

module _ (alphabet : Alphabet) (old new : List ℕ) where
  -- The comparison of the rules with that name ends with that status: nothing rejects the grammars where they are
  -- judged, and the status is that of what is found of them; or something rejects one of the grammars.
  pub data EndsAs (rule : List ℕ) : Status → Type 0 where
    has_found : {old_definitions new_definitions : List Definition} (found : Comparison) → Reads old old_definitions
        → Reads new new_definitions → (IsRefusedFor old_definitions (Some rule) → ⊥)
        → (IsRefusedFor new_definitions (Some rule) → ⊥)
        → AreLinesKnown alphabet (all_rules old_definitions) (judged_of old_definitions (Some rule))
        (all_rules new_definitions) (judged_of new_definitions (Some rule)) found
        → EndsAs rule (verdict_status (verdict_between found.old_alone found.new_alone))
    is_rejected : {old_definitions new_definitions : List Definition} → Reads old old_definitions
        → Reads new new_definitions
        → IsRefusedFor old_definitions (Some rule) ⊎ IsRefusedFor new_definitions (Some rule) → EndsAs rule Refused

  -- the rows of these names, in order
  pub record AreRows (names : List (List ℕ)) (rows : List RuleRow) : Type 0 where
    pub are_named : map (λ row. row.name) rows ≡ names
    pub end : All (λ row. EndsAs row.name row.status) rows

  -- the lines of the rules of these names, and the greatest of their statuses
  pub record HasRows (names : List (List ℕ)) (text : List ℕ) (status : Status) : Type 0 where
    pub rows : List RuleRow
    pub are_rows : AreRows names rows
    pub written : text ≡ rows_text rows
    pub greatest : code_of status ≡ greatest_code rows

  -- The lines of the rules that both texts define; then the names that the old one alone defines, and the new one. Or a
  -- text has a fault, and nothing is written.
  pub data IsAnswerByName : List ℕ → Status → Type 0 where
    has_rows : {old_definitions new_definitions : List Definition} {text : List ℕ} {status : Status}
        → Reads old old_definitions → Reads new new_definitions
        → HasRows (named_in (defined_names new_definitions) (defined_names old_definitions)) text status
        → IsAnswerByName (text
        ++ (names_text (codes "< ") (missing_in (defined_names new_definitions) (defined_names old_definitions))
        ++ names_text (codes "> ") (missing_in (defined_names old_definitions) (defined_names new_definitions)))) status
    lacks_old : IsFaulty old → IsAnswerByName [] Refused
    lacks_new : IsFaulty new → IsAnswerByName [] Refused

  -- the report on the texts: the messages on both, as where their first rules are compared, and the answer
  pub record AreComparedByName (reported text : List ℕ) (status : Status) : Type 0 where
    pub old_reported : List ℕ
    pub old_grammar : Option Grammar
    pub is_old : IsSideOf (codes "old: ") old None old_reported old_grammar
    pub new_reported : List ℕ
    pub new_grammar : Option Grammar
    pub is_new : IsSideOf (codes "new: ") new None new_reported new_grammar
    pub all : reported ≡ old_reported ++ new_reported
    pub answer : IsAnswerByName text status

-- the report that is asked for: on all rules, where nothing is explained, or on one of each text
pub data IsAskedReport (explain : Bool) (alphabet : Alphabet) (old_rule new_rule : Option (List ℕ))
    (old new : List ℕ) : Bool → List ℕ → List ℕ → Status → Type 0 where
  on_all : {reported text : List ℕ} {status : Status} → AreComparedByName alphabet old new reported text status
      → IsAskedReport explain alphabet old_rule new_rule old new true reported text status
  on_one : {reported text : List ℕ} {status : Status}
      → AreCompared explain alphabet old_rule new_rule old new reported text status
      → IsAskedReport explain alphabet old_rule new_rule old new false reported text status
