-- The rules of a grammar's text, and the notes on them.
use Rattle.std.specs.Prelude.{◌≡◌, ℕ, List, [], map, Option, Contains, option_copied}
use Rattle.ruletable.specs.Notes.{Said, said}
use Rattle.ruletable.specs.declared.note.NoteKind.TheVariants.{Redefined}
use Rattle.ruletable.specs.declared.table.NameCase.TheVariants.{Fold}
use Rattle.abnfread.specs.AbnfTable.{agains, earlies}
use Rattle.abnfread.specs.CoreRules.{core_list}
use Rattle.abnfread.specs.Element.{Rule, Definition, body_of}
use Rattle.abnfcheck.specs.AbnfNotes.{Those, AreNotes, IsRefused, judged_in}
use Rattle.abnfcheck.specs.WithCore.{with_core}
use Rattle.abnfprint.specs.AbnfReadBack.{file_rules}
use Rattle.abnfrun.specs.AbnfSettings.{AbnfSettings}

-- the file's rules, then those core rules whose names it does not have (RFC 5234, appendix B.1)
abbrev pub all_rules : List Definition → List Rule
all_rules definitions = (with_core (record { names = Fold; rules = file_rules definitions }) core_list).rules

-- the ids of the rules that the file defines again
abbrev pub again_in : List Definition → List ℕ
again_in definitions = agains (body_of core_list) [] definitions

-- the id of the judged rule: of that with the given name, or of the first
abbrev pub judged_of : List Definition → Option (List ℕ) → ℕ
judged_of definitions given = judged_in given (all_rules definitions)

-- the notes on the grammar of these definitions
abbrev pub AreNotesOn : List Definition → Option (List ℕ) → List Said → Type 0
AreNotesOn definitions given notes =
    AreNotes (file_rules definitions) (all_rules definitions) (again_in definitions)
    (earlies (body_of core_list) 0 [] definitions) given notes

-- notes reject the grammar of these definitions
abbrev pub IsRefusedFor : List Definition → Option (List ℕ) → Type 0
IsRefusedFor definitions given = IsRefused (file_rules definitions) (all_rules definitions) (again_in definitions)
    (judged_of definitions given)

-- the notes on those rules of a file that are defined again, alone, by the order of the rules
pub record AreRedefinitions (file : List Rule) (again : List ℕ) (notes : List Said) : Type 0 where
  pub names : List (List ℕ)
  pub are_those : Those (Contains again) 0 file names
  pub all : notes ≡ map (said Redefined) names

-- the notes on the rules that these definitions define again, alone
abbrev pub AreAgain : List Definition → List Said → Type 0
AreAgain definitions notes = AreRedefinitions (file_rules definitions) (again_in definitions) notes

-- the name that is given for the judged rule
abbrev pub rule_given : AbnfSettings → Option (List ℕ)
rule_given settings = option_copied settings.start
