-- What a grammar's text is read as, and what is known of it when it is checked or only to be printed. It serves private
-- helpers alone.
use Rattle.std.specs.Prelude.{◌≡◌, ℕ, List, Option, MatchOption}
use Rattle.ruletable.specs.Notes.{Said}
use Rattle.ruletable.specs.Rules as table
use Rattle.abnfread.specs.AbnfReading.{Reads}
use Rattle.abnfread.specs.AbnfTable.{IsCoreTable, IsTableOf}
use Rattle.abnfread.specs.AbnfViews.{rules_of}
use Rattle.abnfread.specs.Element.{Definition, Rule}
use Rattle.abnfread.specs.declared.elem.Elem.{Elem}
use Rattle.abnfprint.specs.AbnfReadBack.{file_rules}
use Rattle.abnfrun.specs.AbnfNoted.{all_rules, judged_of, AreAgain, AreNotesOn, IsRefusedFor}

-- the text is read as these rules, beside the core rules, with the ids of those that it defines again or extends early
abbrev pub IsReadAs : List ℕ → table.Rules Elem → table.Rules Elem → List ℕ → List ℕ → Type 0
IsReadAs text rules core redefined early =
    ((definitions : List Definition) × Reads text definitions × IsTableOf definitions rules redefined early)
    × IsCoreTable core

-- the text's rules with the core rules, the notes on them, and the id of the judged rule unless a note rejects them
pub record IsChecked (text : List ℕ) (given : Option (List ℕ)) (notes : List Said) (rules : table.Rules Elem)
    (judged : Option ℕ) : Type 0 where
  pub definitions : List Definition
  pub reads : Reads text definitions
  pub are_notes : AreNotesOn definitions given notes
  pub kept : rules_of rules ≡ all_rules definitions
  pub ready : MatchOption judged (IsRefusedFor definitions given)
      (λ id. (IsRefusedFor definitions given → ⊥) × (id ≡ judged_of definitions given))

-- the text's grammar, with the notes on the rules that it defines again
pub record IsPrintable (text : List ℕ) (rules : List Rule) (again : List Said) : Type 0 where
  pub definitions : List Definition
  pub reads : Reads text definitions
  pub kept : rules ≡ file_rules definitions
  pub are_again : AreAgain definitions again
