-- What a grammar's text is read as, and what is known of it when it is checked or only to be printed. It serves private
-- helpers alone.
use Rattle.std.specs.Prelude.{◌≡◌, ℕ, true, false, List, [], Option, MatchOption}
use Rattle.ruletable.specs.Notes.{Said}
use Rattle.ruletable.specs.Rules as table
use Rattle.pegread.specs.Definitions.{firsts, IsTableOf}
use Rattle.pegread.specs.Pattern.{Rule}
use Rattle.pegread.specs.PegViews.{rules_of}
use Rattle.pegread.specs.Reading.{Reads}
use Rattle.pegread.specs.declared.expr.Expr.{Expr}
use Rattle.gramcheck.specs.Checked.{is_refused, IsStart}
use Rattle.gramcheck.specs.Grammar.{Grammar, IsSoundGrammar, Ranked}
use Rattle.pegrun.specs.Noted.{AreAgain, AreNotesOn}

-- the text is read as these rules, with the ids of those that it defines again
abbrev pub IsReadAs : List ℕ → table.Rules Expr → List ℕ → Type 0
IsReadAs text rules redefined =
    (definitions : List Rule) × Reads text definitions × IsTableOf definitions rules redefined

-- the text's rules with the notes on them, and their analysis unless a note rejects them
pub record IsChecked (text : List ℕ) (start : Option (List ℕ)) (notes : List Said) (rules : table.Rules Expr)
    (judged : Option Ranked) : Type 0 where
  pub definitions : List Rule
  pub reads : Reads text definitions
  pub are_notes : AreNotesOn definitions start notes
  pub kept : rules_of rules ≡ firsts [] definitions
  pub accepted : MatchOption judged (is_refused notes ≡ true)
      (λ r. (is_refused notes ≡ false) × IsStart start (firsts [] definitions) r.start)

-- the text's grammar with its notes, none of which rejects it, ready to run
pub record IsReady (text : List ℕ) (start : Option (List ℕ)) (notes : List Said) (sound : Grammar) : Type 0 where
  pub definitions : List Rule
  pub reads : Reads text definitions
  pub are_notes : AreNotesOn definitions start notes
  pub accepted : is_refused notes ≡ false
  pub rules : rules_of sound.rules ≡ firsts [] definitions
  pub start_rule : IsStart start (firsts [] definitions) sound.start
  pub sound_grammar : IsSoundGrammar sound

-- the text's grammar, with the notes on the rules that it defines again
pub record IsPrintable (text : List ℕ) (rules : List Rule) (again : List Said) : Type 0 where
  pub definitions : List Rule
  pub reads : Reads text definitions
  pub kept : rules ≡ firsts [] definitions
  pub are_again : AreAgain definitions again
