-- What opening a grammar's text gives.
use Rattle.std.specs.Prelude.{◌≡◌, true, false, List, [], ℕ, Option, MatchOption}
use Rattle.gramcheck.specs.Checked.{is_refused, IsStart}
use Rattle.gramcheck.specs.Grammar.{Grammar}
use Rattle.pegread.specs.Definitions.{firsts}
use Rattle.pegread.specs.Pattern.{Rule}
use Rattle.pegread.specs.PegViews.{rules_of}
use Rattle.pegread.specs.Reading.{Reads}
use Rattle.pegrun.specs.Noted.{AreNotesOn, start_given}
use Rattle.ruletable.specs.Notes.{Said}
use Rattle.pegrun.specs.PegSettings.{PegSettings}

-- it has the rules of these definitions, and starts with the rule that settings name, or the first
pub record IsGrammarOf (definitions : List Rule) (settings : PegSettings) (grammar : Grammar) : Type 0 where
  pub rules : rules_of grammar.rules ≡ firsts [] definitions
  pub start : IsStart (start_given settings) (firsts [] definitions) grammar.start

-- The text is a grammar with these notes, one of which rejects it; or none does, and this is its grammar.
pub record IsPegOpened (text : List ℕ) (settings : PegSettings) (notes : List Said) (grammar : Option Grammar) : Type
    0 where
  pub definitions : List Rule
  pub reads : Reads text definitions
  pub are_notes : AreNotesOn definitions (start_given settings) notes
  pub ready : MatchOption grammar (is_refused notes ≡ true)
      (λ g. (is_refused notes ≡ false) × IsGrammarOf definitions settings g)
