-- What the checks of a grammar give.
use Rattle.std.specs.Prelude.{◌≡◌, ℕ, Bool, List, slice_get, Option, Some}
use Rattle.std.specs.List.{list_any}
use Rattle.ruletable.specs.Notes.{Said}
use Rattle.gramcheck.specs.GrammarNotes.{said_refuses}
use Rattle.pegread.specs.Pattern.{Rule}
use Rattle.gramcheck.specs.GrammarNotes.{start_of}
use Rattle.gramcheck.specs.Uses.{rule_names}

-- whether these notes reject a grammar: whether one of them is no note on a rule that is not used
abbrev pub is_refused : List Said → Bool
is_refused notes = list_any said_refuses notes

-- the id is that of the start rule: of the rule with the given name, or of the first
pub record IsStart (start : Option (List ℕ)) (rules : List Rule) (id : ℕ) : Type 0 where
  pub name : List ℕ
  pub is_start : start_of start rules ≡ Some name
  pub there : slice_get (rule_names rules) id ≡ Some name
