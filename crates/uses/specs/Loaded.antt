-- What a grammar's text is loaded as.
use Rattle.std.specs.Prelude.{◌≡◌, ℕ, true, List, [], Option, None, Some}
use Rattle.ruletable.specs.Notes.{Said}
use Rattle.gramcheck.specs.Checked.{is_refused, IsStart}
use Rattle.gramcheck.specs.Grammar.{Grammar, IsSoundGrammar}
use Rattle.gramcheck.specs.GrammarNotes.{AreNotes, names_at}
use Rattle.pegread.specs.Definitions.{firsts, agains}
use Rattle.pegread.specs.Pattern.{Rule}
use Rattle.pegread.specs.Reading.{Reads}
use Rattle.pegread.specs.PegViews.{rules_of}

-- a note rejects the grammar of these definitions; or it can be run, from its first rule
abbrev pub IsLoadedAs : List Rule → Option Grammar → Type 0
IsLoadedAs definitions None =
    (notes : List Said) × AreNotes (firsts [] definitions) (names_at (firsts [] definitions) (agains [] definitions))
    None notes × (is_refused notes ≡ true)
IsLoadedAs definitions (Some g) = IsSoundGrammar g × (rules_of g.rules ≡ firsts [] definitions)
    × IsStart None (firsts [] definitions) g.start

-- the text is a grammar, which is rejected or can be run
pub record IsLoaded (text : List ℕ) (sound : Option Grammar) : Type 0 where
  pub definitions : List Rule
  pub reads : Reads text definitions
  pub ready : IsLoadedAs definitions sound
