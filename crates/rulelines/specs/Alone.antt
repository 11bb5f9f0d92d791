-- What a search says of the lines that the old rule alone derives.
use Rattle.std.specs.Prelude.{◌≡◌, ◌↔◌, ℕ, Bool, List}
use Rattle.abnfread.specs.Element.{Rule}
use Rattle.abnfcheck.specs.Derivable.{AreLetters, RuleDerives}
use Rattle.flatgrammar.specs.Flat.{Flat}
use Rattle.flatgrammar.specs.FlatVerdicts.{DerivesLine}
use Rattle.flatgrammar.specs.Stacks.{AreUncounted, MarksLast}
use Rattle.lazydfa.specs.RunVerdicts.{IsOne}
use Rattle.lazydfa.specs.StateSets.{grammar_of, last_in, StateSets}
use Rattle.rulelines.specs.declared.alone.Alone.{Alone}
use Rattle.rulelines.specs.declared.alone.Alone.TheVariants.{First, Never, NeverUpTo, Unknown}
use Rattle.rulelines.specs.declared.search.SearchEnd.{SearchEnd}
use Rattle.rulelines.specs.declared.search.PairSearch.{PairSearch}
use Rattle.rulelines.specs.FirstLines.{HasNoLine, HasNoLineUpTo, IsFirstLine}
use Rattle.rulelines.specs.Search.{IsSearchOutcome, Searches}
use Rattle.rulelines.specs.StatePairs.{AreSamples}

-- a flat grammar derives exactly the lines that a rule derives, whatever their length
abbrev pub DerivesAsRule : (ℕ → Bool) → List Rule → ℕ → Flat → Type 0
DerivesAsRule has rules rule flat = (x : List ℕ) → AreLetters has x → DerivesLine flat x ↔ RuleDerives has rules rule x

-- what is known of some lines
abbrev pub IsKnownOf : (List ℕ → Type 0) → Alone → Type 0
IsKnownOf lines (First w) = IsFirstLine lines w.items
IsKnownOf lines Never = HasNoLine lines
IsKnownOf lines (NeverUpTo n) = HasNoLineUpTo lines n
IsKnownOf lines Unknown = Unit {0}

-- the states are those of a grammar, whose lines their stacks accept
pub record AreOfGrammar (flat : Flat) (sets : StateSets) : Type 0 where
  pub is : grammar_of sets ≡ flat
  pub one : IsOne (grammar_of sets)
  pub uncounted : AreUncounted (grammar_of sets)
  pub tail_positions : MarksLast (grammar_of sets) (last_in sets)

-- a search of states of both grammars, whose first pair are the start states
pub record IsBegun (old new : Flat) (search : PairSearch) : Type 0 where
  pub olds_are : AreOfGrammar old search.olds
  pub news_are : AreOfGrammar new search.news
  pub starts : (has : ℕ → Bool) (samples : List ℕ) → Searches has samples search 0 0 0

-- a search of states of both grammars by samples of all their classes, and how it ended
pub record IsSearchOf (old new : Flat) (has : ℕ → Bool) (samples : List ℕ) (outcome : SearchEnd) (search : PairSearch)
    : Type 0 where
  pub olds_are : AreOfGrammar old search.olds
  pub news_are : AreOfGrammar new search.news
  pub each : AreSamples (grammar_of search.olds) (grammar_of search.news) has samples
  pub ended : IsSearchOutcome outcome has samples search
