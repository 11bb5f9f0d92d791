-- Tables of states: their transitions, and from which of them so many symbols lead to the end.
use Rattle.std.specs.Prelude.{◌≡◌, ◌↔◌, ◌⊎◌, ℕ, ◌-◌, ◌<◌, ◌≤◌, Bool, true, List, [], ◌∷◌, ◌++◌, length, take}
use Rattle.std.specs.Prelude.{slice_get, Option, None, Some}
use Rattle.std.specs.List.Sorted.{IsStrictlyIncreasing}
use Rattle.std.proofs.Common.{Vec, Global}
use Rattle.flatgrammar.specs.Flat.{Flat}
use Rattle.lazydfa.specs.StateSets.{AreMoreStates, grammar_of, IsNextState, IsStartState, last_in, StateSet, StateSets}
use Rattle.rulelines.specs.Alone.{AreOfGrammar}
use Rattle.rulelines.specs.FirstLines.{ComesFirst}
use Rattle.rulelines.specs.Samples.{symbol_of}
use Rattle.rulelines.specs.declared.list.keys.LineSymbols.{LineSymbols}
use Rattle.rulelines.specs.declared.list.lines.NextLine.{NextLine}
use Rattle.rulelines.specs.declared.list.lines.NextLine.TheVariants.{Line, Done}
use Rattle.rulelines.specs.declared.list.search.Change.{Change}
use Rattle.rulelines.specs.declared.list.table.Table.{Table}
use Rattle.rulelines.specs.LineSets.{is_line_symbol, LineSet, SymbolSet}
use Rattle.rulelines.specs.ListedSets.{listed_in, symbol_set}
use Rattle.rulelines.specs.Rests.{HasNoNextRest, HasRest, IsFirstKey, IsFirstRest, IsNextRest, IsRest, TakesKey}
use Rattle.rulelines.specs.Starts.{AreClassStarts}

-- the number of each state that starts lead to from a state
abbrev pub IsRowOf : StateSets → List ℕ → ℕ → List ℕ → Type 0
IsRowOf sets starts s row = (j key t : ℕ) → slice_get starts j ≡ Some key → slice_get row j ≡ Some t
    → IsNextState sets (symbol_of key) s t

-- .. and no more of them
abbrev pub IsWholeRow : StateSets → List ℕ → ℕ → List ℕ → Type 0
IsWholeRow sets starts s row = (length row ≤ length starts) × IsRowOf sets starts s row

abbrev pub AreRowsOf : StateSets → List ℕ → List (Vec ℕ Global) → Type 0
AreRowsOf sets starts rows = (s : ℕ) (row : Vec ℕ Global) → slice_get rows s ≡ Some row
    → IsRowOf sets starts s row.items

-- whether exactly so many symbols may lead from a state to the end
pub record IsCanOf (sets : StateSets) (has : ℕ → Bool) (s count : ℕ) (can : Bool) : Type 0 where
  pub state : StateSet
  pub is : slice_get sets.states s ≡ Some state
  pub says : (can ≡ true) ↔ HasRest (grammar_of sets) (last_in sets) has state count

abbrev pub AreLevelsOf : StateSets → (ℕ → Bool) → List (Vec Bool Global) → Type 0
AreLevelsOf sets has levels = (count s : ℕ) (level : Vec Bool Global) (can : Bool) → slice_get levels count ≡ Some level
    → slice_get level.items s ≡ Some can → IsCanOf sets has s count can

-- an entry was added to the end of a level, if there is such a level
abbrev pub IsEntryAdded : List (Vec Bool Global) → ℕ → Bool → List (Vec Bool Global) → Type 0
IsEntryAdded old count can new = (k : ℕ) (level : Vec Bool Global) → slice_get new k ≡ Some level
    → (slice_get old k ≡ Some level) ⊎ ((k ≡ count) × (was : Vec Bool Global) × (slice_get old k ≡ Some was)
    × (level.items ≡ was.items ++ can ∷ []))

abbrev pub line_symbols : LineSymbols → ℕ → Bool
line_symbols inner = is_line_symbol inner.alphabet inner.terminator

-- a table of states of its grammar
pub record IsStateTable (table : Table) : Type 0 where
  pub grammar : AreOfGrammar (grammar_of table.states) table.states
  pub begins : IsStartState table.states table.start
  pub seen : table.seen ≤ length table.states.states
  pub starts_are : AreClassStarts (grammar_of table.states) (listed_in table.symbols) table.starts.items
  pub rise : IsStrictlyIncreasing table.starts.items
  pub rows_are : AreRowsOf table.states table.starts.items table.rows.items
  pub levels_are : AreLevelsOf table.states (listed_in table.symbols) table.levels.items

-- .. of this one
pub record IsTableFor (flat : Flat) (set : SymbolSet) (table : Table) : Type 0 where
  pub is : IsStateTable table
  pub grammar : grammar_of table.states ≡ flat
  pub symbols : symbol_set table.symbols ≡ set

-- a table has grown
pub record IsTableGrown (old new : Table) : Type 0 where
  pub is : IsStateTable new
  pub more : AreMoreStates old.states new.states
  pub symbols : symbol_set new.symbols ≡ symbol_set old.symbols
  pub start : new.start ≡ old.start

-- a symbol of a line leads from one state to another
pub record IsStep (table : Table) (s c t : ℕ) : Type 0 where
  pub symbol : listed_in table.symbols c ≡ true
  pub next : IsNextState table.states c s t

abbrev pub IsCan : Table → ℕ → ℕ → Bool → Type 0
IsCan table = IsCanOf table.states (listed_in table.symbols)

abbrev pub IsRestIn : Table → StateSet → ℕ → List ℕ → Type 0
IsRestIn table = IsRest (grammar_of table.states) (last_in table.states) (listed_in table.symbols)

abbrev pub HasRestIn : Table → StateSet → ℕ → Type 0
HasRestIn table = HasRest (grammar_of table.states) (last_in table.states) (listed_in table.symbols)

abbrev pub TakesKeyIn : Table → StateSet → ℕ → ℕ → Type 0
TakesKeyIn table = TakesKey (grammar_of table.states) (last_in table.states) (listed_in table.symbols)

abbrev pub IsFirstKeyIn : Table → StateSet → ℕ → ℕ → Option ℕ → Type 0
IsFirstKeyIn table = IsFirstKey (grammar_of table.states) (last_in table.states) (listed_in table.symbols)

abbrev pub IsFirstRestIn : Table → StateSet → ℕ → List ℕ → Type 0
IsFirstRestIn table = IsFirstRest (grammar_of table.states) (last_in table.states) (listed_in table.symbols)

abbrev pub IsNextRestIn : Table → StateSet → List ℕ → List ℕ → Type 0
IsNextRestIn table = IsNextRest (grammar_of table.states) (last_in table.states) (listed_in table.symbols)

abbrev pub HasNoNextRestIn : Table → StateSet → List ℕ → Type 0
HasNoNextRestIn table = HasNoNextRest (grammar_of table.states) (last_in table.states) (listed_in table.symbols)

-- each of the first states has a row, which leads each start to a state that was reached
abbrev pub AreRowsClosed : Table → ℕ → Type 0
AreRowsClosed table end = (s : ℕ) → s < end → (row : Vec ℕ Global) × (slice_get table.rows.items s ≡ Some row)
    × (length row.items ≡ length table.starts.items)
    × ((j t : ℕ) → slice_get row.items j ≡ Some t → t < table.seen)

-- exactly so many symbols lead from none of the first states to the end
abbrev pub HaveNoRest : Table → ℕ → ℕ → Type 0
HaveNoRest table count end = (n : ℕ) (s : StateSet) → n < end → slice_get table.states.states n ≡ Some s
    → HasRestIn table s count → ⊥

-- no rest of the start state has so many symbols or more
abbrev pub HasNoRestFrom : Table → ℕ → Type 0
HasNoRestFrom table count = (s : StateSet) (k : ℕ) → slice_get table.states.states table.start ≡ Some s → count ≤ k
    → HasRestIn table s k → ⊥

-- the first list of that many symbols that leads from a state to the end was added
abbrev pub IsFilledBy : Table → ℕ → ℕ → List ℕ → List ℕ → Type 0
IsFilledBy table state count old new = (s : StateSet) → slice_get table.states.states state ≡ Some s
    → (u : List ℕ) × IsFirstRestIn table s count u × (new ≡ old ++ u)

-- a change to the first symbol from a key on
abbrev pub IsChange : Table → ℕ → StateSet → ℕ → ℕ → ℕ → Option Change → Type 0
IsChange table state s from rest at None = IsFirstKeyIn table s from rest None
IsChange table state s from rest at (Some change) = (change.at ≡ at) × IsStep table state change.symbol change.state
    × (key : ℕ) × IsFirstKeyIn table s from rest (Some key) × (change.symbol ≡ symbol_of key)

-- with the first list that leads from its state to the end, it is the first rest after the line, and as long
pub record IsNextBy (table : Table) (s : StateSet) (line : List ℕ) (change : Change) : Type 0 where
  pub within : change.at < length line
  pub to : StateSet
  pub to_is : slice_get table.states.states change.state ≡ Some to
  pub next : (u : List ℕ) → IsFirstRestIn table to (length line - 1 - change.at) u
      → IsNextRestIn table s line (take change.at line ++ change.symbol ∷ u)

-- the last change, if there is any
abbrev pub IsLastChange : Table → StateSet → List ℕ → Option Change → Type 0
IsLastChange table s line None = HasNoNextRestIn table s line
IsLastChange table s line (Some change) = IsNextBy table s line change

-- the first line of a change
abbrev pub IsChangedTo : Table → List ℕ → Change → List ℕ → Type 0
IsChangedTo table line change word = (t : StateSet) → slice_get table.states.states change.state ≡ Some t
    → (u : List ℕ) × IsFirstRestIn table t (length line - 1 - change.at) u
    × (word ≡ take change.at line ++ change.symbol ∷ u)

-- the lines of a flat grammar
abbrev pub flat_lines : Flat → SymbolSet → ℕ → LineSet
flat_lines flat symbols limit = record { flat = flat; symbols = symbols; limit = limit }

-- the lines of a table
abbrev pub table_lines : Table → ℕ → LineSet
table_lines table limit = record {
  flat = grammar_of table.states;
  symbols = symbol_set table.symbols;
  limit = limit;
}

-- the first of the lines of at least so many symbols
abbrev pub IsFirstFrom : (List ℕ → Type 0) → ℕ → NextLine → Type 0
IsFirstFrom lines least (Line w) = lines w.items × (least ≤ length w.items)
    × ((v : List ℕ) → lines v → least ≤ length v → ComesFirst w.items v)
IsFirstFrom lines least Done = (v : List ℕ) → lines v → least ≤ length v → ⊥
