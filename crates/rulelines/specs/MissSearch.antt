-- A search of the states of a grammar, and of the symbols that cannot follow.
use Rattle.std.specs.Prelude.{◌≡◌, ◌⊎◌, ℕ, ◌+◌, ◌<◌, ◌≤◌, Bool, true, false, List, [], ◌∷◌, ◌++◌, length, slice_get}
use Rattle.std.specs.Prelude.{Contains, Option, None, Some}
use Rattle.abnfread.specs.Element.{Rule}
use Rattle.flatgrammar.specs.Flat.{Flat, Dot}
use Rattle.ruletable.specs.Letters.{has as has_letter}
use Rattle.ruletable.specs.declared.alphabet.Alphabet.{Alphabet}
use Rattle.flatgrammar.specs.Stacks.{IsNext}
use Rattle.lazydfa.specs.StateSets.{AreMoreStates, grammar_of, last_in, StateSet, StateSets}
use Rattle.lowering.specs.GivenPrefixes.{GivesPrefixes}
use Rattle.rulelines.specs.declared.list.keys.LineSymbols.{LineSymbols}
use Rattle.rulelines.specs.declared.miss.prefixes.NextPrefix.{NextPrefix}
use Rattle.rulelines.specs.declared.miss.prefixes.NextPrefix.TheVariants.{Prefix, Done}
use Rattle.rulelines.specs.declared.miss.prefixes.StatePrefix.{StatePrefix}
use Rattle.rulelines.specs.declared.miss.search.StateSearch.{StateSearch}
use Rattle.rulelines.specs.declared.pairs.SearchedPair.{SearchedPair}
use Rattle.rulelines.specs.Alone.{AreOfGrammar}
use Rattle.rulelines.specs.FoundPairs.{IsWordOf}
use Rattle.rulelines.specs.Misses.{AreAllPrefixes, AreFirstPrefixes}
use Rattle.rulelines.specs.Samples.{AreInLineOrder}
use Rattle.rulelines.specs.Search.{found_pairs, IsPairSearch}
use Rattle.rulelines.specs.StatePairs.{AreSamples}
use Rattle.rulelines.specs.StateTables.{line_symbols}
use Rattle.rulelines.specs.Starts.{HaveBothEnds}

-- the states of a search, those that it found, in order, and the index of the next one
pub record FoundStates : Type 0 where
  pub states : StateSets
  pub pairs : List SearchedPair
  pub at : ℕ

abbrev pub found_states : StateSearch → FoundStates
found_states search = record { states = search.states; pairs = search.pairs.items.items; at = search.at }

-- a symbol can follow, or the whole may end
abbrev pub IsLive : StateSet → Type 0
IsLive s = ((s.stacks ≡ []) → ⊥) ⊎ (s.ended ≡ true)

module _ (flat : Flat) (last : Dot → Bool) where
  -- a symbol leads from a state to a live one
  pub record LeadsOn (s : StateSet) (c : ℕ) : Type 0 where
    pub to : StateSet
    pub next : IsNext flat last (Contains s.stacks) c (Contains to.stacks) to.ended
    pub live : IsLive to

  -- .. to one that is not
  pub record LeadsAstray (s : StateSet) (c : ℕ) : Type 0 where
    pub to : StateSet
    pub next : IsNext flat last (Contains s.stacks) c (Contains to.stacks) to.ended
    pub dead : IsLive to → ⊥

  -- a symbol does one or the other
  abbrev pub IsLedBy : StateSet → ℕ → Bool → Type 0
  IsLedBy s c true = LeadsOn s c
  IsLedBy s c false = LeadsAstray s c

  -- whether each of the first k samples leads on
  abbrev pub AreLedBy : List ℕ → ℕ → StateSet → List Bool → Type 0
  AreLedBy samples k s live = (j c : ℕ) (b : Bool) → j < k → slice_get samples j ≡ Some c → slice_get live j ≡ Some b
      → IsLedBy s c b

-- All samples lead on from the first n states that were found, and the first k samples from the next one. Each state
-- stands as a pair with itself.
pub record IsStateSearch (has : ℕ → Bool) (samples : List ℕ) (sets : StateSets) (pairs : List SearchedPair) (n k : ℕ)
    : Type 0 where
  pub found : IsPairSearch has samples sets sets pairs n k 0
  pub own : (i : ℕ) (p : SearchedPair) → slice_get pairs i ≡ Some p → p.new ≡ p.old

abbrev pub SearchesStates : (ℕ → Bool) → List ℕ → FoundStates → ℕ → ℕ → Type 0
SearchesStates has samples search n k = IsStateSearch has samples search.states search.pairs n k

-- what was found is there still
abbrev pub AreFoundStill : List SearchedPair → List SearchedPair → Type 0
AreFoundStill old new = (i : ℕ) (p : SearchedPair) → slice_get old i ≡ Some p → slice_get new i ≡ Some p

-- the state that was found at an index
abbrev pub IsFoundAt : FoundStates → ℕ → StateSet → Type 0
IsFoundAt search i s = (p : SearchedPair) × (slice_get search.pairs i ≡ Some p)
    × (slice_get search.states.states p.old ≡ Some s)

-- a symbol leads on from the state at an index, or astray
pub record IsLedFrom (old new : FoundStates) (at c : ℕ) (live : Bool) : Type 0 where
  pub more : AreMoreStates old.states new.states
  pub still : AreFoundStill old.pairs new.pairs
  pub index : new.at ≡ old.at
  pub search : (has : ℕ → Bool) (samples : List ℕ) (k : ℕ) → SearchesStates has samples old at k
      → AreInLineOrder has samples → slice_get samples k ≡ Some c → SearchesStates has samples new at (k + 1)
  pub leads : (s : StateSet) → IsFoundAt old at s → IsLedBy (grammar_of old.states) (last_in old.states) s c live

-- the first k samples lead on from the state at an index, or astray
pub record IsExpandedTo (samples : List ℕ) (k : ℕ) (old new : FoundStates) (at : ℕ) (live : List Bool) : Type 0 where
  pub count : length live ≡ k
  pub more : AreMoreStates old.states new.states
  pub still : AreFoundStill old.pairs new.pairs
  pub index : new.at ≡ old.at
  pub search : (has : ℕ → Bool) → AreInLineOrder has samples → SearchesStates has samples old at 0
      → SearchesStates has samples new at k
  pub led : (s : StateSet) → IsFoundAt old at s
      → AreLedBy (grammar_of old.states) (last_in old.states) samples k s live

-- all of them
abbrev pub IsExpanded : List ℕ → FoundStates → FoundStates → ℕ → List Bool → Type 0
IsExpanded samples old new at live = IsExpandedTo samples (length samples) old new at live

-- no line leads to the state at an index, and it is not the first
abbrev pub IsStatePassed : FoundStates → ℕ → Type 0
IsStatePassed search i = (0 < i) × ((s : StateSet) → IsFoundAt search i s → IsLive s → ⊥)

-- the next state that a line leads to, or the first one
abbrev pub IsNextLive : FoundStates → Option ℕ → Type 0
IsNextLive search None = (i : ℕ) → search.at ≤ i → i < length search.pairs → IsStatePassed search i
IsNextLive search (Some at) = (search.at ≤ at) × (at < length search.pairs)
    × (0 < at → (s : StateSet) → IsFoundAt search at s → IsLive s)
    × ((i : ℕ) → search.at ≤ i → i < at → IsStatePassed search i)

-- the symbols, if there is room for one after so many
abbrev pub AreKeptWithin : ℕ → ℕ → List ℕ → List ℕ → Type 0
AreKeptWithin limit count symbols new = (count < limit → new ≡ symbols) × (limit ≤ count → new ≡ [])

-- these symbols lead to what was found at an index
abbrev pub IsWordIn : List SearchedPair → ℕ → List ℕ → Type 0
IsWordIn pairs i w = (olds news : StateSets) → IsWordOf (found_pairs olds news pairs) i w

-- a search of the states of a flat grammar, whose first one is the start state
pub record IsSearchBegun (flat : Flat) (search : FoundStates) : Type 0 where
  pub grammar : AreOfGrammar flat search.states
  pub at_first : search.at ≡ 0
  pub starts : (has : ℕ → Bool) (samples : List ℕ) → SearchesStates has samples search 0 0

-- with edges, two symbols whose numbers follow are samples, or no set tells them apart
abbrev pub AreEndsOf : Bool → Flat → (ℕ → Bool) → List ℕ → Type 0
AreEndsOf edges flat has samples = edges ≡ true → HaveBothEnds flat has samples

-- a search of the states of a flat grammar, by samples of all its classes
pub record IsSearchFor (flat : Flat) (inner : LineSymbols) (samples : List ℕ) (search : FoundStates) : Type 0 where
  pub grammar : AreOfGrammar flat search.states
  pub searches : SearchesStates (line_symbols inner) samples search search.at 0
  pub each : AreSamples flat flat (line_symbols inner) samples
  pub order : AreInLineOrder (line_symbols inner) samples

module _ (inner : LineSymbols) (limit : ℕ) (rules : List Rule) (id : ℕ) (edges : Bool) (search : FoundStates) where
  -- the prefixes are those of the live states below the search's index
  pub record AreReportedIn (ps : List StatePrefix) : Type 0 where
    pub first : AreFirstPrefixes inner.alphabet inner.terminator limit rules id edges ps
    pub each : (i : ℕ) → i < search.at → IsStatePassed search i ⊎ ((q : StatePrefix) × Contains ps q
        × IsWordIn search.pairs i q.prefix.items)
    pub from : (q : StatePrefix) → Contains ps q → (i : ℕ) × (i < search.at)
        × IsWordIn search.pairs i q.prefix.items

-- one more prefix is reported, or all are
abbrev pub IsStepIn : LineSymbols → ℕ → List Rule → ℕ → Bool → FoundStates → FoundStates → NextPrefix → Type 0
IsStepIn inner limit rules id edges old new (Prefix p) = (ps : List StatePrefix)
    → AreReportedIn inner limit rules id edges old ps → AreReportedIn inner limit rules id edges new (ps ++ p ∷ [])
IsStepIn inner limit rules id edges old new Done = (ps : List StatePrefix)
    → AreReportedIn inner limit rules id edges old ps
    → AreAllPrefixes inner.alphabet inner.terminator limit rules id ps

-- a flat grammar that answers for a rule on lines of one symbol more than so many
pub record GivesPrefixesTo (alphabet : Alphabet) (limit : ℕ) (rules : List Rule) (id : ℕ) (flat : Flat) : Type 0 where
  pub prefixes : GivesPrefixes (has_letter alphabet) rules id flat
  pub most : flat.limit ≡ limit + 1

-- a flat grammar, the symbols and the greatest length of lines, and which symbols are reported
pub record PrefixSet : Type 0 where
  pub flat : Flat
  pub alphabet : Alphabet
  pub terminator : ℕ
  pub limit : ℕ
  pub edges : Bool

-- .. and a search of its states
pub record PrefixSearch : Type 0 where
  pub set : PrefixSet
  pub search : Option FoundStates

abbrev pub symbols_in : PrefixSet → LineSymbols
symbols_in set = record { alphabet = set.alphabet; terminator = set.terminator }

-- these are the first prefixes, and the search has reported them
pub record ArePrefixesReported (rules : List Rule) (id : ℕ) (prefixes : PrefixSearch)
    (ps : List StatePrefix) : Type 0 where
  pub search : FoundStates
  pub is : prefixes.search ≡ Some search
  pub reported : AreReportedIn (symbols_in prefixes.set) prefixes.set.limit rules id prefixes.set.edges search ps

-- one more prefix is reported, or all are
abbrev pub IsPrefixStep : List Rule → ℕ → PrefixSearch → PrefixSearch → NextPrefix → Type 0
IsPrefixStep rules id old new (Prefix p) = (ps : List StatePrefix) → ArePrefixesReported rules id old ps
    → ArePrefixesReported rules id new (ps ++ p ∷ [])
IsPrefixStep rules id old new Done = (ps : List StatePrefix) → ArePrefixesReported rules id old ps
    → AreAllPrefixes old.set.alphabet old.set.terminator old.set.limit rules id ps

-- no prefix is reported yet of those of a rule
pub record ArePrefixesOf (alphabet : Alphabet) (terminator limit : ℕ) (edges : Bool) (rules : List Rule) (id : ℕ)
    (prefixes : PrefixSearch) : Type 0 where
  pub alphabet_is : prefixes.set.alphabet ≡ alphabet
  pub terminator_is : prefixes.set.terminator ≡ terminator
  pub limit_is : prefixes.set.limit ≡ limit
  pub edges_is : prefixes.set.edges ≡ edges
  pub gives : GivesPrefixesTo alphabet limit rules id prefixes.set.flat
  pub none : ArePrefixesReported rules id prefixes []
