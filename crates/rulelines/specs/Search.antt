-- A search of pairs of states by number.
use Rattle.std.specs.Prelude.{◌≡◌, ◌⊎◌, ℕ, ◌+◌, ◌<◌, ◌≤◌, Bool, true, false, List, [], ◌∷◌, ◌++◌, map}
use Rattle.std.specs.Prelude.{length, slice_get, Some}
use Rattle.std.specs.Prelude.{slice_index_or}
use Rattle.lazydfa.specs.StateSets.{grammar_of, last_in, StateSet, StateSets}
use Rattle.rulelines.specs.declared.pairs.SearchedPair.{SearchedPair}
use Rattle.rulelines.specs.declared.search.SearchEnd.{SearchEnd}
use Rattle.rulelines.specs.declared.search.SearchEnd.TheVariants.{First, Nothing, Over}
use Rattle.rulelines.specs.declared.search.PairSearch.{PairSearch}
use Rattle.rulelines.specs.FoundPairs.{AreFound, EndWithNew, FoundPair, IsOldDead, LeadsToFound}

-- a state by its number
abbrev pub state_at : StateSets → ℕ → StateSet
state_at sets n = slice_index_or sets.states n (record { stacks = []; ended = false })

abbrev pub found_pair : StateSets → StateSets → SearchedPair → FoundPair
found_pair old new p = record {
  pair = record {
    old = (state_at old p.old).stacks;
    old_ended = (state_at old p.old).ended;
    new = (state_at new p.new).stacks;
    new_ended = (state_at new p.new).ended;
  };
  parent = p.parent;
  symbol = p.symbol;
}

abbrev pub found_pairs : StateSets → StateSets → List SearchedPair → List FoundPair
found_pairs old new pairs = map (found_pair old new) pairs

-- a pair of these two states
pub record HasPair (pairs : List SearchedPair) (old new : ℕ) : Type 0 where
  pub index : ℕ
  pub pair : SearchedPair
  pub is : slice_get pairs index ≡ Some pair
  pub old_is : pair.old ≡ old
  pub new_is : pair.new ≡ new

-- a pair was added, unless there was one of these states
abbrev pub IsPairAdded : List SearchedPair → SearchedPair → List SearchedPair → Type 0
IsPairAdded old pair new = ((new ≡ old) × HasPair old pair.old pair.new) ⊎ (new ≡ old ++ pair ∷ [])

-- A search by samples: all samples lead on from the first n pairs, but for the dead ones, and the first k samples from
-- the next one. In the first m pairs the new whole is done where the old one is.
pub record IsPairSearch (has : ℕ → Bool) (samples : List ℕ) (old new : StateSets) (pairs : List SearchedPair)
    (n k m : ℕ)
    : Type 0
  where
    pub old_within : (i : ℕ) (p : SearchedPair) → slice_get pairs i ≡ Some p → p.old < length old.states
    pub new_within : (i : ℕ) (p : SearchedPair) → slice_get pairs i ≡ Some p → p.new < length new.states
    pub found : AreFound (grammar_of old) (last_in old) (grammar_of new) (last_in new) (found_pairs old new pairs) has
    pub recent : (i : ℕ) (p : SearchedPair) → 0 < i → slice_get pairs i ≡ Some p → (p.parent < n)
        ⊎ ((p.parent ≡ n) × (j : ℕ) × (j < k) × (slice_get samples j ≡ Some p.symbol))
    pub searched : (i j : ℕ) (e : FoundPair) (c : ℕ) → (i < n) ⊎ ((i ≡ n) × (j < k))
        → slice_get (found_pairs old new pairs) i ≡ Some e → slice_get samples j ≡ Some c → IsOldDead e.pair
        ⊎ LeadsToFound (grammar_of old) (last_in old) (grammar_of new) (last_in new) (found_pairs old new pairs) i e c
    pub met : m ≤ length pairs
    pub agree : EndWithNew (found_pairs old new pairs) m

-- so it is with a search of the code
abbrev pub Searches : (ℕ → Bool) → List ℕ → PairSearch → ℕ → ℕ → ℕ → Type 0
Searches has samples search n k m = IsPairSearch has samples search.olds search.news search.pairs.items.items n k m

abbrev pub found_in : PairSearch → List FoundPair
found_in search = found_pairs search.olds search.news search.pairs.items.items

-- all samples lead on from one more pair, or there is no room for what some of them lead to
abbrev pub IsExpanded : Bool → (ℕ → Bool) → List ℕ → PairSearch → ℕ → ℕ → Type 0
IsExpanded true has samples search n m = Searches has samples search (n + 1) 0 m
IsExpanded false has samples search n m = (k : ℕ) × Searches has samples search n k m

-- the old whole alone is done in the pair of that index
pub record IsOldAloneAt (found : List FoundPair) (n : ℕ) : Type 0 where
  pub entry : FoundPair
  pub is : slice_get found n ≡ Some entry
  pub old_ended : entry.pair.old_ended ≡ true
  pub new_runs : entry.pair.new_ended ≡ false

-- how a search ended
abbrev pub IsSearchOutcome : SearchEnd → (ℕ → Bool) → List ℕ → PairSearch → Type 0
IsSearchOutcome (First n) has samples search = Searches has samples search n 0 n × IsOldAloneAt (found_in search) n
IsSearchOutcome Nothing has samples search =
    (n : ℕ) × (length (found_in search) ≤ n) × Searches has samples search n 0 n
IsSearchOutcome (Over n) has samples search = (k m : ℕ) × (n ≤ m) × Searches has samples search n k m

-- the states of both are of the same grammars
abbrev pub AreSameGrammars : PairSearch → PairSearch → Type 0
AreSameGrammars old new = (new.olds.tables ≡ old.olds.tables) × (new.news.tables ≡ old.news.tables)
