-- A search of pairs by number that cuts states.
use Rattle.std.specs.Prelude.{◌≡◌, ℕ, ◌<◌, true, List, length, map, slice_get, Some, Contains}
use Rattle.flatgrammar.specs.Flat.{Dot}
use Rattle.flatgrammar.specs.Stacks.{IsReading}
use Rattle.lazydfa.specs.StateSets.{AreMoreStates, grammar_of, last_in, StateSets}
use Rattle.rulelines.specs.declared.pairs.SearchedPair.{SearchedPair}
use Rattle.rulelines.specs.declared.search.PairSearch.{PairSearch}
use Rattle.rulelines.specs.Search.{found_pair, state_at}
use Rattle.rulelines.specs.StackSets.{IsFollowed}
use Rattle.rulelines.specs.StatePairs.{IsStartPair, LeadsInto, StatePair}

abbrev pub state_pair : StateSets → StateSets → SearchedPair → StatePair
state_pair olds news p = (found_pair olds news p).pair

abbrev pub state_pairs : StateSets → StateSets → List SearchedPair → List StatePair
state_pairs olds news pairs = map (state_pair olds news) pairs

-- the states of a pair are there, and something is read on top of each old stack
pub record IsSoundPair (olds news : StateSets) (p : SearchedPair) : Type 0 where
  pub old_within : p.old < length olds.states
  pub new_within : p.new < length news.states
  pub reading : (top : List Dot) → Contains (state_at olds p.old).stacks top → IsReading (grammar_of olds) top

abbrev pub AreSound : StateSets → StateSets → List SearchedPair → Type 0
AreSound olds news pairs = (i : ℕ) (p : SearchedPair) → slice_get pairs i ≡ Some p → IsSoundPair olds news p

abbrev pub AreSoundIn : PairSearch → Type 0
AreSoundIn search = AreSound search.olds search.news search.pairs.items.items

-- states and pairs were added
pub record AreMorePairs (old new : PairSearch) : Type 0 where
  pub olds : AreMoreStates old.olds new.olds
  pub news : AreMoreStates old.news new.news
  pub kept : (i : ℕ) (p : SearchedPair) → slice_get old.pairs.items.items i ≡ Some p
      → slice_get new.pairs.items.items i ≡ Some p
  pub sound : AreSoundIn old → AreSoundIn new

-- a symbol leads from a pair to one that was found
abbrev pub LeadsIn : PairSearch → ℕ → SearchedPair → Type 0
LeadsIn search c p = LeadsInto (grammar_of search.olds) (last_in search.olds) (grammar_of search.news)
    (last_in search.news) (state_pairs search.olds search.news search.pairs.items.items) c
    (state_pair search.olds search.news p)

-- the pair of an index follows from those that were found
abbrev pub IsFollowedIn : PairSearch → List ℕ → ℕ → SearchedPair → Type 0
IsFollowedIn search samples i p = IsFollowed (grammar_of search.olds) (last_in search.olds) (grammar_of search.news)
    (last_in search.news) samples (state_pairs search.olds search.news search.pairs.items.items) i
    (state_pair search.olds search.news p)

-- the start states come first, and in each of the first n pairs, which follow from those that were found, the new whole
-- is done where the old one is
pub record IsCutSearch (samples : List ℕ) (search : PairSearch) (n : ℕ) : Type 0 where
  pub first : SearchedPair
  pub is_first : slice_get search.pairs.items.items 0 ≡ Some first
  pub starts : IsStartPair (grammar_of search.olds) (last_in search.olds) (grammar_of search.news)
      (last_in search.news) (state_pair search.olds search.news first)
  pub sound : AreSoundIn search
  pub ends : (i : ℕ) (p : SearchedPair) → i < n → slice_get search.pairs.items.items i ≡ Some p
      → (state_pair search.olds search.news p).old_ended ≡ true
      → (state_pair search.olds search.news p).new_ended ≡ true
  pub followed : (i : ℕ) (p : SearchedPair) → i < n → slice_get search.pairs.items.items i ≡ Some p
      → IsFollowedIn search samples i p
