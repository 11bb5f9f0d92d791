-- A search of pairs that cuts states.
-- Serves: lead, expand, is_covered, cut_pair, search_by_cuts, is_included.
use Rattle.std.proofs.Common.{◌≡◌, ◌⊎◌, inl, inr, ℕ, zero, suc, ◌+◌, ◌<◌, ◌≤◌, Bool, true, false, List, [], ◌∷◌, ◌++◌}
use Rattle.std.proofs.Common.{length, refl, sym, ◌∙◌, ap, subst, arith, append_assoc}
use Rattle.std.proofs.lemmas.Bool.{cases_lt}
use Rattle.std.proofs.lemmas.Option.{slice_get_within}
use Rattle.std.specs.Prelude.{slice_get, Some, Contains}
use Rattle.abnfread.specs.Element.{Rule}
use Rattle.flatgrammar.specs.Flat.{Flat, Dot}
use Rattle.flatgrammar.specs.NodeSteps.{flat_of}
use Rattle.flatgrammar.specs.Stacks.{IsReading}
use Rattle.flatgrammar.proofs.CallOfLemmas.{get_map, get_unmap, Unmapped}
use Rattle.flatgrammar.proofs.SliceGetLemmas.{push_cases}
use Rattle.lazydfa.specs.Conts.{last_of}
use Rattle.lazydfa.specs.StackCuts.{AreAllJoined, IsCutState, IsStateFrom, IsTopOnSuffix, IsStateWithin}
use Rattle.lazydfa.specs.StateSets.{AreMoreStates, grammar_of, IsNextState, last_in, StateSet, StateSets}
use Rattle.lazydfa.proofs.StateSetsLemmas.{contained_at, got_at}
use Rattle.rulelines.specs.Alone.{AreOfGrammar, DerivesAsRule}
use Rattle.rulelines.specs.declared.pairs.SearchedPair.{SearchedPair}
use Rattle.rulelines.specs.declared.search.PairSearch.{PairSearch}
use Rattle.rulelines.specs.CutSearch.{AreMorePairs, AreSound, AreSoundIn, IsCutSearch, IsFollowedIn, IsSoundPair}
use Rattle.rulelines.specs.CutSearch.{LeadsIn, state_pair, state_pairs}
use Rattle.rulelines.specs.FirstLines.{HasNoLine, IsOfOldAlone}
use Rattle.rulelines.specs.Search.{found_pair, HasPair, IsPairAdded, Searches, state_at}
use Rattle.rulelines.specs.StackSets.{AreClosedByCuts, AsksMore, cut, dead, IsCutInto, IsFollowed}
use Rattle.rulelines.specs.StackSets.{leads, more}
use Rattle.rulelines.specs.StatePairs.{AreSamples, IsStartPair, LeadsInto, StatePair}
use Rattle.rulelines.proofs.OldAloneLemmas.{accepts_lines}
use Rattle.rulelines.proofs.SearchLemmas.{get_end, get_left, more_length, no_more, pair_kept, side_next, state_is}
use Rattle.rulelines.proofs.SearchLemmas.{state_kept}
use Rattle.rulelines.proofs.StackSetsLemmas.{accepted_by_cuts, starts_from}
use Rattle.rulelines.proofs.StatePairsLemmas.{accepted_derived, derived_accepted}

states_both : (a b c : StateSets) → AreMoreStates a b → AreMoreStates b c → AreMoreStates a c
states_both a b c one two = record {
  same = two.same ∙ one.same;
  added = one.added ++ two.added;
  grown = two.grown ∙ (ap (λ v. v ++ two.added) one.grown ∙ append_assoc a.states one.added two.added);
}

pub pairs_none : (a : PairSearch) → AreMorePairs a a
pairs_none a = record { olds = no_more a.olds; news = no_more a.news; kept = λ i p h. h; sound = λ s. s }

pub pairs_both : (a b c : PairSearch) → AreMorePairs a b → AreMorePairs b c → AreMorePairs a c
pairs_both a b c one two = record {
  olds = states_both a.olds b.olds c.olds one.olds two.olds;
  news = states_both a.news b.news c.news one.news two.news;
  kept = λ i p h. two.kept i p (one.kept i p h);
  sound = λ s. two.sound (one.sound s);
}

-- sound pairs stay so while states are added
sound_kept : (old mid new last : StateSets) → AreMoreStates old mid → AreMoreStates new last → (p : SearchedPair)
    → IsSoundPair old new p → IsSoundPair mid last p
sound_kept old mid new last old_more new_more p s = record {
  old_within = (let lt = s.old_within in let le = more_length old mid old_more in omega (arith, lt, le));
  new_within = (let lt = s.new_within in let le = more_length new last new_more in omega (arith, lt, le));
  reading = λ top h. subst (λ v. IsReading (flat_of v) top) (sym old_more.same)
      (s.reading top (subst (λ v. Contains v.stacks top) (state_kept old mid old_more p.old s.old_within) h));
}

pub more_pairs : (old new : PairSearch) → AreMoreStates old.olds new.olds → AreMoreStates old.news new.news
    → new.pairs.items.items ≡ old.pairs.items.items → AreMorePairs old new
more_pairs old new olds news same = record {
  olds = olds;
  news = news;
  kept = λ i p h. subst (λ v. slice_get v i ≡ Some p) (sym same) h;
  sound = λ s i p h. sound_kept old.olds new.olds old.news new.news olds news p
      (s i p (subst (λ v. slice_get v i ≡ Some p) same h));
}

-- a pair was added
module _ (pairs added : List SearchedPair) (p : SearchedPair) (is : IsPairAdded pairs p added) where
  pub added_kept : (i : ℕ) (q : SearchedPair) → slice_get pairs i ≡ Some q → slice_get added i ≡ Some q
  added_kept i q h = by is
    where
      by : ((added ≡ pairs) × HasPair pairs p.old p.new) ⊎ (added ≡ pairs ++ p ∷ []) → slice_get added i ≡ Some q
      by (inl same) = subst (λ v. slice_get v i ≡ Some q) (sym same.0) h
      by (inr grown) = subst (λ v. slice_get v i ≡ Some q) (sym grown) (get_left pairs (p ∷ []) i q h)

  pub added_sound : (olds news : StateSets) → AreSound olds news pairs → IsSoundPair olds news p
      → AreSound olds news added
  added_sound olds news sound now i q h = by is
    where
      last : (slice_get pairs i ≡ Some q) ⊎ ((i ≡ length pairs) × (p ≡ q)) → IsSoundPair olds news q
      last (inl there) = sound i q there
      last (inr same) = subst (λ v. IsSoundPair olds news v) same.1 now

      by : ((added ≡ pairs) × HasPair pairs p.old p.new) ⊎ (added ≡ pairs ++ p ∷ []) → IsSoundPair olds news q
      by (inl same) = sound i q (subst (λ v. slice_get v i ≡ Some q) same.0 h)
      by (inr grown) = last (push_cases pairs p i q (subst (λ v. slice_get v i ≡ Some q) grown h))

  pub added_has : (olds news : StateSets) → Contains (state_pairs olds news added) (state_pair olds news p)
  added_has olds news = by is
    where
      at_index : (i : ℕ) (q : SearchedPair) → slice_get added i ≡ Some q
          → Contains (state_pairs olds news added) (state_pair olds news q)
      at_index i q h = contained_at (state_pairs olds news added) i (state_pair olds news q)
          (get_map (state_pair olds news) added i h)

      same_pair : (q : SearchedPair) → q.old ≡ p.old → q.new ≡ p.new → state_pair olds news q ≡ state_pair olds news p
      same_pair q old_is new_is =
          ap (λ v. state_pair olds news (record { old = v; new = q.new; parent = 0; symbol = 0 })) old_is
          ∙ ap (λ v. state_pair olds news (record { old = p.old; new = v; parent = 0; symbol = 0 })) new_is

      by : ((added ≡ pairs) × HasPair pairs p.old p.new) ⊎ (added ≡ pairs ++ p ∷ [])
          → Contains (state_pairs olds news added) (state_pair olds news p)
      by (inl same) =
          let h = same.1 in
          subst (λ v. Contains (state_pairs olds news added) v) (same_pair h.pair h.old_is h.new_is)
          (at_index h.index h.pair (subst (λ v. slice_get v h.index ≡ Some h.pair) (sym same.0) h.is))
      by (inr grown) = at_index (length pairs) p (subst (λ v. slice_get v (length pairs) ≡ Some p) (sym grown)
          (get_end pairs p))

pub more_added : (old new : PairSearch) → AreMoreStates old.olds new.olds → AreMoreStates old.news new.news
    → (p : SearchedPair) → IsPairAdded old.pairs.items.items p new.pairs.items.items
    → IsSoundPair new.olds new.news p → AreMorePairs old new
more_added old new olds news p added now = record {
  olds = olds;
  news = news;
  kept = added_kept old.pairs.items.items new.pairs.items.items p added;
  sound = λ s. added_sound old.pairs.items.items new.pairs.items.items p added new.olds new.news
      (λ i q h. sound_kept old.olds new.olds old.news new.news olds news q (s i q h)) now;
}

-- a transition of both states
module _ (olds news : StateSets) (c : ℕ) (p q : SearchedPair) (old_next : IsNextState olds c p.old q.old)
    (new_next : IsNextState news c p.new q.new) where
  pub next_sound : IsSoundPair olds news q
  next_sound = record {
    old_within = slice_get_within olds.states q.old old_next.to old_next.to_is;
    new_within = slice_get_within news.states q.new new_next.to new_next.to_is;
    reading = λ top h. (((side_next c olds p.old q.old old_next).tops_are top).0 h).0;
  }

  pub next_leads : (pairs added : List SearchedPair) → IsPairAdded pairs q added
      → LeadsInto (grammar_of olds) (last_in olds) (grammar_of news) (last_in news) (state_pairs olds news added) c
      (state_pair olds news p)
  next_leads pairs added is = record {
    next = state_pair olds news q;
    is = added_has pairs added q is olds news;
    leads = record {
      old_next = side_next c olds p.old q.old old_next;
      new_next = side_next c news p.new q.new new_next;
    };
  }

-- .. from the pair of an index
pub lead_found : (olds news : StateSets) (c : ℕ) (pairs added : List SearchedPair) (at : ℕ) (found p q : SearchedPair)
    → slice_get pairs at ≡ Some found → slice_get pairs at ≡ Some p → IsNextState olds c found.old q.old
    → IsNextState news c found.new q.new → IsPairAdded pairs q added
    → LeadsInto (grammar_of olds) (last_in olds) (grammar_of news) (last_in news) (state_pairs olds news added) c
    (state_pair olds news p)
lead_found olds news c pairs added at found p q at_found at_p old_next new_next is =
    let same : found ≡ p = cc (at_found, at_p) in
    subst (λ v. LeadsInto (grammar_of olds) (last_in olds) (grammar_of news) (last_in news)
    (state_pairs olds news added) c (state_pair olds news v)) same
    (next_leads olds news c found q old_next new_next pairs added is)

-- a cut of both states
module _ (olds news : StateSets) (p tops below : SearchedPair) (old_cut : IsCutState olds p.old tops.old below.old)
    (new_cut : IsCutState news p.new tops.new below.new) where
  pub tops_sound : IsSoundPair olds news tops
  tops_sound = record {
    old_within = slice_get_within olds.states tops.old old_cut.top_set old_cut.tops_are;
    new_within = slice_get_within news.states tops.new new_cut.top_set new_cut.tops_are;
    reading = λ top h. old_cut.reading top
        (subst (λ v. Contains v.stacks top) (state_is olds tops.old old_cut.top_set old_cut.tops_are) h);
  }

  pub below_sound : IsSoundPair olds news below
  below_sound = record {
    old_within = slice_get_within olds.states below.old old_cut.below_set old_cut.below_is;
    new_within = slice_get_within news.states below.new new_cut.below_set new_cut.below_is;
    reading = λ top h. ((old_cut.goes_on.tops_are top).0
        (subst (λ v. Contains v.stacks top) (state_is olds below.old old_cut.below_set old_cut.below_is) h)).0;
  }

  cut_into : (state_at olds below.old).ended ≡ false
      → IsCutInto (grammar_of olds) (last_in olds) (grammar_of news) (last_in news) (state_pair olds news p)
      (state_pair olds news tops) (state_pair olds news below)
  cut_into runs = record {
    old_suffixes = old_cut.suffixes;
    new_suffixes = new_cut.suffixes;
    runs = ap (λ v. v.ended) old_whole ∙ old_cut.runs;
    new_tops_run = ap (λ v. v.ended) new_top ∙ new_cut.tops_run;
    below_runs = runs;
    split = λ stack h. subst (λ v. IsTopOnSuffix v.stacks old_cut.suffixes stack) (sym old_top)
        (old_cut.split stack (subst (λ v. Contains v.stacks stack) old_whole h));
    old_full = old_cut.full;
    new_full = new_cut.full;
    joined = subst (λ v. AreAllJoined v.stacks new_cut.suffixes (state_at news p.new).stacks) (sym new_top)
        (subst (λ v. AreAllJoined new_cut.top_set.stacks new_cut.suffixes v.stacks) (sym new_whole) new_cut.joined);
    old_below = subst (λ v. IsStateFrom (grammar_of olds) (last_in olds) (Contains old_cut.suffixes) v.stacks v.ended)
        (sym (state_is olds below.old old_cut.below_set old_cut.below_is)) old_cut.goes_on;
    new_below = subst (λ v. IsStateFrom (grammar_of news) (last_in news) (Contains new_cut.suffixes) v.stacks v.ended)
        (sym (state_is news below.new new_cut.below_set new_cut.below_is)) new_cut.goes_on;
  }
    where
      old_whole : state_at olds p.old ≡ old_cut.whole_set
      old_whole = state_is olds p.old old_cut.whole_set old_cut.whole_is

      new_whole : state_at news p.new ≡ new_cut.whole_set
      new_whole = state_is news p.new new_cut.whole_set new_cut.whole_is

      old_top : state_at olds tops.old ≡ old_cut.top_set
      old_top = state_is olds tops.old old_cut.top_set old_cut.tops_are

      new_top : state_at news tops.new ≡ new_cut.top_set
      new_top = state_is news tops.new new_cut.top_set new_cut.tops_are

  pub cut_followed : (runs : (state_at olds below.old).ended ≡ false) (pairs mid added : List SearchedPair)
      → IsPairAdded pairs tops mid → IsPairAdded mid below added → (samples : List ℕ) (at : ℕ)
      → IsFollowed (grammar_of olds) (last_in olds) (grammar_of news) (last_in news) samples
      (state_pairs olds news added) at (state_pair olds news p)
  cut_followed runs pairs mid added one two samples at =
      cut (cut_into runs) on_tops (added_has mid added below two olds news)
    where
      on_tops : Contains (state_pairs olds news added) (state_pair olds news tops)
      on_tops =
          let h = added_has pairs mid tops one olds news in
          let u = get_unmap (state_pair olds news) mid h.0 (state_pair olds news tops)
          (got_at (state_pairs olds news mid) (state_pair olds news tops) h) in
          subst (λ v. Contains (state_pairs olds news added) v) u.is
          (contained_at (state_pairs olds news added) h.0 (state_pair olds news u.from)
          (get_map (state_pair olds news) added h.0 (added_kept mid added below two h.0 u.from u.at)))

-- .. from the pair of an index
pub cut_found : (olds news : StateSets) (found p tops below : SearchedPair)
    → IsCutState olds found.old tops.old below.old → IsCutState news found.new tops.new below.new
    → (state_at olds below.old).ended ≡ false → (pairs mid added : List SearchedPair) → IsPairAdded pairs tops mid
    → IsPairAdded mid below added → (samples : List ℕ) (at : ℕ) → slice_get pairs at ≡ Some found
    → slice_get pairs at ≡ Some p
    → IsFollowed (grammar_of olds) (last_in olds) (grammar_of news) (last_in news) samples
    (state_pairs olds news added) at (state_pair olds news p)
cut_found olds news found p tops below old_cut new_cut runs pairs mid added one two samples at at_found at_p =
    let same : found ≡ p = cc (at_found, at_p) in
    subst (λ v. IsFollowed (grammar_of olds) (last_in olds) (grammar_of news) (last_in news) samples
    (state_pairs olds news added) at (state_pair olds news v)) same
    (cut_followed olds news found tops below old_cut new_cut runs pairs mid added one two samples at)

pub more_twice : (old new : PairSearch) (mid : List SearchedPair) → AreMoreStates old.olds new.olds
    → AreMoreStates old.news new.news → (p q : SearchedPair) → IsPairAdded old.pairs.items.items p mid
    → IsPairAdded mid q new.pairs.items.items → IsSoundPair new.olds new.news p → IsSoundPair new.olds new.news q
    → AreMorePairs old new
more_twice old new mid olds news p q one two first second = record {
  olds = olds;
  news = news;
  kept = λ i r h. added_kept mid new.pairs.items.items q two i r
      (added_kept old.pairs.items.items mid p one i r h);
  sound = λ s. added_sound mid new.pairs.items.items q two new.olds new.news
      (added_sound old.pairs.items.items mid p one new.olds new.news
      (λ i r h. sound_kept old.olds new.olds old.news new.news olds news r (s i r h)) first) second;
}

-- a new state without further stacks
pub covered_by : (olds news : StateSets) (other p : SearchedPair) → other.old ≡ p.old
    → IsStateWithin (state_at news other.new) (state_at news p.new)
    → AsksMore (state_pair olds news other) (state_pair olds news p)
covered_by olds news other p same within = record {
  old_are = λ stack h. subst (λ v. Contains (state_at olds v).stacks stack) (sym same) h;
  old_ends = λ e. subst (λ v. (state_at olds v).ended ≡ true) (sym same) e;
  new_are = within.stacks_are;
  new_ends = within.ends;
}

-- pairs were added
module _ (old : Flat) (old_last : Dot → Bool) (new : Flat) (new_last : Dot → Bool) (pairs others : List StatePair)
    (kept : (k : ℕ) (q : StatePair) → slice_get pairs k ≡ Some q → slice_get others k ≡ Some q) where
  still_there : (q : StatePair) → Contains pairs q → Contains others q
  still_there q h = contained_at others h.0 q (kept h.0 q (got_at pairs q h))

  leads_still : (c : ℕ) (p : StatePair) → LeadsInto old old_last new new_last pairs c p
      → LeadsInto old old_last new new_last others c p
  leads_still c p l = record { next = l.next; is = still_there l.next l.is; leads = l.leads }

  followed_still : (samples : List ℕ) (i : ℕ) (p : StatePair)
      → IsFollowed old old_last new new_last samples pairs i p
      → IsFollowed old old_last new new_last samples others i p
  followed_still samples i p (dead none) = dead none
  followed_still samples i p (leads on) = leads (λ c h. leads_still c p (on c h))
  followed_still samples i p (cut {tops = tops} {below = below} into on_tops on_below) =
      cut into (still_there tops on_tops) (still_there below on_below)
  followed_still samples i p (more {j = j} {other = other} before at asks) = more before (kept j other at) asks

module _ (old new : PairSearch) (are : AreMorePairs old new) (sound : AreSoundIn old) where
  abbrev Old : SearchedPair → StatePair
  Old = state_pair old.olds old.news

  abbrev Olds : List StatePair
  Olds = state_pairs old.olds old.news old.pairs.items.items

  abbrev News : List StatePair
  News = state_pairs new.olds new.news new.pairs.items.items

  pub pair_same : (p : SearchedPair) → IsSoundPair old.olds old.news p → state_pair new.olds new.news p ≡ Old p
  pair_same p s = ap (λ v. v.pair)
      (pair_kept old.olds new.olds old.news new.news are.olds are.news p s.old_within s.new_within)

  still_at : (k : ℕ) (q : StatePair) → slice_get Olds k ≡ Some q → slice_get News k ≡ Some q
  still_at k q is =
      let u = get_unmap Old old.pairs.items.items k q is in
      subst (λ v. slice_get News k ≡ Some v) (pair_same u.from (sound k u.from u.at) ∙ u.is)
      (get_map (state_pair new.olds new.news) new.pairs.items.items k (are.kept k u.from u.at))

  pub leads_kept : (c : ℕ) (p : SearchedPair) → IsSoundPair old.olds old.news p → LeadsIn old c p → LeadsIn new c p
  leads_kept c p s l =
      subst (λ v. LeadsInto (grammar_of new.olds) (last_in new.olds) (grammar_of new.news) (last_in new.news) News c v)
      (sym (pair_same p s))
      (leads_still (grammar_of new.olds) (last_in new.olds) (grammar_of new.news) (last_in new.news) Olds News still_at
      c (Old p)
      (subst (λ v. LeadsInto (flat_of v) (last_of v) (grammar_of new.news) (last_in new.news) Olds c (Old p))
      (sym are.olds.same)
      (subst (λ v. LeadsInto (grammar_of old.olds) (last_in old.olds) (flat_of v) (last_of v) Olds c (Old p))
      (sym are.news.same) l)))

  followed_kept : (samples : List ℕ) (i : ℕ) (p : SearchedPair) → IsSoundPair old.olds old.news p
      → IsFollowedIn old samples i p → IsFollowedIn new samples i p
  followed_kept samples i p s f =
      subst (λ v. IsFollowed (grammar_of new.olds) (last_in new.olds) (grammar_of new.news) (last_in new.news) samples
      News i v) (sym (pair_same p s))
      (followed_still (grammar_of new.olds) (last_in new.olds) (grammar_of new.news) (last_in new.news) Olds News
      still_at samples i (Old p)
      (subst (λ v. IsFollowed (flat_of v) (last_of v) (grammar_of new.news) (last_in new.news) samples Olds i (Old p))
      (sym are.olds.same)
      (subst (λ v. IsFollowed (grammar_of old.olds) (last_in old.olds) (flat_of v) (last_of v) samples Olds i (Old p))
      (sym are.news.same) f)))

  starts_kept : (p : SearchedPair) → IsSoundPair old.olds old.news p
      → IsStartPair (grammar_of old.olds) (last_in old.olds) (grammar_of old.news) (last_in old.news) (Old p)
      → IsStartPair (grammar_of new.olds) (last_in new.olds) (grammar_of new.news) (last_in new.news)
      (state_pair new.olds new.news p)
  starts_kept p s b =
      subst (λ v. IsStartPair (grammar_of new.olds) (last_in new.olds) (grammar_of new.news) (last_in new.news) v)
      (sym (pair_same p s))
      (subst (λ v. IsStartPair (flat_of v) (last_of v) (grammar_of new.news) (last_in new.news) (Old p))
      (sym are.olds.same)
      (subst (λ v. IsStartPair (grammar_of old.olds) (last_in old.olds) (flat_of v) (last_of v) (Old p))
      (sym are.news.same) b))

-- one more sample leads on
pub lead_more : (samples : List ℕ) (start now next : PairSearch) → AreMorePairs start now → AreMorePairs now next
    → (at k : ℕ) (p : SearchedPair) → slice_get start.pairs.items.items at ≡ Some p → AreSoundIn start
    → ((j c : ℕ) → j < k → slice_get samples j ≡ Some c → LeadsIn now c p) → (symbol : ℕ)
    → slice_get samples k ≡ Some symbol → LeadsIn next symbol p → (j c : ℕ) → j < k + 1 → slice_get samples j ≡ Some c
    → LeadsIn next c p
lead_more samples start now next begun are at k p at_p sound before symbol at_k last j c lt is = by (cases_lt j k)
  where
    by : (j < k) ⊎ (k ≤ j) → LeadsIn next c p
    by (inl less) =
        leads_kept now next are (begun.sound sound) c p (begun.sound sound at p (begun.kept at p at_p))
        (before j c less is)
    by (inr le) =
        let here : j ≡ k = omega (arith, le, lt) in
        let both : Some symbol ≡ Some c = sym at_k ∙ subst (λ v. slice_get samples v ≡ Some c) here is in
        subst (λ v. LeadsIn next v p) (cc both) last

-- one more pair follows
pub cut_step : (samples : List ℕ) (old new : PairSearch) (n : ℕ) → AreMorePairs old new → IsCutSearch samples old n
    → (p : SearchedPair) → slice_get old.pairs.items.items n ≡ Some p
    → ((state_pair old.olds old.news p).old_ended ≡ true → (state_pair old.olds old.news p).new_ended ≡ true)
    → IsFollowedIn new samples n p → IsCutSearch samples new (n + 1)
cut_step samples old new n are s p at_n agree now = record {
  first = s.first;
  is_first = are.kept 0 s.first s.is_first;
  starts = starts_kept old new are s.sound s.first (s.sound 0 s.first s.is_first) s.starts;
  sound = are.sound s.sound;
  ends = λ i q lt is. ends i q lt is (cases_lt i n);
  followed = λ i q lt is. followed i q lt is (cases_lt i n);
}
  where
    within : n < length old.pairs.items.items
    within = slice_get_within old.pairs.items.items n p at_n

    there : (xs : List SearchedPair) (i : ℕ) → i < length xs → (q : SearchedPair) × (slice_get xs i ≡ Some q)
    there [] i lt = absurd (omega (arith, lt))
    there (x ∷ xs) zero lt = (x, refl)
    there (x ∷ xs) (suc i) lt = there xs i (omega (arith, lt))

    -- what is there now was there before
    back : (i : ℕ) (q : SearchedPair) → i < n + 1 → slice_get new.pairs.items.items i ≡ Some q
        → slice_get old.pairs.items.items i ≡ Some q
    back i q lt is =
        let t = there old.pairs.items.items i (omega (arith, lt, within)) in
        let both : Some t.0 ≡ Some q = sym (are.kept i t.0 t.1) ∙ is in
        subst (λ v. slice_get old.pairs.items.items i ≡ Some v) (cc both) t.1

    here : (i : ℕ) (q : SearchedPair) → i < n + 1 → n ≤ i → slice_get new.pairs.items.items i ≡ Some q
        → (n ≡ i) × (p ≡ q)
    here i q lt le is =
        let same : n ≡ i = omega (arith, lt, le) in
        let both : Some p ≡ Some q = sym at_n
        ∙ subst (λ v. slice_get old.pairs.items.items v ≡ Some q) (sym same) (back i q lt is) in
        (same, cc both)

    ends_as : (q : SearchedPair) → IsSoundPair old.olds old.news q
        → ((state_pair old.olds old.news q).old_ended ≡ true → (state_pair old.olds old.news q).new_ended ≡ true)
        → (state_pair new.olds new.news q).old_ended ≡ true → (state_pair new.olds new.news q).new_ended ≡ true
    ends_as q sound h = subst (λ v. v.old_ended ≡ true → v.new_ended ≡ true)
        (sym (pair_same old new are s.sound q sound)) h

    ends : (i : ℕ) (q : SearchedPair) → i < n + 1 → slice_get new.pairs.items.items i ≡ Some q → (i < n) ⊎ (n ≤ i)
        → (state_pair new.olds new.news q).old_ended ≡ true → (state_pair new.olds new.news q).new_ended ≡ true
    ends i q lt is (inl less) =
        let was = back i q lt is in ends_as q (s.sound i q was) (s.ends i q less was)
    ends i q lt is (inr le) =
        let h = here i q lt le is in
        subst (λ v. (state_pair new.olds new.news v).old_ended ≡ true
        → (state_pair new.olds new.news v).new_ended ≡ true) h.1 (ends_as p (s.sound n p at_n) agree)

    followed : (i : ℕ) (q : SearchedPair) → i < n + 1 → slice_get new.pairs.items.items i ≡ Some q
        → (i < n) ⊎ (n ≤ i) → IsFollowedIn new samples i q
    followed i q lt is (inl less) =
        let was = back i q lt is in
        followed_kept old new are s.sound samples i q (s.sound i q was) (s.followed i q less was)
    followed i q lt is (inr le) =
        let h = here i q lt le is in
        subst (λ v. IsFollowedIn new samples v q) h.0 (subst (λ v. IsFollowedIn new samples n v) h.1 now)

-- the states of a pair by their numbers
state_there : (xs : List StateSet) (j : ℕ) → j < length xs → (got : StateSet) × (slice_get xs j ≡ Some got)
state_there [] j lt = absurd (omega (arith, lt))
state_there (x ∷ xs) zero lt = (x, refl)
state_there (x ∷ xs) (suc j) lt = state_there xs j (omega (arith, lt))

pub at_state : (sets : StateSets) (j : ℕ) → j < length sets.states → slice_get sets.states j ≡ Some (state_at sets j)
at_state sets j lt =
    let g = state_there sets.states j lt in
    subst (λ v. slice_get sets.states j ≡ Some v) (sym (state_is sets j g.0 g.1)) g.1

-- the first pair of a search
pub cut_begun : (search : PairSearch) → ((has : ℕ → Bool) (samples : List ℕ) → Searches has samples search 0 0 0)
    → (samples : List ℕ) → IsCutSearch samples search 0
cut_begun search searches samples = record {
  first = u.from;
  is_first = u.at;
  starts = starts;
  sound = λ i p is. record {
    old_within = s.old_within i p is;
    new_within = s.new_within i p is;
    reading = reading i p is;
  };
  ends = λ i p lt. absurd (omega (arith, lt));
  followed = λ i p lt. absurd (omega (arith, lt));
}
  where
    s : Searches (λ c. true) samples search 0 0 0
    s = searches (λ c. true) samples

    u : Unmapped (found_pair search.olds search.news) search.pairs.items.items 0 s.found.first
    u = get_unmap (found_pair search.olds search.news) search.pairs.items.items 0 s.found.first s.found.is_first

    starts : IsStartPair (grammar_of search.olds) (last_in search.olds) (grammar_of search.news) (last_in search.news)
        (state_pair search.olds search.news u.from)
    starts = subst (λ v. IsStartPair (grammar_of search.olds) (last_in search.olds) (grammar_of search.news)
        (last_in search.news) v.pair) (sym u.is) s.found.starts

    reading : (i : ℕ) (p : SearchedPair) → slice_get search.pairs.items.items i ≡ Some p → (top : List Dot)
        → Contains (state_at search.olds p.old).stacks top → IsReading (grammar_of search.olds) top
    reading zero p is top h =
        let both : Some u.from ≡ Some p = sym u.at ∙ is in
        let same : u.from ≡ p = cc both in
        (starts.old_starts []).all_read top
        (subst (λ v. Contains (state_at search.olds v.old).stacks top) (sym same) h)
    reading (suc i) p is top h = absurd (none (s.recent (suc i) p (omega arith) is))
      where
        none : (p.parent < 0) ⊎ ((p.parent ≡ 0) × (j : ℕ) × (j < 0) × (slice_get samples j ≡ Some p.symbol)) → ⊥
        none (inl lt) = omega (arith, lt)
        none (inr g) = let lt = g.2 in omega (arith, lt)

-- all pairs follow
module _ (old new : Flat) (has : ℕ → Bool) (samples : List ℕ) (search : PairSearch) (old_rules new_rules : List Rule)
    (old_rule new_rule : ℕ) (olds_are : AreOfGrammar old search.olds) (news_are : AreOfGrammar new search.news)
    (each : AreSamples (grammar_of search.olds) (grammar_of search.news) has samples)
    (old_derives : DerivesAsRule has old_rules old_rule old) (new_derives : DerivesAsRule has new_rules new_rule new)
    (n : ℕ) (le : length search.pairs.items.items ≤ n) (s : IsCutSearch samples search n) where
  abbrev Pair : SearchedPair → StatePair
  Pair = state_pair search.olds search.news

  abbrev Pairs : List StatePair
  Pairs = state_pairs search.olds search.news search.pairs.items.items

  all_closed : AreClosedByCuts (grammar_of search.olds) (last_in search.olds) (grammar_of search.news)
      (last_in search.news) samples Pairs
  all_closed = record {
    ends = λ p h. let u = got p h in
        subst (λ v. v.old_ended ≡ true → v.new_ended ≡ true) u.is (s.ends h.0 u.from (below h.0 u.from u.at) u.at);
    reading = λ p h top g. let u = got p h in
        (s.sound h.0 u.from u.at).reading top (subst (λ v. Contains v.old top) (sym u.is) g);
    followed = λ i p is. let u = get_unmap Pair search.pairs.items.items i p is in
        subst (λ v. IsFollowed (grammar_of search.olds) (last_in search.olds) (grammar_of search.news)
        (last_in search.news) samples Pairs i v) u.is (s.followed i u.from (below i u.from u.at) u.at);
  }
    where
      got : (p : StatePair) (h : Contains Pairs p) → Unmapped Pair search.pairs.items.items h.0 p
      got p h = get_unmap Pair search.pairs.items.items h.0 p (got_at Pairs p h)

      below : (i : ℕ) (p : SearchedPair) → slice_get search.pairs.items.items i ≡ Some p → i < n
      below i p is =
          let w = slice_get_within search.pairs.items.items i p is in omega (arith, w, le)

  pub none_alone : HasNoLine (IsOfOldAlone has old_rules old_rule new_rules new_rule)
  none_alone x alone =
      alone.not_new
      (accepted_derived has new_rules new_rule (grammar_of search.news) (last_in search.news) (length x)
      (accepts_lines has new_rules new_rule new search.news news_are new_derives (length x)) x (omega arith)
      alone.symbols
      (accepted_by_cuts has (grammar_of search.olds) (last_in search.olds) (grammar_of search.news)
      (last_in search.news) samples each Pairs all_closed (Pair s.first)
      (contained_at Pairs 0 (Pair s.first) (get_map Pair search.pairs.items.items 0 s.is_first))
      (starts_from (grammar_of search.olds) (last_in search.olds) (Pair s.first).old (Pair s.first).old_ended
      s.starts.old_starts)
      (starts_from (grammar_of search.news) (last_in search.news) (Pair s.first).new (Pair s.first).new_ended
      s.starts.new_starts) x alone.symbols
      (derived_accepted has old_rules old_rule (grammar_of search.olds) (last_in search.olds) (length x)
      (accepts_lines has old_rules old_rule old search.olds olds_are old_derives (length x)) x (omega arith)
      alone.symbols alone.derives)))
