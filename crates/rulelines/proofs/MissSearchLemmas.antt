-- A step of a search of states.
-- Serves: next_prefix, begin_search
use Rattle.std.proofs.Common.{◌≡◌, ◌↔◌, ◌⊎◌, inl, inr, ℕ, zero, suc, ◌+◌, ◌<◌, List, [], ◌∷◌, ◌++◌, length, refl}
use Rattle.std.proofs.Common.{sym, ◌∙◌, ap, subst, arith, length-append}
use Rattle.std.proofs.lemmas.Option.{slice_get_within}
use Rattle.std.specs.Prelude.{Bool, true, false, Some, slice_get, Contains, IsTrue}
use Rattle.flatgrammar.specs.Flat.{Flat, Dot}
use Rattle.flatgrammar.specs.NodeSteps.{flat_of}
use Rattle.flatgrammar.proofs.CallOfLemmas.{get_map, get_unmap}
use Rattle.flatgrammar.proofs.SliceGetLemmas.{push_cases}
use Rattle.flatgrammar.specs.Stacks.{IsNext}
use Rattle.lazydfa.specs.Conts.{last_of}
use Rattle.lazydfa.specs.StateSets.{AreMoreStates, grammar_of, IsNextState, last_in, StateSet, StateSets}
use Rattle.rulelines.specs.declared.pairs.SearchedPair.{SearchedPair}
use Rattle.rulelines.specs.FoundPairs.{IsWordOf, next, start}
use Rattle.rulelines.specs.MissSearch.{AreFoundStill, AreLedBy, FoundStates, IsExpandedTo, IsFoundAt, IsLedBy}
use Rattle.rulelines.specs.MissSearch.{IsLedFrom, IsLive, IsStateSearch, IsWordIn}
use Rattle.rulelines.specs.Search.{found_pair, found_pairs, IsPairAdded}
use Rattle.rulelines.proofs.OldAloneLemmas.{search_begun}
use Rattle.rulelines.proofs.SearchLemmas.{get_left, search_kept, search_next}
use Rattle.rulelines.proofs.StatePairsLemmas.{element_at}
use Rattle.rulelines.proofs.StateTableLemmas.{more_trans, no_more, one_element, state_kept}
use Rattle.lazydfa.specs.StateSets.{IsStartState}

-- what was found is there still
pub added_still : (old new : List SearchedPair) (p : SearchedPair) → IsPairAdded old p new → AreFoundStill old new
added_still old new p (inl h) i q is = subst (λ v. slice_get v i ≡ Some q) (sym h.0) is
added_still old new p (inr added) i q is =
    subst (λ v. slice_get v i ≡ Some q) (sym added) (get_left old (p ∷ []) i q is)

-- words stay
pub word_still : (old new : List SearchedPair) → AreFoundStill old new → (i : ℕ) (w : List ℕ) → IsWordIn old i w
    → IsWordIn new i w
word_still old new still i w is olds news = on (is olds news)
  where
    on : {i : ℕ} {w : List ℕ} → IsWordOf (found_pairs olds news old) i w → IsWordOf (found_pairs olds news new) i w
    on start = start
    on (next {i = i} {e = e} {w = w} at earlier h) =
        let u = get_unmap (found_pair olds news) old i e at in
        subst (λ v. IsWordOf (found_pairs olds news new) i (w ++ v.symbol ∷ [])) u.is
        (next {e = found_pair olds news u.from} (get_map (found_pair olds news) new i (still i u.from u.at))
        (subst (λ v. v.parent < i) (sym u.is) earlier)
        (subst (λ v. IsWordOf (found_pairs olds news new) v.parent w) (sym u.is) (on h)))

-- a state by its number was there before
pub state_back : (old new : StateSets) → AreMoreStates old new → (n : ℕ) (s : StateSet) → n < length old.states
    → slice_get new.states n ≡ Some s → slice_get old.states n ≡ Some s
state_back old new more n s lt is =
    let g = element_at old.states n lt in
    g.1 ∙ ap (λ v. Some v) (one_element new.states n g.0 s (state_kept old new more n g.0 g.1) is)

module _ (old new : FoundStates) (more : AreMoreStates old.states new.states)
    (still : AreFoundStill old.pairs new.pairs) where
  pub found_still : (i : ℕ) (s : StateSet) → IsFoundAt old i s → IsFoundAt new i s
  found_still i s f = (f.0, still i f.0 f.1, state_kept old.states new.states more f.0.old s f.2)

  pub found_back : (has : ℕ → Bool) (samples : List ℕ) (n k : ℕ)
      → IsStateSearch has samples old.states old.pairs n k → (i : ℕ) → i < length old.pairs
      → (s : StateSet) → IsFoundAt new i s → IsFoundAt old i s
  found_back has samples n k search i lt s f =
      let g = element_at old.pairs i lt in
      let same = one_element new.pairs i g.0 f.0 (still i g.0 g.1) f.1 in (
        g.0,
        g.1,
        state_back old.states new.states more g.0.old s (search.found.old_within i g.0 g.1)
            (subst (λ v. slice_get new.states.states v.old ≡ Some s) (sym same) f.2),
      )

-- a symbol leads to a state, which is live or not
module _ (sets more : StateSets) (grown : AreMoreStates sets more) (c n t : ℕ) (l : IsNextState more c n t)
    (s : StateSet) (is : slice_get sets.states n ≡ Some s) where
  abbrev Here : StateSet → Type 0
  Here to = IsNext (grammar_of sets) (last_in sets) (Contains s.stacks) c (Contains to.stacks) to.ended

  leads_here : Here l.to
  leads_here = subst (λ v. IsNext (flat_of v) (last_of v) (Contains s.stacks) c (Contains l.to.stacks) l.to.ended)
      grown.same
      (subst (λ v. IsNext (grammar_of more) (last_in more) (Contains v.stacks) c (Contains l.to.stacks) l.to.ended)
      (one_element more.states n l.from s l.from_is (state_kept sets more grown n s is)) l.next)

  pub led_by : (live : Bool) → ((to : StateSet) → slice_get more.states t ≡ Some to → IsTrue live ↔ IsLive to)
      → IsLedBy (grammar_of sets) (last_in sets) s c live
  led_by true reported = record {
    to = l.to;
    next = leads_here;
    live = (reported l.to l.to_is).0 refl;
  }
  led_by false reported = record {
    to = l.to;
    next = leads_here;
    dead = λ h. cc ((reported l.to l.to_is).1 h);
  }

-- one symbol was followed
pub was_led : (old new : FoundStates) (at c t : ℕ) (p : SearchedPair) (live : Bool)
    → slice_get old.pairs at ≡ Some p → AreMoreStates old.states new.states → new.at ≡ old.at
    → IsNextState new.states c p.old t
    → IsPairAdded old.pairs (record { old = t; new = t; parent = at; symbol = c }) new.pairs
    → ((to : StateSet) → slice_get new.states.states t ≡ Some to → IsTrue live ↔ IsLive to)
    → IsLedFrom old new at c live
was_led old new at c t p live at_p more index led added reported = record {
  more = more;
  still = added_still old.pairs new.pairs _ added;
  index = index;
  search = λ has samples k s in_order at_k. record {
    found = search_next has samples in_order new.states new.states old.pairs new.pairs at k 0
        (search_kept old.states new.states old.states new.states more more has samples old.pairs at k 0
        s.found) p at_p c at_k t t led (subst (λ v. IsNextState new.states c v t) (sym (s.own at p at_p)) led) added;
    own = λ i q is. own s.own i q added is;
  };
  leads = λ s f. led_by old.states new.states more c p.old t led s
      (subst (λ v. slice_get old.states.states v.old ≡ Some s) (one_element old.pairs at f.0 p f.1 at_p) f.2)
      live reported;
}
  where
    own : ((i : ℕ) (q : SearchedPair) → slice_get old.pairs i ≡ Some q → q.new ≡ q.old) → (i : ℕ)
        (q : SearchedPair) → IsPairAdded old.pairs (record { old = t; new = t; parent = at; symbol = c }) new.pairs
        → slice_get new.pairs i ≡ Some q → q.new ≡ q.old
    own before i q (inl h) is = before i q (subst (λ v. slice_get v i ≡ Some q) h.0 is)
    own before i q (inr grown) is =
        by (push_cases old.pairs (record { old = t; new = t; parent = at; symbol = c }) i q
        (subst (λ v. slice_get v i ≡ Some q) grown is))
      where
        by : (slice_get old.pairs i ≡ Some q)
            ⊎ ((i ≡ length old.pairs) × (record { old = t; new = t; parent = at; symbol = c } ≡ q))
            → q.new ≡ q.old
        by (inl h) = before i q h
        by (inr h) = subst (λ (v : SearchedPair). v.new ≡ v.old) h.1 refl

-- no sample was followed, or one more
module _ (samples : List ℕ) where
  pub none_expanded : (search : FoundStates) (at : ℕ) → IsExpandedTo samples 0 search search at []
  none_expanded search at = record {
    count = refl;
    more = no_more search.states;
    still = λ i p is. is;
    index = refl;
    search = λ has in_order s. s;
    led = λ s f j c b lt. absurd (omega (arith, lt));
  }

  led_more : (flat : Flat) (last : Dot → Bool) (s : StateSet) (k c : ℕ) (live : List Bool) (b : Bool)
      → slice_get samples k ≡ Some c → length live ≡ k → AreLedBy flat last samples k s live → IsLedBy flat last s c b
      → AreLedBy flat last samples (k + 1) s (live ++ b ∷ [])
  led_more flat last s k c live b at_k count before here j d a lt at_j is = by (push_cases live b j a is)
    where
      by : (slice_get live j ≡ Some a) ⊎ ((j ≡ length live) × (b ≡ a)) → IsLedBy flat last s d a
      by (inl old) =
          let within = slice_get_within live j a old in
          before j d a (omega (arith, within, count)) at_j old
      by (inr end) =
          let same : j ≡ k = end.0 ∙ count in
          let at_d : slice_get samples k ≡ Some d = subst (λ v. slice_get samples v ≡ Some d) same at_j in
          let one : c ≡ d = cc (at_k, at_d) in
          subst (λ v. IsLedBy flat last s v a) one (subst (λ v. IsLedBy flat last s c v) end.1 here)

  pub one_expanded : (old mid new : FoundStates) (at k c : ℕ) (live more : List Bool) (b : Bool)
      → slice_get samples k ≡ Some c → IsExpandedTo samples k old mid at live → IsLedFrom mid new at c b
      → more ≡ live ++ b ∷ [] → IsExpandedTo samples (k + 1) old new at more
  one_expanded old mid new at k c live more b at_k e l pushed =
      subst (λ v. IsExpandedTo samples (k + 1) old new at v) (sym pushed) (record {
        count = (let n = length-append live (b ∷ []) in let m = e.count in omega (arith, n, m));
        more = more_trans old.states mid.states new.states e.more l.more;
        still = λ i p is. l.still i p (e.still i p is);
        index = l.index ∙ e.index;
        search = λ has in_order s. l.search has samples k (e.search has in_order s) in_order at_k;
        led = λ s f. led_more (grammar_of old.states) (last_in old.states) s k c live b at_k e.count (e.led s f)
            (subst (λ v. IsLedBy (flat_of v) (last_of v) s c b) e.more.same
            (l.leads s (found_still old mid e.more e.still at s f)));
      })

-- the start state as the first
pub states_begun : (sets : StateSets) (t : ℕ) → IsStartState sets t → (has : ℕ → Bool) (samples : List ℕ)
    (pairs : List SearchedPair) → pairs ≡ record { old = t; new = t; parent = 0; symbol = 0 } ∷ []
    → IsStateSearch has samples sets pairs 0 0
states_begun sets t begins has samples pairs one = record {
  found = search_begun sets sets t t begins begins has samples pairs one;
  own = λ i p is. only i p (subst (λ v. slice_get v i ≡ Some p) one is);
}
  where
    only : (i : ℕ) (p : SearchedPair) → slice_get (record { old = t; new = t; parent = 0; symbol = 0 } ∷ []) i ≡ Some p
        → p.new ≡ p.old
    only zero p is =
        let same : record { old = t; new = t; parent = 0; symbol = 0 } ≡ p = cc is in
        subst (λ (v : SearchedPair). v.new ≡ v.old) same refl
    only (suc i) p is = absurd (cc is)
