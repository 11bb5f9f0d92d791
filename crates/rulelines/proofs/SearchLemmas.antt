-- A step of a search of pairs.
-- Serves: search_all, search_by_cuts
use Rattle.std.proofs.Common.{◌≡◌, ℕ, zero, suc, ◌+◌, ◌<◌, ◌≤◌, Bool, true, false, List, [], ◌∷◌, ◌++◌, length}
use Rattle.std.proofs.Common.{refl, sym, ◌∙◌}
use Rattle.std.proofs.Common.{ap, subst, arith, ◌⊎◌, inl, inr, get_or, length-append, append-nil}
use Rattle.std.proofs.lemmas.Bool.{cases_lt}
use Rattle.std.proofs.lemmas.List.{map-append, length-map}
use Rattle.std.proofs.lemmas.Option.{slice_get_within}
use Rattle.std.specs.Prelude.{slice_get, Some, Contains}
use Rattle.flatgrammar.specs.NodeSteps.{flat_of}
use Rattle.flatgrammar.proofs.CallOfLemmas.{get_map, get_unmap}
use Rattle.flatgrammar.proofs.SliceGetLemmas.{push_cases}
use Rattle.lazydfa.specs.Conts.{last_of}
use Rattle.lazydfa.specs.StateSets.{AreMoreStates, grammar_of, IsNextState, last_in, StateSet, StateSets}
use Rattle.rulelines.specs.declared.pairs.SearchedPair.{SearchedPair}
use Rattle.rulelines.specs.FirstLines.{sort_key}
use Rattle.rulelines.specs.FoundPairs.{AreFound, EndWithNew, FoundPair, HasParent, IsFoundBefore}
use Rattle.rulelines.specs.FoundPairs.{IsOldDead, LeadsToFound}
use Rattle.rulelines.specs.Samples.{AreInLineOrder}
use Rattle.rulelines.specs.Search.{found_pair, found_pairs, HasPair, IsPairAdded, IsPairSearch, state_at}
use Rattle.rulelines.specs.StatePairs.{PairLeads}
use Rattle.flatgrammar.specs.Stacks.{IsNext}
use Rattle.lazydfa.proofs.StateSetsLemmas.{contained_at}

pub get_left : {A : Type 0} (xs ys : List A) (k : ℕ) (x : A) → slice_get xs k ≡ Some x → slice_get (xs ++ ys) k ≡ Some x
get_left [] ys k x h = absurd (cc h)
get_left (y ∷ xs) ys zero x h = h
get_left (y ∷ xs) ys (suc k) x h = get_left xs ys k x h

pub get_end : {A : Type 0} (xs : List A) (x : A) → slice_get (xs ++ x ∷ []) (length xs) ≡ Some x
get_end [] x = refl
get_end (y ∷ xs) x = get_end xs x

pub or_left : {A : Type 0} (xs ys : List A) (k : ℕ) (d : A) → k < length xs → get_or (xs ++ ys) k d ≡ get_or xs k d
or_left [] ys k d lt = absurd (omega (arith, lt))
or_left (y ∷ xs) ys zero d lt = refl
or_left (y ∷ xs) ys (suc k) d lt = or_left xs ys k d (omega (arith, lt))

-- a state by its number is the one that is there
pub state_is : (sets : StateSets) (n : ℕ) (state : StateSet) → slice_get sets.states n ≡ Some state
    → state_at sets n ≡ state
state_is sets n state is = or_get sets.states n state is
  where
    or_get : (xs : List StateSet) (k : ℕ) (x : StateSet) → slice_get xs k ≡ Some x
        → get_or xs k (record { stacks = []; ended = false }) ≡ x
    or_get [] k x h = absurd (cc h)
    or_get (y ∷ xs) zero x h = cc h
    or_get (y ∷ xs) (suc k) x h = or_get xs k x h

-- states were added
pub state_kept : (old new : StateSets) → AreMoreStates old new → (n : ℕ) → n < length old.states
    → state_at new n ≡ state_at old n
state_kept old new more n lt =
    ap (λ v. get_or v n (record { stacks = []; ended = false })) more.grown
    ∙ or_left old.states more.added n (record { stacks = []; ended = false }) lt

pub more_length : (old new : StateSets) → AreMoreStates old new → length old.states ≤ length new.states
more_length old new more =
    let l = length-append old.states more.added in
    let e = ap (λ v. length v) more.grown in
    omega (arith, l, e)

module _ (old mid new more : StateSets) (old_more : AreMoreStates old mid) (new_more : AreMoreStates new more) where
  pub pair_kept : (p : SearchedPair) → p.old < length old.states → p.new < length new.states
      → found_pair mid more p ≡ found_pair old new p
  pair_kept p old_lt new_lt =
      ap (λ v. record {
        pair = record {
          old = v.stacks;
          old_ended = v.ended;
          new = (state_at more p.new).stacks;
          new_ended = (state_at more p.new).ended;
        };
        parent = p.parent;
        symbol = p.symbol;
      }) (state_kept old mid old_more p.old old_lt)
      ∙ ap (λ v. record {
        pair = record {
          old = (state_at old p.old).stacks;
          old_ended = (state_at old p.old).ended;
          new = v.stacks;
          new_ended = v.ended;
        };
        parent = p.parent;
        symbol = p.symbol;
      }) (state_kept new more new_more p.new new_lt)

  pairs_kept : (pairs : List SearchedPair) → ((i : ℕ) (p : SearchedPair) → slice_get pairs i
      ≡ Some p → p.old < length old.states)
      → ((i : ℕ) (p : SearchedPair) → slice_get pairs i ≡ Some p → p.new < length new.states)
      → found_pairs mid more pairs ≡ found_pairs old new pairs
  pairs_kept [] old_within new_within = refl
  pairs_kept (p ∷ pairs) old_within new_within =
      ap (λ v. v ∷ found_pairs mid more pairs) (pair_kept p (old_within 0 p refl) (new_within 0 p refl))
      ∙ ap (λ v. found_pair old new p ∷ v) (pairs_kept pairs (λ i q h. old_within (suc i) q h)
      (λ i q h. new_within (suc i) q h))

  pub search_kept : (has : ℕ → Bool) (samples : List ℕ) (pairs : List SearchedPair) (n k m : ℕ)
      → IsPairSearch has samples old new pairs n k m → IsPairSearch has samples mid more pairs n k m
  search_kept has samples pairs n k m s = record {
    old_within = λ i p h.
        (let lt = s.old_within i p h in let le = more_length old mid old_more in omega (arith, lt, le));
    new_within = λ i p h.
        (let lt = s.new_within i p h in let le = more_length new more new_more in omega (arith, lt, le));
    found = subst (λ v. AreFound (grammar_of mid) (last_in mid) (grammar_of more) (last_in more) v has) (sym same)
        (subst (λ v. AreFound (flat_of v) (last_of v) (grammar_of more) (last_in more) (found_pairs old new pairs) has)
        (sym old_more.same)
        (subst (λ v. AreFound (grammar_of old) (last_in old) (flat_of v) (last_of v) (found_pairs old new pairs) has)
        (sym new_more.same) s.found));
    recent = s.recent;
    searched = λ i j e c lt is at_j. by i e c (s.searched i j e c lt
        (subst (λ v. slice_get v i ≡ Some e) same is) at_j);
    met = s.met;
    agree = subst (λ v. EndWithNew v m) (sym same) s.agree;
  }
    where
      same : found_pairs mid more pairs ≡ found_pairs old new pairs
      same = pairs_kept pairs s.old_within s.new_within

      by : (i : ℕ) (e : FoundPair) (c : ℕ)
          → IsOldDead e.pair ⊎ LeadsToFound (grammar_of old) (last_in old) (grammar_of new) (last_in new)
          (found_pairs old new pairs) i e c
          → IsOldDead e.pair ⊎ LeadsToFound (grammar_of mid) (last_in mid) (grammar_of more) (last_in more)
          (found_pairs mid more pairs) i e c
      by i e c (inl dead) = inl dead
      by i e c (inr l) = inr (subst (λ v. LeadsToFound (grammar_of mid) (last_in mid) (grammar_of more) (last_in more)
          v i e c) (sym same)
          (subst (λ v. LeadsToFound (flat_of v) (last_of v) (grammar_of more) (last_in more)
          (found_pairs old new pairs) i e c) (sym old_more.same)
          (subst (λ v. LeadsToFound (grammar_of old) (last_in old) (flat_of v) (last_of v)
          (found_pairs old new pairs) i e c) (sym new_more.same) l)))

-- a transition of states by their numbers
pub side_next : (c : ℕ) (sets : StateSets) (s t : ℕ) → IsNextState sets c s t → IsNext (grammar_of sets) (last_in sets)
    (Contains (state_at sets s).stacks) c (Contains (state_at sets t).stacks) (state_at sets t).ended
side_next c sets s t next =
    subst (λ v. IsNext (grammar_of sets) (last_in sets) (Contains v.stacks) c (Contains (state_at sets t).stacks)
    (state_at sets t).ended) (sym (state_is sets s next.from next.from_is))
    (subst (λ v. IsNext (grammar_of sets) (last_in sets) (Contains next.from.stacks) c (Contains v.stacks) v.ended)
    (sym (state_is sets t next.to next.to_is)) next.next)

-- one sample leads on from a pair
module _ (has : ℕ → Bool) (samples : List ℕ) (in_order : AreInLineOrder has samples) (old new : StateSets)
    (pairs : List SearchedPair) (n k m : ℕ) (s : IsPairSearch has samples old new pairs n k m) (p : SearchedPair)
    (at_n : slice_get pairs n ≡ Some p) (c : ℕ) (at_k : slice_get samples k ≡ Some c) (symbol : has c ≡ true)
    (a b : ℕ) (old_next : IsNextState old c p.old a) (new_next : IsNextState new c p.new b) where
  abbrev Found : List FoundPair
  Found = found_pairs old new pairs

  abbrev Entry : SearchedPair
  Entry = record { old = a; new = b; parent = n; symbol = c }

  abbrev LeadsBy : ℕ → FoundPair → List FoundPair → ℕ → Type 0
  LeadsBy i e found d = LeadsToFound (grammar_of old) (last_in old) (grammar_of new) (last_in new) found i e d

  pair_leads : PairLeads (grammar_of old) (last_in old) (grammar_of new) (last_in new) c (found_pair old new p).pair
      (found_pair old new Entry).pair
  pair_leads = record { old_next = side_next c old p.old a old_next; new_next = side_next c new p.new b new_next }

  same_states : (q : SearchedPair) → q.old ≡ a → q.new ≡ b
      → (found_pair old new Entry).pair ≡ (found_pair old new q).pair
  same_states q old_is new_is =
      ap (λ v. (found_pair old new (record { old = v; new = b; parent = n; symbol = c })).pair) (sym old_is)
      ∙ ap (λ v. (found_pair old new (record { old = q.old; new = v; parent = n; symbol = c })).pair) (sym new_is)

  -- the last sample at the last pair, or one before
  abbrev IsBefore : ℕ → ℕ → ℕ → Type 0
  IsBefore l i j = (i < n) ⊎ ((i ≡ n) × (j < l))

  last_sample : (i j : ℕ) → IsBefore (k + 1) i j → IsBefore k i j ⊎ ((i ≡ n) × (j ≡ k))
  last_sample i j (inl lt) = inl (inl lt)
  last_sample i j (inr h) = by (cases_lt j k)
    where
      by : (j < k) ⊎ (k ≤ j) → IsBefore k i j ⊎ ((i ≡ n) × (j ≡ k))
      by (inl less) = inl (inr (h.0, less))
      by (inr le) = inr (h.0, (let lt = h.1 in omega (arith, lt, le)))

  -- a pair of the list that the sample leads to
  reaches_pair : (found : List FoundPair) (index : ℕ) (next : FoundPair) → slice_get found index ≡ Some next
      → (found_pair old new Entry).pair ≡ next.pair
      → (index ≡ 0) ⊎ ((next.parent < n) ⊎ ((next.parent ≡ n) × (sort_key next.symbol ≤ sort_key c)))
      → (i j d : ℕ) (e : FoundPair) → i ≡ n → j ≡ k → slice_get Found i ≡ Some e → slice_get samples j ≡ Some d
      → LeadsBy i e found d
  reaches_pair found index next is same order i j d e here sample at_i at_j =
      let entry : found_pair old new p ≡ e = cc (
        get_map (found_pair old new) pairs n at_n,
        subst (λ v. slice_get Found v ≡ Some e) here at_i,
      ) in
      let letter : c ≡ d = cc (at_k, subst (λ v. slice_get samples v ≡ Some d) sample at_j) in
      subst (λ v. LeadsBy i v found d) entry
      (subst (λ v. LeadsBy i (found_pair old new p) found v) letter
      (subst (λ v. LeadsBy v (found_pair old new p) found c) (sym here) (record {
        index = index;
        next = next;
        is = is;
        leads = subst (λ v. PairLeads (grammar_of old) (last_in old) (grammar_of new) (last_in new) c
            (found_pair old new p).pair v) same pair_leads;
        order = order;
      })))

  more_recent : (q : SearchedPair)
      → (q.parent < n) ⊎ ((q.parent ≡ n) × (j : ℕ) × (j < k) × (slice_get samples j ≡ Some q.symbol))
      → (q.parent < n) ⊎ ((q.parent ≡ n) × (j : ℕ) × (j < k + 1) × (slice_get samples j ≡ Some q.symbol))
  more_recent q (inl lt) = inl lt
  more_recent q (inr h) = inr (h.0, h.1, (let lt = h.2 in omega (arith, lt)), h.3)

  -- the sample comes after those that led to a pair from here
  is_later : (q : SearchedPair) → (q.parent < n) ⊎ ((q.parent ≡ n) × (j : ℕ) × (j < k)
      × (slice_get samples j ≡ Some q.symbol))
      → (q.parent < n) ⊎ ((q.parent ≡ n) × (sort_key q.symbol < sort_key c))
  is_later q (inl lt) = inl lt
  is_later q (inr h) = inr (h.0, in_order.order h.1 k q.symbol c h.2 h.3 at_k)

  -- the pair was found before
  module _ (h : HasPair pairs a b) where
    there_order : (h.index ≡ 0)
        ⊎ ((h.pair.parent < n) ⊎ ((h.pair.parent ≡ n) × (sort_key h.pair.symbol ≤ sort_key c)))
    there_order = by (cases_lt 0 h.index)
      where
        weaker : (h.pair.parent < n) ⊎ ((h.pair.parent ≡ n) × (sort_key h.pair.symbol < sort_key c))
            → (h.pair.parent < n) ⊎ ((h.pair.parent ≡ n) × (sort_key h.pair.symbol ≤ sort_key c))
        weaker (inl lt) = inl lt
        weaker (inr g) = inr (g.0, (let lt = g.1 in omega (arith, lt)))

        by : (0 < h.index) ⊎ (h.index ≤ 0) → (h.index ≡ 0)
            ⊎ ((h.pair.parent < n) ⊎ ((h.pair.parent ≡ n) × (sort_key h.pair.symbol ≤ sort_key c)))
        by (inl lt) = inr (weaker (is_later h.pair (s.recent h.index h.pair lt h.is)))
        by (inr le) = inl (omega (arith, le))

    pub found_there : IsPairSearch has samples old new pairs n (k + 1) m
    found_there = record {
      old_within = s.old_within;
      new_within = s.new_within;
      found = s.found;
      recent = λ i q lt is. more_recent q (s.recent i q lt is);
      searched = λ i j e d lt is at_j. by i j e d is at_j (last_sample i j lt);
      met = s.met;
      agree = s.agree;
    }
      where
        by : (i j : ℕ) (e : FoundPair) (d : ℕ) → slice_get Found i ≡ Some e → slice_get samples j ≡ Some d
            → IsBefore k i j ⊎ ((i ≡ n) × (j ≡ k)) → IsOldDead e.pair ⊎ LeadsBy i e Found d
        by i j e d is at_j (inl lt) = s.searched i j e d lt is at_j
        by i j e d is at_j (inr g) = inr (reaches_pair Found h.index (found_pair old new h.pair)
            (get_map (found_pair old new) pairs h.index h.is) (same_states h.pair h.old_is h.new_is) there_order i j d e
            g.0 g.1 is at_j)

  -- the pair was added
  abbrev More : List SearchedPair
  More = pairs ++ Entry ∷ []

  abbrev MoreFound : List FoundPair
  MoreFound = Found ++ found_pair old new Entry ∷ []

  found_count : length Found ≡ length pairs
  found_count = length-map pairs (found_pair old new)

  is_here : n < length pairs
  is_here = slice_get_within pairs n p at_n

  at_last : slice_get MoreFound (length Found) ≡ Some (found_pair old new Entry)
  at_last = get_end Found (found_pair old new Entry)

  -- an entry is one of those before, or the last
  entry_cases : (i : ℕ) (e : FoundPair) → slice_get MoreFound i ≡ Some e
      → (slice_get Found i ≡ Some e) ⊎ ((i ≡ length Found) × (found_pair old new Entry ≡ e))
  entry_cases i e is = push_cases Found (found_pair old new Entry) i e is

  abbrev ParentIn : List FoundPair → ℕ → FoundPair → Type 0
  ParentIn found i e = HasParent (grammar_of old) (last_in old) (grammar_of new) (last_in new) found has i e

  more_parent : (i : ℕ) (e : FoundPair) → ParentIn Found i e → ParentIn MoreFound i e
  more_parent i e h = record {
    earlier = h.earlier;
    parent = h.parent;
    is = get_left Found (found_pair old new Entry ∷ []) e.parent h.parent h.is;
    symbol = h.symbol;
    leads = h.leads;
  }

  own_parent : ParentIn MoreFound (length Found) (found_pair old new Entry)
  own_parent = record {
    earlier = omega (arith, is_here, found_count);
    parent = found_pair old new p;
    is = get_left Found (found_pair old new Entry ∷ []) n (found_pair old new p)
        (get_map (found_pair old new) pairs n at_n);
    symbol = symbol;
    leads = pair_leads;
  }

  before_last : (i : ℕ) (e : FoundPair) → 0 < i → slice_get Found i ≡ Some e
      → IsFoundBefore e (found_pair old new Entry)
  before_last i e lt is =
      let u = get_unmap (found_pair old new) pairs i e is in
      subst (λ v. IsFoundBefore v (found_pair old new Entry)) u.is (is_later u.from (s.recent i u.from lt u.at))

  more_found : AreFound (grammar_of old) (last_in old) (grammar_of new) (last_in new) MoreFound has
  more_found = record {
    first = s.found.first;
    is_first = get_left Found (found_pair old new Entry ∷ []) 0 s.found.first s.found.is_first;
    starts = s.found.starts;
    parents = λ i e lt is. parent i e lt (entry_cases i e is);
    order = λ i j e f some lt is at. ordered i j e f some lt (entry_cases i e is) (entry_cases j f at);
  }
    where
      parent : (i : ℕ) (e : FoundPair) → 0 < i
          → (slice_get Found i ≡ Some e) ⊎ ((i ≡ length Found) × (found_pair old new Entry ≡ e))
          → ParentIn MoreFound i e
      parent i e lt (inl is) = more_parent i e (s.found.parents i e lt is)
      parent i e lt (inr g) = subst (λ v. ParentIn MoreFound i v) g.1
          (subst (λ v. ParentIn MoreFound v (found_pair old new Entry)) (sym g.0) own_parent)

      ordered : (i j : ℕ) (e f : FoundPair) → 0 < i → i < j
          → (slice_get Found i ≡ Some e) ⊎ ((i ≡ length Found) × (found_pair old new Entry ≡ e))
          → (slice_get Found j ≡ Some f) ⊎ ((j ≡ length Found) × (found_pair old new Entry ≡ f)) → IsFoundBefore e f
      ordered i j e f some lt (inl is) (inl at) = s.found.order i j e f some lt is at
      ordered i j e f some lt (inl is) (inr at) = subst (λ v. IsFoundBefore e v) at.1 (before_last i e some is)
      ordered i j e f some lt (inr is) (inl at) =
          absurd (let within = slice_get_within Found j f at in let e = is.0 in omega (arith, within, lt, e))
      ordered i j e f some lt (inr is) (inr at) = absurd (let e = is.0 in let f = at.0 in omega (arith, lt, e, f))

  leads_longer : (i : ℕ) (e : FoundPair) (d : ℕ) → LeadsBy i e Found d → LeadsBy i e MoreFound d
  leads_longer i e d l = record {
    index = l.index;
    next = l.next;
    is = get_left Found (found_pair old new Entry ∷ []) l.index l.next l.is;
    leads = l.leads;
    order = l.order;
  }

  more_searched : (i j : ℕ) (e : FoundPair) (d : ℕ) → slice_get samples j ≡ Some d
      → IsBefore k i j ⊎ ((i ≡ n) × (j ≡ k)) → slice_get Found i ≡ Some e
      → IsOldDead e.pair ⊎ LeadsBy i e MoreFound d
  more_searched i j e d at_j (inl lt) is = by (s.searched i j e d lt is at_j)
    where
      by : IsOldDead e.pair ⊎ LeadsBy i e Found d → IsOldDead e.pair ⊎ LeadsBy i e MoreFound d
      by (inl dead) = inl dead
      by (inr l) = inr (leads_longer i e d l)
  more_searched i j e d at_j (inr g) is =
      inr (reaches_pair MoreFound (length Found) (found_pair old new Entry) at_last refl
      (inr (inr (refl, omega arith))) i j d e g.0 g.1 is at_j)

  pub found_more : IsPairSearch has samples old new More n (k + 1) m
  found_more = record {
    old_within = λ i q is. old_lt i q (push_cases pairs Entry i q is);
    new_within = λ i q is. new_lt i q (push_cases pairs Entry i q is);
    found = subst (λ v. AreFound (grammar_of old) (last_in old) (grammar_of new) (last_in new) v has) (sym joined)
        more_found;
    recent = λ i q lt is. own i q lt (push_cases pairs Entry i q is);
    searched = λ i j e d lt is at_j. subst (λ v. IsOldDead e.pair ⊎ LeadsBy i e v d) (sym joined)
        (by i j e d lt at_j (entry_cases i e (subst (λ v. slice_get v i ≡ Some e) joined is)));
    met = (let le = s.met in let l = length-append pairs (Entry ∷ []) in omega (arith, le, l));
    agree = λ i e lt is. ends i e lt (entry_cases i e (subst (λ v. slice_get v i ≡ Some e) joined is));
  }
    where
      joined : found_pairs old new More ≡ MoreFound
      joined = map-append (found_pair old new) pairs (Entry ∷ [])

      ends : (i : ℕ) (e : FoundPair) → i < m
          → (slice_get Found i ≡ Some e) ⊎ ((i ≡ length Found) × (found_pair old new Entry ≡ e))
          → e.pair.old_ended ≡ true → e.pair.new_ended ≡ true
      ends i e lt (inl is) = s.agree i e lt is
      ends i e lt (inr g) = absurd (let e = g.0 in let le = s.met in omega (arith, lt, e, le, found_count))

      old_lt : (i : ℕ) (q : SearchedPair) → (slice_get pairs i ≡ Some q) ⊎ ((i ≡ length pairs) × (Entry ≡ q))
          → q.old < length old.states
      old_lt i q (inl is) = s.old_within i q is
      old_lt i q (inr g) = subst (λ v. v.old < length old.states) g.1
          (slice_get_within old.states a old_next.to old_next.to_is)

      new_lt : (i : ℕ) (q : SearchedPair) → (slice_get pairs i ≡ Some q) ⊎ ((i ≡ length pairs) × (Entry ≡ q))
          → q.new < length new.states
      new_lt i q (inl is) = s.new_within i q is
      new_lt i q (inr g) = subst (λ v. v.new < length new.states) g.1
          (slice_get_within new.states b new_next.to new_next.to_is)

      own : (i : ℕ) (q : SearchedPair) → 0 < i → (slice_get pairs i ≡ Some q) ⊎ ((i ≡ length pairs) × (Entry ≡ q))
          → (q.parent < n) ⊎ ((q.parent ≡ n) × (j : ℕ) × (j < k + 1) × (slice_get samples j ≡ Some q.symbol))
      own i q lt (inl is) = more_recent q (s.recent i q lt is)
      own i q lt (inr g) = inr (
        ap (λ v. v.parent) (sym g.1),
        k,
        omega arith,
        at_k ∙ ap (λ v. Some v.symbol) g.1,
      )

      by : (i j : ℕ) (e : FoundPair) (d : ℕ) → IsBefore (k + 1) i j → slice_get samples j ≡ Some d
          → (slice_get Found i ≡ Some e) ⊎ ((i ≡ length Found) × (found_pair old new Entry ≡ e))
          → IsOldDead e.pair ⊎ LeadsBy i e MoreFound d
      by i j e d lt at_j (inl is) = more_searched i j e d at_j (last_sample i j lt) is
      by i j e d (inl lt) at_j (inr g) = absurd (let e = g.0 in omega (arith, lt, e, is_here, found_count))
      by i j e d (inr at) at_j (inr g) = absurd
          (let e = g.0 in let f = at.0 in omega (arith, e, f, is_here, found_count))

-- either way
pub search_next : (has : ℕ → Bool) (samples : List ℕ) → AreInLineOrder has samples → (old new : StateSets)
    (pairs more : List SearchedPair) (n k m : ℕ) → IsPairSearch has samples old new pairs n k m → (p : SearchedPair)
    → slice_get pairs n ≡ Some p → (c : ℕ) → slice_get samples k ≡ Some c → (a b : ℕ) → IsNextState old c p.old a
    → IsNextState new c p.new b → IsPairAdded pairs (record { old = a; new = b; parent = n; symbol = c }) more
    → IsPairSearch has samples old new more n (k + 1) m
search_next has samples in_order old new pairs more n k m s p at_n c at_k a b old_next new_next added = by added
  where
    symbol : has c ≡ true
    symbol = in_order.symbols c (contained_at samples k c at_k)

    by : ((more ≡ pairs) × HasPair pairs a b)
        ⊎ (more ≡ pairs ++ record { old = a; new = b; parent = n; symbol = c } ∷ [])
        → IsPairSearch has samples old new more n (k + 1) m
    by (inl h) = subst (λ v. IsPairSearch has samples old new v n (k + 1) m) (sym h.0)
        (found_there has samples in_order old new pairs n k m s p at_n c at_k symbol a b old_next new_next h.1)
    by (inr is) = subst (λ v. IsPairSearch has samples old new v n (k + 1) m) (sym is)
        (found_more has samples in_order old new pairs n k m s p at_n c at_k symbol a b old_next new_next)

-- from one pair to the next
module _ (has : ℕ → Bool) (samples : List ℕ) (old new : StateSets) (pairs : List SearchedPair) (n m : ℕ) where
  pub search_iteration : (k : ℕ) → length samples ≤ k → IsPairSearch has samples old new pairs n k m
      → IsPairSearch has samples old new pairs (n + 1) 0 m
  search_iteration k le s = record {
    old_within = s.old_within;
    new_within = s.new_within;
    found = s.found;
    recent = λ i p lt is. older i p (s.recent i p lt is);
    searched = λ i j e c lt is at_j. s.searched i j e c (before i j c at_j lt) is at_j;
    met = s.met;
    agree = s.agree;
  }
    where
      older : (i : ℕ) (p : SearchedPair)
          → (p.parent < n) ⊎ ((p.parent ≡ n) × (j : ℕ) × (j < k) × (slice_get samples j ≡ Some p.symbol))
          → (p.parent < n + 1) ⊎ ((p.parent ≡ n + 1) × (j : ℕ) × (j < 0) × (slice_get samples j ≡ Some p.symbol))
      older i p (inl lt) = inl (omega (arith, lt))
      older i p (inr h) = inl (let e = h.0 in omega (arith, e))

      before : (i j c : ℕ) → slice_get samples j ≡ Some c → (i < n + 1) ⊎ ((i ≡ n + 1) × (j < 0))
          → (i < n) ⊎ ((i ≡ n) × (j < k))
      before i j c at_j (inl lt) = by (cases_lt i n)
        where
          by : (i < n) ⊎ (n ≤ i) → (i < n) ⊎ ((i ≡ n) × (j < k))
          by (inl less) = inl less
          by (inr more) =
              let w = slice_get_within samples j c at_j in inr (omega (arith, lt, more), omega (arith, w, le))
      before i j c at_j (inr h) = absurd (let lt = h.1 in omega (arith, lt))

  pub search_skip : IsPairSearch has samples old new pairs n 0 m → (p : SearchedPair) → slice_get pairs n ≡ Some p
      → (state_at old p.old).stacks ≡ [] → IsPairSearch has samples old new pairs (n + 1) 0 m
  search_skip s p at_n dead = record {
    old_within = s.old_within;
    new_within = s.new_within;
    found = s.found;
    recent = λ i q lt is. older i q (s.recent i q lt is);
    searched = λ i j e c lt is at_j. by i j e c lt is at_j (cases_lt i n);
    met = s.met;
    agree = s.agree;
  }
    where
      older : (i : ℕ) (p : SearchedPair)
          → (p.parent < n) ⊎ ((p.parent ≡ n) × (j : ℕ) × (j < 0) × (slice_get samples j ≡ Some p.symbol))
          → (p.parent < n + 1) ⊎ ((p.parent ≡ n + 1) × (j : ℕ) × (j < 0) × (slice_get samples j ≡ Some p.symbol))
      older i p (inl lt) = inl (omega (arith, lt))
      older i p (inr h) = inl (let e = h.0 in omega (arith, e))

      by : (i j : ℕ) (e : FoundPair) (c : ℕ) → (i < n + 1) ⊎ ((i ≡ n + 1) × (j < 0))
          → slice_get (found_pairs old new pairs) i ≡ Some e → slice_get samples j ≡ Some c → (i < n) ⊎ (n ≤ i)
          → IsOldDead e.pair ⊎ LeadsToFound (grammar_of old) (last_in old) (grammar_of new) (last_in new)
          (found_pairs old new pairs) i e c
      by i j e c lt is at_j (inl less) = s.searched i j e c (inl less) is at_j
      by i j e c (inl lt) is at_j (inr more) =
          let here : i ≡ n = omega (arith, lt, more) in
          let entry : found_pair old new p ≡ e = cc (
            get_map (found_pair old new) pairs n at_n,
            subst (λ v. slice_get (found_pairs old new pairs) v ≡ Some e) here is,
          ) in
          inl (subst (λ v. IsOldDead v.pair) entry dead)
      by i j e c (inr h) is at_j (inr more) = absurd (let lt = h.1 in omega (arith, lt))

-- the ends of one more pair agree
pub search_agrees : (has : ℕ → Bool) (samples : List ℕ) (old new : StateSets) (pairs : List SearchedPair) (n : ℕ)
    → IsPairSearch has samples old new pairs n 0 n → (p : SearchedPair) → slice_get pairs n ≡ Some p
    → ((state_at old p.old).ended ≡ true → (state_at new p.new).ended ≡ true)
    → IsPairSearch has samples old new pairs n 0 (n + 1)
search_agrees has samples old new pairs n s p at_n agree = record {
  old_within = s.old_within;
  new_within = s.new_within;
  found = s.found;
  recent = s.recent;
  searched = s.searched;
  met = (let lt = slice_get_within pairs n p at_n in omega (arith, lt));
  agree = λ i e lt is. by i e lt is (cases_lt i n);
}
  where
    by : (i : ℕ) (e : FoundPair) → i < n + 1 → slice_get (found_pairs old new pairs) i ≡ Some e → (i < n) ⊎ (n ≤ i)
        → e.pair.old_ended ≡ true → e.pair.new_ended ≡ true
    by i e lt is (inl less) = s.agree i e less is
    by i e lt is (inr more) =
        let here : i ≡ n = omega (arith, lt, more) in
        let entry : found_pair old new p ≡ e = cc (
          get_map (found_pair old new) pairs n at_n,
          subst (λ v. slice_get (found_pairs old new pairs) v ≡ Some e) here is,
        ) in
        subst (λ v. v.pair.old_ended ≡ true → v.pair.new_ended ≡ true) entry agree

-- the states of a pair by their numbers
module _ (has : ℕ → Bool) (samples : List ℕ) (old new : StateSets) (pairs : List SearchedPair) (n k m : ℕ)
    (s : IsPairSearch has samples old new pairs n k m) (i : ℕ) (p : SearchedPair) (at_i : slice_get pairs i
    ≡ Some p) where
  state_there : (xs : List StateSet) (j : ℕ) → j < length xs
      → slice_get xs j ≡ Some (get_or xs j (record { stacks = []; ended = false }))
  state_there [] j lt = absurd (omega (arith, lt))
  state_there (x ∷ xs) zero lt = refl
  state_there (x ∷ xs) (suc j) lt = state_there xs j (omega (arith, lt))

  pub old_there : slice_get old.states p.old ≡ Some (state_at old p.old)
  old_there = state_there old.states p.old (s.old_within i p at_i)

  pub new_there : slice_get new.states p.new ≡ Some (state_at new p.new)
  new_there = state_there new.states p.new (s.new_within i p at_i)

pub no_more : (sets : StateSets) → AreMoreStates sets sets
no_more sets = record { same = refl; added = []; grown = sym (append-nil sets.states) }
