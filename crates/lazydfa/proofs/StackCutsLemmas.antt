-- Cuts of states into tops and suffixes.
-- Serves: cut, is_within.
use Rattle.std.proofs.Common.{◌≡◌, ◌⊎◌, inl, inr, ℕ, ◌+◌, ◌<◌, ◌≤◌, Bool, true, false, List, [], ◌∷◌, ◌++◌}
use Rattle.std.proofs.Common.{length, map, refl, sym, ◌∙◌, ap, subst, arith}
use Rattle.std.proofs.lemmas.Bool.{cases_lt}
use Rattle.std.proofs.lemmas.List.{append-nil}
use Rattle.std.proofs.lemmas.List.Elements.{Contains-append_left, Contains-append_right, Contains-append_cases}
use Rattle.std.proofs.lemmas.List.Sorted.{Contains-permutation, IsPermutation-sym}
use Rattle.std.proofs.lemmas.Option.{slice_get_within}
use Rattle.std.specs.List.Sorted.{IsPermutation}
use Rattle.std.specs.Prelude.{slice_get, Some, Contains}
use Rattle.flatgrammar.specs.Flat.{Dot, at}
use Rattle.flatgrammar.specs.NodeSteps.{flat_of}
use Rattle.flatgrammar.specs.TableViews.{GiveTargets}
use Rattle.flatgrammar.specs.declared.tables.Tables as code_flat
use Rattle.flatgrammar.specs.Stacks.{IsDoneAt, IsReading, Led, LedToEnd}
use Rattle.flatgrammar.proofs.CallOfLemmas.{get_map}
use Rattle.lazydfa.specs.declared.conts.Cont.{Cont}
use Rattle.lazydfa.specs.declared.cache.State.{State}
use Rattle.lazydfa.specs.Conts.{last_of, stack_of, AreKept, AreOlder, AreReaders, EndsAlone, GoesOn, IsAdded, IsClosure}
use Rattle.lazydfa.specs.Conts.{IsStackOf, TopReads}
use Rattle.lazydfa.specs.Cached.{IsInterned}
use Rattle.lazydfa.specs.Spines.{AreMoved, IsMoveOn}
use Rattle.lazydfa.specs.StackCuts.{AreJoinedTops, IsCutAt, IsCutOff, IsCutState, IsJoinedTop, IsStateWithin}
use Rattle.lazydfa.specs.StackCuts.{IsTopOnSuffix}
use Rattle.lazydfa.specs.StateSets.{sets_of, state_set_of, StateSet, StateSets}
use Rattle.lazydfa.proofs.ContsLemmas.{kept_both, kept_stack, kept_within, stack_none}
use Rattle.lazydfa.proofs.AreCachedLemmas.{goes_as, grown_at}
use Rattle.lazydfa.proofs.IsClosureLemmas.{stands_at}
use Rattle.lazydfa.proofs.IsSplitOffLemmas.{stack_full}
use Rattle.lazydfa.proofs.MoveLemmas.{done_reported, reported_done}
use Rattle.lazydfa.proofs.PutsBackLemmas.{from_led, to_led}
use Rattle.lazydfa.proofs.ReportLemmas.{reported_top, top_reported}
use Rattle.lazydfa.proofs.StateSetsLemmas.{from_list, to_list}

-- tops on the first so many suffixes
pub record AreJoinedTo (first : List Cont) (tops suffixes : List ℕ) (conts : List Cont) (ids joined : List ℕ)
    (count : ℕ) : Type 0 where
  pub ids_only : (id : ℕ) → Contains ids id → Contains suffixes id
  pub ids_all : (k id : ℕ) → k < count → slice_get suffixes k ≡ Some id → Contains ids id
  pub only : (id : ℕ) → Contains joined id → (id ≤ length conts) × IsJoinedTop first tops suffixes (stack_of conts id)
  pub all : (k suffix top : ℕ) → k < count → slice_get suffixes k ≡ Some suffix → Contains tops top
      → IsStackOf conts joined (stack_of first top ++ stack_of first suffix)

-- one more of a list
pub each_more : (P : ℕ → Type 0) (ids : List ℕ) (count id : ℕ) → slice_get ids count ≡ Some id → P id
    → ((k other : ℕ) → k < count → slice_get ids k ≡ Some other → P other) → (k other : ℕ) → k < count + 1
    → slice_get ids k ≡ Some other → P other
each_more P ids count id at_count now before k other lt is = by (cases_lt k count)
  where
    by : (k < count) ⊎ (count ≤ k) → P other
    by (inl less) = before k other less is
    by (inr le) =
        let here : k ≡ count = omega (arith, le, lt) in
        let both : Some id ≡ Some other = sym at_count ∙ subst (λ v. slice_get ids v ≡ Some other) here is in
        subst P (cc both) now

none_there : (xs : List ℕ) (id : ℕ) → xs ≡ [] → Contains xs id → ⊥
none_there xs id none h = let lt = h.1 in let e = ap (λ v. length v) none in omega (arith, lt, e)

pub joined_none : (first : List Cont) (tops suffixes ids joined : List ℕ) → ids ≡ [] → joined ≡ []
    → AreJoinedTo first tops suffixes first ids joined 0
joined_none first tops suffixes ids joined no_ids no_joined = record {
  ids_only = λ id h. absurd (none_there ids id no_ids h);
  ids_all = λ k id lt. absurd (omega (arith, lt));
  only = λ id h. absurd (none_there joined id no_joined h);
  all = λ k suffix top lt. absurd (omega (arith, lt));
}

module _ (first now next : List Cont) (kept : AreKept first now) (more : AreKept now next) (tops suffixes : List ℕ)
    (tops_in : (id : ℕ) → Contains tops id → id ≤ length first)
    (suffixes_in : (id : ℕ) → Contains suffixes id → id ≤ length first) (ids new_ids joined new : List ℕ)
    (count suffix : ℕ) (at_count : slice_get suffixes count ≡ Some suffix) (stands : Contains suffixes suffix)
    (before : AreJoinedTo first tops suffixes now ids joined count) (added : IsAdded ids new_ids suffix)
    (moved : AreMoved now tops 0 next joined new suffix) where
  moved_is : (top id : ℕ) → Contains tops top → IsMoveOn now top 0 next id suffix
      → stack_of next id ≡ stack_of first top ++ stack_of first suffix
  moved_is top id h m =
      let base : m.base ≡ stack_of first top =
      sym (append-nil m.base) ∙ (ap (λ v. m.base ++ v) (sym (stack_none now 0 refl))
      ∙ (sym m.was ∙ kept_stack first now kept top (tops_in top h))) in
      m.is ∙ (ap (λ v. m.base ++ v) (kept_stack first now kept suffix (suffixes_in suffix stands))
      ∙ ap (λ v. v ++ stack_of first suffix) base)

  same_at : (k other : ℕ) → count ≤ k → k < count + 1 → slice_get suffixes k ≡ Some other → suffix ≡ other
  same_at k other le lt is =
      let here : k ≡ count = omega (arith, le, lt) in
      let both : Some suffix ≡ Some other = sym at_count ∙ subst (λ v. slice_get suffixes v ≡ Some other) here is in
      cc both

  pub joined_next : AreJoinedTo first tops suffixes next new_ids new (count + 1)
  joined_next = record {
    ids_only = λ id h. id_only id (Contains-append_cases ids added.added id
        (subst (λ v. Contains v id) added.grown h));
    ids_all = λ k id lt is. id_all k id lt is (cases_lt k count);
    only = λ id h. only id (Contains-append_cases joined moved.added id
        (subst (λ v. Contains v id) moved.grown h));
    all = λ k other top lt is h. all k other top lt is h (cases_lt k count);
  }
    where
      id_only : (id : ℕ) → Contains ids id ⊎ Contains added.added id → Contains suffixes id
      id_only id (inl h) = before.ids_only id h
      id_only id (inr h) = subst (λ v. Contains suffixes v) (sym (added.only id h)) stands

      id_all : (k id : ℕ) → k < count + 1 → slice_get suffixes k ≡ Some id → (k < count) ⊎ (count ≤ k)
          → Contains new_ids id
      id_all k id lt is (inl less) = subst (λ v. Contains v id) (sym added.grown)
          (Contains-append_left ids added.added id (before.ids_all k id less is))
      id_all k id lt is (inr le) = subst (λ v. Contains new_ids v) (same_at k id le lt is) added.has

      only : (id : ℕ) → Contains joined id ⊎ Contains moved.added id
          → (id ≤ length next) × IsJoinedTop first tops suffixes (stack_of next id)
      only id (inl h) =
          let b = before.only id h in (
            kept_within now next more id b.0,
            subst (λ v. IsJoinedTop first tops suffixes v) (sym (kept_stack now next more id b.0)) b.1,
          )
      only id (inr h) =
          let m = moved.only id h in (
            m.2.within,
            record {
              top = m.0;
              suffix = suffix;
              is_top = m.1;
              is_suffix = stands;
              is = moved_is m.0 id m.1 m.2;
            },
          )

      all : (k other top : ℕ) → k < count + 1 → slice_get suffixes k ≡ Some other → Contains tops top
          → (k < count) ⊎ (count ≤ k) → IsStackOf next new (stack_of first top ++ stack_of first other)
      all k other top lt is h (inl less) =
          let s = before.all k other top less is h in
          record {
            id = s.id;
            stands = subst (λ v. Contains v s.id) (sym moved.grown)
                (Contains-append_left joined moved.added s.id s.stands);
            is = s.is ∙ sym (kept_stack now next more s.id (before.only s.id s.stands).0);
          }
      all k other top lt is h (inr le) =
          let m = moved.all top h in
          record {
            id = m.0;
            stands = subst (λ v. Contains v m.0) (sym moved.grown)
                (Contains-append_right joined moved.added m.0 m.1);
            is = ap (λ v. stack_of first top ++ stack_of first v) (sym (same_at k other le lt is))
                ∙ sym (moved_is top m.0 h m.2);
          }

pub joined_all : (first conts : List Cont) (tops suffixes ids joined : List ℕ) (count : ℕ) → length suffixes ≤ count
    → AreJoinedTo first tops suffixes conts ids joined count → AreJoinedTops first tops suffixes conts ids joined
joined_all first conts tops suffixes ids joined count le j = record {
  ids_are = λ id. (
    λ h. j.ids_only id h,
    λ h. let t = stands_at suffixes id h in
        j.ids_all t.position id (let w = slice_get_within suffixes t.position id t.is in omega (arith, w, le)) t.is,
  );
  only = j.only;
  all = λ top suffix h g. let t = stands_at suffixes suffix g in
      j.all t.position suffix top
      (let w = slice_get_within suffixes t.position suffix t.is in omega (arith, w, le)) t.is h;
}

-- the joined stacks, and what the suffixes go on to
module _ (tables : code_flat.Tables) (first start mid conts : List Cont) (kept : AreKept first start)
    (joining : AreKept start mid) (closing : AreKept mid conts) (older : AreOlder first)
    (tops suffixes ids joined all below : List ℕ) (ended : Bool)
    (tops_in : (id : ℕ) → Contains tops id → id ≤ length start)
    (full : (id : ℕ) → Contains suffixes id → (0 < id) × (id ≤ length first))
    (reads : (id : ℕ) → Contains tops id → TopReads tables (stack_of start id))
    (are : AreJoinedTops start tops suffixes mid ids joined) (closure : IsClosure tables mid ids conts all ended)
    (readers : AreReaders tables conts all below) where
  from_start : AreKept start conts
  from_start = kept_both start mid conts joining closing

  in_start : (id : ℕ) → Contains suffixes id → id ≤ length start
  in_start id h = kept_within first start kept id (full id h).1

  still_top : (id : ℕ) → Contains tops id → stack_of conts id ≡ stack_of start id
  still_top id h = kept_stack start conts from_start id (tops_in id h)

  still_suffix : (id : ℕ) → Contains suffixes id → stack_of conts id ≡ stack_of start id
  still_suffix id h = kept_stack start conts from_start id (in_start id h)

  still_id : (id : ℕ) → Contains suffixes id → stack_of conts id ≡ stack_of mid id
  still_id id h = kept_stack mid conts closing id (kept_within start mid joining id (in_start id h))

  both_are : (top suffix : ℕ) → Contains tops top → Contains suffixes suffix
      → stack_of conts top ++ stack_of conts suffix ≡ stack_of start top ++ stack_of start suffix
  both_are top suffix h g =
      ap (λ v. v ++ stack_of conts suffix) (still_top top h)
      ∙ ap (λ v. stack_of start top ++ v) (still_suffix suffix g)

  to_suffix : (s : List Dot) → IsStackOf mid ids s → IsStackOf conts suffixes s
  to_suffix s h =
      let g = (are.ids_are h.id).0 h.stands in
      record { id = h.id; stands = g; is = h.is ∙ sym (still_id h.id g) }

  of_suffix : (s : List Dot) → IsStackOf conts suffixes s → IsStackOf mid ids s
  of_suffix s h = record { id = h.id; stands = (are.ids_are h.id).1 h.stands; is = h.is ∙ still_id h.id h.stands }

  joined_to : (stack : List Dot) → IsStackOf conts joined stack → IsJoinedTop conts tops suffixes stack
  joined_to stack h =
      let o = are.only h.id h.stands in
      record {
        top = o.1.top;
        suffix = o.1.suffix;
        is_top = o.1.is_top;
        is_suffix = o.1.is_suffix;
        is = h.is ∙ (kept_stack mid conts closing h.id o.0 ∙ (o.1.is
            ∙ sym (both_are o.1.top o.1.suffix o.1.is_top o.1.is_suffix)));
      }

  to_joined : (stack : List Dot) → IsJoinedTop conts tops suffixes stack → IsStackOf conts joined stack
  to_joined stack j =
      let s = are.all j.top j.suffix j.is_top j.is_suffix in
      record {
        id = s.id;
        stands = s.stands;
        is = j.is ∙ (both_are j.top j.suffix j.is_top j.is_suffix ∙ (s.is
            ∙ sym (kept_stack mid conts closing s.id (are.only s.id s.stands).0)));
      }

  below_to : (stack : List Dot) → IsStackOf conts below stack → TopReads tables stack
      × GoesOn tables (IsStackOf conts suffixes) stack
  below_to stack h =
      let o = readers.only h.id h.stands in (
        subst (λ v. TopReads tables v) (sym h.is) o.1,
        goes_as tables (IsStackOf mid ids) (IsStackOf conts suffixes) to_suffix stack
            ((closure.stacks stack).0 (record { id = h.id; stands = o.0; is = h.is })),
      )

  to_below : (stack : List Dot) → TopReads tables stack → GoesOn tables (IsStackOf conts suffixes) stack
      → IsStackOf conts below stack
  to_below stack reads_on_it g =
      let s = (closure.stacks stack).1 (goes_as tables (IsStackOf conts suffixes) (IsStackOf mid ids) of_suffix stack g)
      in
      record {
        id = s.id;
        stands = readers.all s.id s.stands (subst (λ v. TopReads tables v) s.is reads_on_it);
        is = s.is;
      }

  pub is_cut_off : IsCutOff tables conts suffixes joined tops below ended
  is_cut_off = record {
    tops_within = λ id h. kept_within start conts from_start id (tops_in id h);
    suffixes_full = λ id h none. stack_full first id older (full id h).0 (full id h).1
        (sym (kept_stack first conts (kept_both first start conts kept from_start) id (full id h).1) ∙ none);
    below_within = λ id h. closure.within id (readers.only id h).0;
    all_read = λ id h. subst (λ v. TopReads tables v) (sym (still_top id h)) (reads id h);
    joined_are = λ stack. (λ h. joined_to stack h, λ j. to_joined stack j);
    below_are = λ stack. (λ h. below_to stack h, λ h. to_below stack h.0 h.1);
    ended_is = (
      λ h. let e = closure.ended_is.0 h in (
        e.0,
        goes_as tables (IsStackOf mid ids) (IsStackOf conts suffixes) to_suffix e.0 ((closure.stacks e.0).0 e.1),
        e.2,
      ),
      λ h. closure.ended_is.1 (
        h.0,
        (closure.stacks h.0).1 (goes_as tables (IsStackOf conts suffixes) (IsStackOf mid ids) of_suffix h.0 h.1),
        h.2,
      ),
    );
  }

-- the same ids in another order
stack_reordered : (conts : List Cont) (a b : List ℕ) → IsPermutation a b → (s : List Dot) → IsStackOf conts a s
    → IsStackOf conts b s
stack_reordered conts a b p s h = record { id = h.id; stands = Contains-permutation a b h.id p h.stands; is = h.is }

pub reordered_within : (a b : List ℕ) → IsPermutation a b → (conts : List Cont)
    → ((id : ℕ) → Contains a id → id ≤ length conts) → (id : ℕ) → Contains b id → id ≤ length conts
reordered_within a b p conts within id h = within id (Contains-permutation b a id (IsPermutation-sym a b p) h)

joined_reordered : (conts : List Cont) (a b suffixes : List ℕ) → IsPermutation a b → (s : List Dot)
    → IsJoinedTop conts a suffixes s → IsJoinedTop conts b suffixes s
joined_reordered conts a b suffixes p s j = record {
  top = j.top;
  suffix = j.suffix;
  is_top = Contains-permutation a b j.top p j.is_top;
  is_suffix = j.is_suffix;
  is = j.is;
}

module _ (tables : code_flat.Tables) (conts : List Cont) (suffixes joined whole tops top_ids below below_ids : List ℕ)
    (ended : Bool) (joined_are : IsPermutation joined whole) (tops_are : IsPermutation tops top_ids)
    (below_are : IsPermutation below below_ids) (cut : IsCutOff tables conts suffixes joined tops below ended) where
  whole_back : IsPermutation whole joined
  whole_back = IsPermutation-sym joined whole joined_are

  tops_back : IsPermutation top_ids tops
  tops_back = IsPermutation-sym tops top_ids tops_are

  below_back : IsPermutation below_ids below
  below_back = IsPermutation-sym below below_ids below_are

  cut_reordered : IsCutOff tables conts suffixes whole top_ids below_ids ended
  cut_reordered = record {
    tops_within = λ id h. cut.tops_within id (Contains-permutation top_ids tops id tops_back h);
    suffixes_full = cut.suffixes_full;
    below_within = λ id h. cut.below_within id (Contains-permutation below_ids below id below_back h);
    all_read = λ id h. cut.all_read id (Contains-permutation top_ids tops id tops_back h);
    joined_are = λ stack. (
      λ h. joined_reordered conts tops top_ids suffixes tops_are stack
          ((cut.joined_are stack).0 (stack_reordered conts whole joined whole_back stack h)),
      λ j. stack_reordered conts joined whole joined_are stack
          ((cut.joined_are stack).1 (joined_reordered conts top_ids tops suffixes tops_back stack j)),
    );
    below_are = λ stack. (
      λ h. (cut.below_are stack).0 (stack_reordered conts below_ids below below_back stack h),
      λ h. stack_reordered conts below below_ids below_are stack ((cut.below_are stack).1 h),
    );
    ended_is = cut.ended_is;
  }

  -- .. of states that were added
  pub is_cut_at : (states mid more : List State) (s t b : ℕ) (from : State) → slice_get states s ≡ Some from
      → (from.tops.items ≡ whole) × (from.ended ≡ false) → IsInterned states mid top_ids false t
      → IsInterned mid more below_ids ended b → IsCutAt tables conts more s t b
  is_cut_at states mid more s t b from at_s same one two = record {
    whole_state = from;
    top_state = one.is.state;
    below_state = two.is.state;
    suffixes = suffixes;
    whole_is = grown_at mid more two.grown s from (grown_at states mid one.grown s from at_s);
    tops_are = grown_at mid more two.grown t one.is.state one.is.is;
    below_is = two.is.is;
    runs = same.1;
    tops_run = one.is.ended_is;
    cut = subst (λ v. IsCutOff tables conts suffixes from.tops.items one.is.state.tops.items two.is.state.tops.items v)
        (sym two.is.ended_is)
        (subst (λ v. IsCutOff tables conts suffixes from.tops.items one.is.state.tops.items v ended)
        (sym two.is.tops_are)
        (subst (λ v. IsCutOff tables conts suffixes from.tops.items v below_ids ended) (sym one.is.tops_are)
        (subst (λ v. IsCutOff tables conts suffixes v top_ids below_ids ended) (sym same.0) cut_reordered)));
  }

-- ids among others
pub within_is : (conts : List Cont) (a b : State) (got other : StateSet) → state_set_of conts a ≡ got
    → state_set_of conts b ≡ other → ((id : ℕ) → Contains a.tops.items id → Contains b.tops.items id)
    → (a.ended ≡ true → b.ended ≡ true) → IsStateWithin got other
within_is conts a b got other got_is other_is are ends =
    subst (λ v. IsStateWithin v other) got_is (subst (λ v. IsStateWithin (state_set_of conts a) v) other_is (record {
      stacks_are = λ stack h. let g = from_list conts a.tops.items stack h in
          to_list conts b.tops.items stack (record { id = g.id; stands = are g.id g.stands; is = g.is });
      ends = ends;
    }))

-- by stacks
module _ (tables : code_flat.Tables) (targets : GiveTargets (flat_of tables) tables.targets.items) (conts : List Cont)
    (states : List State) (s t b : ℕ) (c : IsCutAt tables conts states s t b) where
  abbrev Sets : StateSets
  Sets = record { tables = tables; states = sets_of conts states }

  abbrev Stacks : List ℕ → List (List Dot)
  Stacks ids = map (stack_of conts) ids

  abbrev Goes : List Dot → Type 0
  Goes = GoesOn tables (IsStackOf conts c.suffixes)

  abbrev IsLed : List Dot → Type 0
  IsLed = Led (flat_of tables) (last_of tables) (Contains (Stacks c.suffixes))

  goes_led : (stack : List Dot) → Goes stack → IsLed stack
  goes_led stack g = to_led tables targets (Contains (Stacks c.suffixes))
      (goes_as tables (IsStackOf conts c.suffixes) (Contains (Stacks c.suffixes)) (to_list conts c.suffixes) stack g)

  led_goes : (stack : List Dot) → IsLed stack → Goes stack
  led_goes stack l =
      goes_as tables (Contains (Stacks c.suffixes)) (IsStackOf conts c.suffixes) (from_list conts c.suffixes) stack
      (from_led tables targets (Contains (Stacks c.suffixes)) l)

  to_end : (stack : List Dot) → Goes stack → EndsAlone tables stack
      → LedToEnd (flat_of tables) (last_of tables) (Contains (Stacks c.suffixes))
  to_end [] g e = absurd e
  to_end (at n k ∷ below) g e = record {
    position = at n k;
    led_to = goes_led (at n k ∷ []) (subst (λ v. Goes (at n k ∷ v)) e.1 g);
    done = reported_done tables targets n k (slice_get tables.nodes.items n) refl e.0;
  }

  from_end : (p : Dot) → IsLed (p ∷ []) → IsDoneAt (flat_of tables) p
      → (stack : List Dot) × Goes stack × EndsAlone tables stack
  from_end (at n k) l d = (at n k ∷ [], led_goes (at n k ∷ []) l, (done_reported tables targets d, refl))

  pub is_cut_state : IsCutState Sets s t b
  is_cut_state = record {
    whole_set = state_set_of conts c.whole_state;
    top_set = state_set_of conts c.top_state;
    below_set = state_set_of conts c.below_state;
    suffixes = Stacks c.suffixes;
    whole_is = get_map (state_set_of conts) states s c.whole_is;
    tops_are = get_map (state_set_of conts) states t c.tops_are;
    below_is = get_map (state_set_of conts) states b c.below_is;
    runs = c.runs;
    tops_run = c.tops_run;
    reading = λ top h. let g = from_list conts c.top_state.tops.items top h in
        subst (λ v. IsReading (flat_of tables) v) (sym g.is)
        (reported_top tables (stack_of conts g.id) (c.cut.all_read g.id g.stands));
    full = λ stack h none. let g = from_list conts c.suffixes stack h in
        c.cut.suffixes_full g.id g.stands (sym g.is ∙ none);
    split = λ stack h. split stack
        ((c.cut.joined_are stack).0 (from_list conts c.whole_state.tops.items stack h));
    joined = λ top suffix h g. joined top suffix (from_list conts c.top_state.tops.items top h)
        (from_list conts c.suffixes suffix g);
    goes_on = record {
      tops_are = λ top. (
        λ h. let g = (c.cut.below_are top).0 (from_list conts c.below_state.tops.items top h) in
            (reported_top tables top g.0, goes_led top g.1),
        λ h. to_list conts c.below_state.tops.items top
            ((c.cut.below_are top).1 (top_reported tables h.0, led_goes top h.1)),
      );
      ended_is = (
        λ h. let e = c.cut.ended_is.0 h in to_end e.0 e.1 e.2,
        λ h. c.cut.ended_is.1 (from_end h.position h.led_to h.done),
      );
    };
  }
    where
      split : (stack : List Dot) → IsJoinedTop conts c.top_state.tops.items c.suffixes stack
          → IsTopOnSuffix (Stacks c.top_state.tops.items) (Stacks c.suffixes) stack
      split stack j = record {
        top = stack_of conts j.top;
        suffix = stack_of conts j.suffix;
        is = j.is;
        is_top = to_list conts c.top_state.tops.items (stack_of conts j.top)
            (record { id = j.top; stands = j.is_top; is = refl });
        is_suffix = to_list conts c.suffixes (stack_of conts j.suffix)
            (record { id = j.suffix; stands = j.is_suffix; is = refl });
      }

      joined : (top suffix : List Dot) → IsStackOf conts c.top_state.tops.items top → IsStackOf conts c.suffixes suffix
          → Contains (Stacks c.whole_state.tops.items) (top ++ suffix)
      joined top suffix h g = to_list conts c.whole_state.tops.items (top ++ suffix)
          ((c.cut.joined_are (top ++ suffix)).1 (record {
            top = h.id;
            suffix = g.id;
            is_top = h.stands;
            is_suffix = g.stands;
            is = ap (λ v. v ++ suffix) h.is ∙ ap (λ v. stack_of conts h.id ++ v) g.is;
          }))
