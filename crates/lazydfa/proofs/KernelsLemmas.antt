-- Kernels and what they lead to.
-- Serves: judge, viable, next.
use Rattle.std.proofs.Common.{◌≡◌, ℕ, ◌+◌, ◌<◌, ◌≤◌, Bool, true, false, List, [], ◌∷◌, ◌++◌, length, refl}
use Rattle.std.proofs.Common.{sym, ◌∙◌, ap, subst, arith, ◌⊎◌, inl, inr, get_or, length-append}
use Rattle.std.proofs.lemmas.List.Sorted.{Contains-permutation, IsPermutation-sym}
use Rattle.std.proofs.lemmas.Option.{slice_get_within, slice_get-get_or}
use Rattle.std.specs.List.Sorted.{IsPermutation}
use Rattle.std.specs.Prelude.{slice_get, Contains, Option, Some, None, Result, Ok, Err, IfOk, IfSome}
use Rattle.flatgrammar.specs.Flat.{Dot, at}
use Rattle.flatgrammar.specs.ItemClosures.{item_at, dot}
use Rattle.flatgrammar.specs.TableViews.{call_of, done_of, read_of}
use Rattle.flatgrammar.specs.declared.tables.Tables as code_flat
use Rattle.flatgrammar.proofs.SliceGetLemmas.{push_cases}
use Rattle.lazydfa.specs.declared.conts.Cont.{Cont}
use Rattle.lazydfa.specs.declared.cache.State.{State}
use Rattle.lazydfa.specs.declared.cache.Cell.{Cell}
use Rattle.lazydfa.specs.declared.cache.Cell.TheVariants.{Unknown, Over, Dead, To, Push}
use Rattle.lazydfa.specs.declared.kernels.KernelLead.{KernelLead}
use Rattle.lazydfa.specs.Conts.{stack_of, last_of, AreKept, Adds, IsStackOf, Goes, GoesOn, here, on, EndsAlone}
use Rattle.lazydfa.specs.Conts.{TopReads, ReadsFrom, IsClosure, AreReaders}
use Rattle.lazydfa.specs.Cached.{AreAddedUnknown, AreCached, AreGrown, IsCell, IsInterned}
use Rattle.lazydfa.specs.StackSuffixes.{IsSplitOff}
use Rattle.lazydfa.specs.Domination.{IsPruned, LeadsTo}
use Rattle.lazydfa.specs.Kernels.{AreClosedTops, ClosesTo, IsLeftOver, IsKernel, IsLeadTo, IsLeadOver, IsLeadCell}
use Rattle.lazydfa.specs.Kernels.{AreLeads, IsLead, IsLeadKnown, AreLeadsNoted}
use Rattle.lazydfa.specs.Kernels.{AreWholeLeads, IsWholeLead, IsWholeLeadTo}
use Rattle.lazydfa.proofs.ContsLemmas.{kept_both, kept_same, kept_within}
use Rattle.lazydfa.proofs.IsClosureLemmas.{contains_at, stands_at}
use Rattle.lazydfa.proofs.MoveLemmas.{last_suffixes}
use Rattle.lazydfa.proofs.AreCachedLemmas.{stack_on, stack_off, reads_on, reads_off, goes_as, grown_at, pruned_kept}
use Rattle.lazydfa.proofs.AreCachedLemmas.{cached_conts, cached_state}

pub ok_then : {T E : Type 0} (P Q : T → Type 0) (r : Result T E) → IfOk r P → ((t : T) → P t → Q t) → IfOk r Q
ok_then P Q (Ok t) h more = more t h
ok_then P Q (Err e) h more = tt

pub ok_both : {T E : Type 0} (P Q R : T → Type 0) (r : Result T E) → IfOk r P → IfOk r Q
    → ((t : T) → P t → Q t → R t) → IfOk r R
ok_both P Q R (Ok t) p q more = more t p q
ok_both P Q R (Err e) p q more = tt

pub ok_all : {T E : Type 0} (P : T → Type 0) (r : Result T E) → ((t : T) → P t) → IfOk r P
ok_all P (Ok t) all = all t
ok_all P (Err e) all = tt

pub some_then : {T : Type 0} (P Q : T → Type 0) (o : Option T) → IfSome o P → ((t : T) → P t → Q t) → IfSome o Q
some_then P Q (Some t) h more = more t h
some_then P Q None h more = tt

-- the readers of a closure
pub closed_tops : (tables : code_flat.Tables) (first : List Cont) (given : List ℕ) (conts : List Cont)
    (all next : List ℕ) (ended : Bool) → IsClosure tables first given conts all ended → AreReaders tables conts all next
    → AreClosedTops tables first given conts next ended
closed_tops tables first given conts all next ended closure readers = record {
  within = λ id h. closure.within id (readers.only id h).0;
  tops_are = λ stack. (λ s. there s, λ h. back stack h.0 h.1);
  ended_is = (
    λ h. let e = closure.ended_is.0 h in (e.0, (closure.stacks e.0).0 e.1, e.2),
    λ h. closure.ended_is.1 (h.0, (closure.stacks h.0).1 h.1, h.2),
  );
}
  where
    there : {stack : List Dot} → IsStackOf conts next stack → TopReads tables stack
        × GoesOn tables (IsStackOf first given) stack
    there {stack} s =
        let o = readers.only s.id s.stands in (
          subst (λ v. TopReads tables v) (sym s.is) o.1,
          (closure.stacks stack).0 (record { id = s.id; stands = o.0; is = s.is }),
        )

    back : (stack : List Dot) → TopReads tables stack → GoesOn tables (IsStackOf first given) stack
        → IsStackOf conts next stack
    back stack reads h =
        let s = (closure.stacks stack).1 h in
        record {
          id = s.id;
          stands = readers.all s.id s.stands (subst (λ v. TopReads tables v) s.is reads);
          is = s.is;
        }

-- growth before and after keeps it
pub closed_kept : (tables : code_flat.Tables) (first first_new conts conts_new : List Cont) (given next : List ℕ)
    (ended : Bool) → AreKept first first_new → AreKept conts conts_new
    → ((id : ℕ) → Contains given id → id ≤ length first) → AreClosedTops tables first given conts next ended
    → AreClosedTops tables first_new given conts_new next ended
closed_kept tables first first_new conts conts_new given next ended kept more within t = record {
  within = λ id h. kept_within conts conts_new more id (t.within id h);
  tops_are = λ s. (
    λ h. let r = (t.tops_are s).0 (stack_off conts conts_new more next t.within s h) in
        (r.0, goes_as tables _ _ (stack_on first first_new kept given within) s r.1),
    λ h. stack_on conts conts_new more next t.within s ((t.tops_are s).1
        (h.0, goes_as tables _ _ (stack_off first first_new kept given within) s h.1)),
  );
  ended_is = (
    λ h. let e = t.ended_is.0 h in
        (e.0, goes_as tables _ _ (stack_on first first_new kept given within) e.0 e.1, e.2),
    λ h. t.ended_is.1 (h.0, goes_as tables _ _ (stack_off first first_new kept given within) h.0 h.1, h.2),
  );
}

pub closes_kept : (tables : code_flat.Tables) (first first_new conts conts_new : List Cont) (given next : List ℕ)
    (ended : Bool) → AreKept first first_new → AreKept conts conts_new
    → ((id : ℕ) → Contains given id → id ≤ length first) → ClosesTo tables first given conts next ended
    → ClosesTo tables first_new given conts_new next ended
closes_kept tables first first_new conts conts_new given next ended kept more within h = record {
  read = h.read;
  is = closed_kept tables first first_new conts conts_new given h.read ended kept more within h.is;
  pruned = pruned_kept tables conts conts_new h.read next more h.is.within h.pruned;
}

pub closes_within : {tables : code_flat.Tables} {first conts : List Cont} {given next : List ℕ} {ended : Bool}
    → ClosesTo tables first given conts next ended → (id : ℕ) → Contains next id → id ≤ length conts
closes_within h id stands = h.is.within id (h.pruned.only id stands)

pub lead_to_kept : (tables : code_flat.Tables) (first first_new conts conts_new : List Cont) (given : List ℕ)
    (states more : List State) (t : ℕ) → AreKept first first_new → AreKept conts conts_new → AreGrown states more
    → ((id : ℕ) → Contains given id → id ≤ length first) → IsLeadTo tables first given conts states t
    → IsLeadTo tables first_new given conts_new more t
lead_to_kept tables first first_new conts conts_new given states more t kept later grown within h = record {
  to = h.to;
  to_is = grown_at states more grown t h.to h.to_is;
  is = closes_kept tables first first_new conts conts_new given h.to.tops.items h.to.ended kept later within h.is;
}

pub closes_pruned : (tables : code_flat.Tables) (first : List Cont) (given : List ℕ) (conts : List Cont)
    (read next : List ℕ) (before ended : Bool) → AreClosedTops tables first given conts read before
    → IsPruned tables conts read next → ended ≡ before → ClosesTo tables first given conts next ended
closes_pruned tables first given conts read next before ended is pruned same = record {
  read = read;
  is = subst (λ v. AreClosedTops tables first given conts read v) (sym same) is;
  pruned = pruned;
}

-- a state was added after others
pub begun_grown : (tables : code_flat.Tables) (samples : List ℕ) (conts mid new : List Cont) (states more : List State)
    (cells filled : List Cell) (next : List ℕ) (ended : Bool) (t : ℕ) → AreCached tables samples conts states cells
    → 0 < length states → AreKept conts mid → new ≡ mid → IsInterned states more next ended t
    → AreAddedUnknown cells filled → ((id : ℕ) → Contains next id → id ≤ length mid)
    → AreCached tables samples new more filled
begun_grown tables samples conts mid new states more cells filled next ended t cached begun kept same interned unknown
    within =
    subst (λ v. AreCached tables samples v more filled) (sym same)
    (cached_state tables samples mid states more cells filled next ended t interned unknown within
    (λ none. absurd (omega (arith, begun, none))) (cached_conts tables samples conts mid states cells kept cached))

-- a state was made of what ids lead to
module _ (tables : code_flat.Tables) (first mid apart new : List Cont) (states more : List State) (given read : List ℕ)
  where
    pub lead_made : (ended : Bool) (t : ℕ) → ((id : ℕ) → Contains given id → id ≤ length first) → AreKept mid apart
        → new ≡ apart → IsInterned states more read ended t → ClosesTo tables first given mid read ended
        → IsLeadTo tables first given new more t
    lead_made ended t within moved same interned is =
        subst (λ c. IsLeadTo tables first given c more t) (sym same) (record {
          to = interned.is.state;
          to_is = interned.is.is;
          is = subst (λ w. ClosesTo tables first given apart w interned.is.state.ended) (sym interned.is.tops_are)
              (subst (λ w. ClosesTo tables first given apart read w) (sym interned.is.ended_is)
              (closes_kept tables first first mid apart given read ended (kept_same first) moved within is));
        })

    -- .. over a suffix
    pub lead_pushed : (base : List ℕ) (ended : Bool) (t suffix : ℕ) → ((id : ℕ) → Contains given id → id ≤ length first)
        → AreKept mid apart → new ≡ apart → IsInterned states more base false t → ended ≡ false
        → ClosesTo tables first given mid read ended → IsSplitOff tables apart read base suffix
        → IsLeadOver tables first given new more t suffix
    lead_pushed base ended t suffix within moved same interned runs is split =
        subst (λ c. IsLeadOver tables first given c more t suffix) (sym same) (record {
          to = interned.is.state;
          to_is = interned.is.is;
          read = read;
          is = subst (λ w. ClosesTo tables first given apart read w) runs
              (closes_kept tables first first mid apart given read ended (kept_same first) moved within is);
          split = subst (λ w. IsSplitOff tables apart read w suffix) (sym interned.is.tops_are) split;
          runs = interned.is.ended_is;
        })

-- what leads on from the given ids leads on from stacks of some set, if these are their stacks
module _ (tables : code_flat.Tables) (d : ℕ) (first mid conts : List Cont) (tops none ids : List ℕ)
    (empty : none ≡ []) (kept : AreKept first mid) (more : AreKept mid conts)
    (within : (id : ℕ) → Contains tops id → id ≤ length first)
    (adds : Adds mid (ReadsFrom tables d first tops) none ids)
  where
    kept_through : AreKept first conts
    kept_through = kept_both first mid conts kept more

    was_added : (id : ℕ) → Contains ids id → Contains adds.added id
    was_added id h = subst (λ v. Contains v id) (adds.grown ∙ ap (λ v. v ++ adds.added) empty) h

    to_read : (s : List Dot) → IsStackOf mid ids s → ReadsFrom tables d conts tops s
    to_read s h =
        reads_on first conts kept_through tops within tables d s
        (subst (λ v. ReadsFrom tables d first tops v) (sym h.is) (adds.sound h.id (was_added h.id h.stands)).1)

    of_read : (s : List Dot) → ReadsFrom tables d conts tops s → IsStackOf mid ids s
    of_read s r =
        let w = adds.whole s (reads_off first conts kept_through tops within tables d s r) in
        record { id = w.0; stands = w.1; is = sym w.2.is }

    read_leads : (next : List ℕ) (ended : Bool) → ClosesTo tables mid ids conts next ended
        → LeadsTo tables d conts tops conts next ended
    read_leads next ended h = record {
      read = h.read;
      is = record {
        within = h.is.within;
        tops_are = λ s. (
          λ k. let r = (h.is.tops_are s).0 k in (r.0, goes_as tables _ _ to_read s r.1),
          λ k. (h.is.tops_are s).1 (k.0, goes_as tables _ _ of_read s k.1),
        );
        ended_is = (
          λ k. let e = h.is.ended_is.0 k in (e.0, goes_as tables _ _ to_read e.0 e.1, e.2),
          λ k. h.is.ended_is.1 (k.0, goes_as tables _ _ of_read k.0 k.1, k.2),
        );
      };
      pruned = h.pruned;
    }

    some_read : 0 < length ids → (stack : List Dot) × ReadsFrom tables d conts tops stack
    some_read lt =
        let id = get_or ids 0 0 in
        let there = contains_at ids 0 id (slice_get-get_or ids 0 0 lt) in
        (stack_of mid id, to_read (stack_of mid id) (record { id = id; stands = there; is = refl }))

    -- .. so the cell of the state from which they were read
    pub lead_cell : (states more : List State) (from : State) (s : ℕ) (cell : Cell) → AreGrown states more
        → slice_get states s ≡ Some from → tops ≡ from.tops.items → 0 < length ids
        → IsLeadCell tables mid ids conts more cell → IsCell tables d conts more s cell
    lead_cell states more from s Unknown grown at_s same lt h = tt
    lead_cell states more from s Over grown at_s same lt h = tt
    lead_cell states more from s Dead grown at_s same lt h = absurd h
    lead_cell states more from s (To t) grown at_s same lt h = record {
      from = from;
      to = h.to;
      from_is = grown_at states more grown s from at_s;
      to_is = h.to_is;
      is = subst (λ v. LeadsTo tables d conts v conts h.to.tops.items h.to.ended) same
          (read_leads h.to.tops.items h.to.ended h.is);
      some = let r = some_read lt in (r.0, subst (λ v. ReadsFrom tables d conts v r.0) same r.1);
    }
    lead_cell states more from s (Push t suffix) grown at_s same lt h = record {
      from = from;
      to = h.to;
      read = h.read;
      from_is = grown_at states more grown s from at_s;
      to_is = h.to_is;
      is = subst (λ v. LeadsTo tables d conts v conts h.read false) same (read_leads h.read false h.is);
      some = let r = some_read lt in (r.0, subst (λ v. ReadsFrom tables d conts v r.0) same r.1);
      split = h.split;
      runs = h.runs;
    }

    pub none_read : length ids ≡ 0 → (stack : List Dot) → ReadsFrom tables d conts tops stack → ⊥
    none_read zero_long stack r =
        let s = of_read stack r in
        let t = stands_at ids s.id s.stands in
        let lt = slice_get_within ids t.position s.id t.is in omega (arith, lt, zero_long)

-- what is left to do of a stack
module _ (tables : code_flat.Tables) where
  goes_left : (p : Dot) (rest : List Dot) → last_of tables p ≡ true → (rest ≡ [] → ⊥) → Goes tables (p ∷ rest) rest
  goes_left (at n k) rest is some =
      inr (
        (last_suffixes (call_of tables (item_at 0 (dot n k))) (done_of tables (item_at 0 (dot n k)))
            (read_of tables (item_at 0 (dot n k))) is).1,
        refl,
        some,
      )

  left_goes : (p : Dot) (rest next : List Dot) → last_of tables p ≡ true → Goes tables (p ∷ rest) next → next ≡ rest
  left_goes (at n k) rest next is (inl m) =
      let l = last_suffixes (call_of tables (item_at 0 (dot n k))) (done_of tables (item_at 0 (dot n k)))
      (read_of tables (item_at 0 (dot n k))) is in
      let c = m.called in
      let n = l.0 in absurd (cc (c, n))
  left_goes (at n k) rest next is (inr e) = e.1

  left_reads : (p : Dot) (rest : List Dot) → last_of tables p ≡ true → TopReads tables (p ∷ rest) → ⊥
  left_reads (at n k) rest is reads =
      reads (last_suffixes (call_of tables (item_at 0 (dot n k))) (done_of tables (item_at 0 (dot n k)))
      (read_of tables (item_at 0 (dot n k))) is).2

  left_ends : (p : Dot) (rest : List Dot) → (rest ≡ [] → ⊥) → EndsAlone tables (p ∷ rest) → ⊥
  left_ends (at n k) rest some e = some e.1

  module _ (conts : List Cont) (ids kernel : List ℕ) (k : IsKernel tables conts ids kernel) where
    -- a stack with something left to do below its top alone
    record IsPopped (s : List Dot) : Type 0 where
      top : Dot
      rest : List Dot
      is : s ≡ top ∷ rest
      last : last_of tables top ≡ true
      some : rest ≡ [] → ⊥
      goes : GoesOn tables (IsStackOf conts kernel) rest

    of_kernel : (s : List Dot) → IsStackOf conts kernel s → GoesOn tables (IsStackOf conts ids) s
    of_kernel s h =
        let t = stands_at kernel h.id h.stands in
        let lt = slice_get_within kernel t.position h.id t.is in
        let m = k.many in
        let there = slice_get-get_or ids t.position 0 (omega (arith, lt, m)) in
        by (get_or ids t.position 0) (contains_at ids t.position (get_or ids t.position 0) there)
        (k.left t.position (get_or ids t.position 0) h.id there t.is).1
      where
        by : (id : ℕ) → Contains ids id → IsLeftOver tables (stack_of conts id) (stack_of conts h.id)
            → GoesOn tables (IsStackOf conts ids) s
        by id there (inl same) = here (record { id = id; stands = there; is = h.is ∙ sym same })
        by id there (inr left) =
            subst (λ v. GoesOn tables (IsStackOf conts ids) v) (sym h.is)
            (on (here (record { id = id; stands = there; is = refl }))
            (subst (λ v. Goes tables v (stack_of conts h.id)) (sym left.1)
            (goes_left left.0 (stack_of conts h.id) left.2 left.3)))

    kernel_goes : {s : List Dot} → GoesOn tables (IsStackOf conts kernel) s → GoesOn tables (IsStackOf conts ids) s
    kernel_goes (here {stack = s} h) = of_kernel s h
    kernel_goes (on h g) = on (kernel_goes h) g

    to_kernel : (s : List Dot) → IsStackOf conts ids s → GoesOn tables (IsStackOf conts kernel) s ⊎ IsPopped s
    to_kernel s h =
        let t = stands_at ids h.id h.stands in
        let lt = slice_get_within ids t.position h.id t.is in
        let m = k.many in
        let there = slice_get-get_or kernel t.position 0 (omega (arith, lt, m)) in
        by (get_or kernel t.position 0) (contains_at kernel t.position (get_or kernel t.position 0) there)
        (k.left t.position h.id (get_or kernel t.position 0) t.is there).1
      where
        by : (id : ℕ) → Contains kernel id → IsLeftOver tables (stack_of conts h.id) (stack_of conts id)
            → GoesOn tables (IsStackOf conts kernel) s ⊎ IsPopped s
        by id there (inl same) = inl (here (record { id = id; stands = there; is = h.is ∙ same }))
        by id there (inr left) = inr (record {
          top = left.0;
          rest = stack_of conts id;
          is = h.is ∙ left.1;
          last = left.2;
          some = left.3;
          goes = here (record { id = id; stands = there; is = refl });
        })

    goes_kernel : {s : List Dot} → GoesOn tables (IsStackOf conts ids) s
        → GoesOn tables (IsStackOf conts kernel) s ⊎ IsPopped s
    goes_kernel (here {stack = s} h) = to_kernel s h
    goes_kernel (on {stack = s} {next = t} h g) = by (goes_kernel h)
      where
        by : GoesOn tables (IsStackOf conts kernel) s ⊎ IsPopped s
            → GoesOn tables (IsStackOf conts kernel) t ⊎ IsPopped t
        by (inl q) = inl (on q g)
        by (inr p) = inl (subst (λ v. GoesOn tables (IsStackOf conts kernel) v)
            (sym (left_goes p.top p.rest t p.last (subst (λ v. Goes tables v t) p.is g))) p.goes)

    reads_kernel : {s : List Dot} → TopReads tables s → GoesOn tables (IsStackOf conts ids) s
        → GoesOn tables (IsStackOf conts kernel) s
    reads_kernel {s} reads h = by (goes_kernel h)
      where
        by : GoesOn tables (IsStackOf conts kernel) s ⊎ IsPopped s → GoesOn tables (IsStackOf conts kernel) s
        by (inl q) = q
        by (inr p) = absurd (left_reads p.top p.rest p.last (subst (λ v. TopReads tables v) p.is reads))

    ends_kernel : {s : List Dot} → EndsAlone tables s → GoesOn tables (IsStackOf conts ids) s
        → GoesOn tables (IsStackOf conts kernel) s
    ends_kernel {s} ends h = by (goes_kernel h)
      where
        by : GoesOn tables (IsStackOf conts kernel) s ⊎ IsPopped s → GoesOn tables (IsStackOf conts kernel) s
        by (inl q) = q
        by (inr p) = absurd (left_ends p.top p.rest p.some (subst (λ v. EndsAlone tables v) p.is ends))

    -- a kernel closes to what its ids close to, and the other way
    pub kernel_closed : (new : List Cont) (next : List ℕ) (ended : Bool)
        → AreClosedTops tables conts ids new next ended → AreClosedTops tables conts kernel new next ended
    kernel_closed new next ended h = record {
      within = h.within;
      tops_are = λ s. (
        λ r. let g = (h.tops_are s).0 r in (g.0, reads_kernel g.0 g.1),
        λ g. (h.tops_are s).1 (g.0, kernel_goes g.1),
      );
      ended_is = (
        λ r. let e = h.ended_is.0 r in (e.0, ends_kernel e.2 e.1, e.2),
        λ e. h.ended_is.1 (e.0, kernel_goes e.1, e.2),
      );
    }

    pub closed_kernel : (new : List Cont) (next : List ℕ) (ended : Bool)
        → AreClosedTops tables conts kernel new next ended → AreClosedTops tables conts ids new next ended
    closed_kernel new next ended h = record {
      within = h.within;
      tops_are = λ s. (
        λ r. let g = (h.tops_are s).0 r in (g.0, kernel_goes g.1),
        λ g. (h.tops_are s).1 (g.0, reads_kernel g.0 g.1),
      );
      ended_is = (
        λ r. let e = h.ended_is.0 r in (e.0, kernel_goes e.1, e.2),
        λ e. h.ended_is.1 (e.0, ends_kernel e.2 e.1, e.2),
      );
    }

    -- .. without dominated stacks
    pub kernel_leads : (new : List Cont) (states : List State) (t : ℕ) → IsLeadTo tables conts ids new states t
        → IsLeadTo tables conts kernel new states t
    kernel_leads new states t h = record {
      to = h.to;
      to_is = h.to_is;
      is = record {
        read = h.is.read;
        is = kernel_closed new h.is.read h.to.ended h.is.is;
        pruned = h.is.pruned;
      };
    }

    pub leads_kernel : (new : List Cont) (states : List State) (t : ℕ) → IsLeadTo tables conts kernel new states t
        → IsLeadTo tables conts ids new states t
    leads_kernel new states t h = record {
      to = h.to;
      to_is = h.to_is;
      is = record {
        read = h.is.read;
        is = closed_kernel new h.is.read h.to.ended h.is.is;
        pruned = h.is.pruned;
      };
    }

    pub kernel_within : (id : ℕ) → Contains kernel id → id ≤ length conts
    kernel_within id h =
        let t = stands_at kernel id h in
        let lt = slice_get_within kernel t.position id t.is in
        let m = k.many in
        let there = slice_get-get_or ids t.position 0 (omega (arith, lt, m)) in
        (k.left t.position (get_or ids t.position 0) id there t.is).0

-- leads that are kept
module _ (tables : code_flat.Tables) where
  pub leads_none : (conts : List Cont) (states : List State) (leads : List KernelLead) → leads ≡ []
      → AreLeads tables conts states leads
  leads_none conts states leads none k lead is =
      absurd (let e = subst (λ v. slice_get v k ≡ Some lead) none is in cc e)

  pub leads_grown : (old new : List Cont) (states more : List State) (leads : List KernelLead) → AreKept old new
      → AreGrown states more → AreLeads tables old states leads → AreLeads tables new more leads
  leads_grown old new states more leads kept grown are k lead is =
      let l = are k lead is in
      record {
        within = λ id h. kept_within old new kept id (l.within id h);
        is = lead_to_kept tables old new old new lead.kernel.items states more lead.to kept kept grown l.within l.is;
      }

  pub leads_noted : (conts : List Cont) (states : List State) (old new : List KernelLead) (kernel : List ℕ) (t : ℕ)
      → AreLeadsNoted old new kernel t → ((id : ℕ) → Contains kernel id → id ≤ length conts)
      → IsLeadTo tables conts kernel conts states t → AreLeads tables conts states old
      → AreLeads tables conts states new
  leads_noted conts states old new kernel t noted within leads are k lead is = by (noted k lead is)
    where
      by : (slice_get old k ≡ Some lead) ⊎ ((lead.kernel.items ≡ kernel) × (lead.to ≡ t))
          → IsLead tables conts states lead
      by (inl there) = are k lead there
      by (inr made) = record {
        within = λ id h. within id (subst (λ v. Contains v id) made.0 h);
        is = subst (λ v. IsLeadTo tables conts v conts states lead.to) (sym made.0)
            (subst (λ v. IsLeadTo tables conts kernel conts states v) (sym made.1) leads);
      }

  pub lead_found : (conts : List Cont) (states : List State) (leads : List KernelLead) (kernel : List ℕ) (t : ℕ)
      → AreLeads tables conts states leads → IsLeadKnown leads kernel t
      → IsLeadTo tables conts kernel conts states t
  lead_found conts states leads kernel t are known =
      subst (λ v. IsLeadTo tables conts v conts states t) known.kernel_is
      (subst (λ v. IsLeadTo tables conts known.lead.kernel.items conts states v) known.to_is
      (are known.position known.lead known.is).is)

pub noted_push : (old new : List KernelLead) (lead : KernelLead) → new ≡ old ++ lead ∷ []
    → AreLeadsNoted old new lead.kernel.items lead.to
noted_push old new lead grown k other is = by (push_cases old lead k other (subst
    (λ v. slice_get v k ≡ Some other) grown is))
  where
    by : (slice_get old k ≡ Some other) ⊎ ((k ≡ length old) × (lead ≡ other))
        → (slice_get old k ≡ Some other) ⊎ ((other.kernel.items ≡ lead.kernel.items) × (other.to ≡ lead.to))
    by (inl there) = inl there
    by (inr made) = inr (ap (λ v. v.kernel.items) (sym made.1), ap (λ v. v.to) (sym made.1))

-- the first so many ids have their kernel
module _ (tables : code_flat.Tables) (conts : List Cont) (ids : List ℕ) where
  pub record KernelFirst (count : ℕ) (kernel : List ℕ) : Type 0 where
    pub many : length kernel ≡ count
    pub left : (k id other : ℕ) → slice_get ids k ≡ Some id → slice_get kernel k ≡ Some other
        → (other ≤ length conts) × IsLeftOver tables (stack_of conts id) (stack_of conts other)
    pub within : count ≤ length ids

  pub kernel_none : (none : List ℕ) → none ≡ [] → KernelFirst 0 none
  kernel_none none is = record {
    many = ap (λ v. length v) is;
    left = λ k id other at_ids at_none.
        absurd (let e = subst (λ v. slice_get v k ≡ Some other) is at_none in cc e);
    within = omega arith;
  }

  pub kernel_more : (count id other : ℕ) (kernel new : List ℕ) → slice_get ids count ≡ Some id → other ≤ length conts
      → IsLeftOver tables (stack_of conts id) (stack_of conts other) → new ≡ kernel ++ other ∷ []
      → KernelFirst count kernel → KernelFirst (count + 1) new
  kernel_more count id other kernel new at_count within is grown first = record {
    many =
        let l = length-append kernel (other ∷ []) in
        let g : length new ≡ length (kernel ++ other ∷ []) = ap (λ v. length v) grown in
        let m = first.many in
        omega (arith, l, g, m);
    left = λ k id_k other_k at_ids at_new.
        by k id_k other_k at_ids
        (push_cases kernel other k other_k (subst (λ v. slice_get v k ≡ Some other_k) grown at_new));
    within = let lt = slice_get_within ids count id at_count in omega (arith, lt);
  }
    where
      by : (k id_k other_k : ℕ) → slice_get ids k ≡ Some id_k
          → (slice_get kernel k ≡ Some other_k) ⊎ ((k ≡ length kernel) × (other ≡ other_k))
          → (other_k ≤ length conts) × IsLeftOver tables (stack_of conts id_k) (stack_of conts other_k)
      by k id_k other_k at_ids (inl there) = first.left k id_k other_k at_ids there
      by k id_k other_k at_ids (inr made) =
          let both : Some id ≡ Some id_k = sym at_count
          ∙ subst (λ v. slice_get ids v ≡ Some id_k) (made.0 ∙ first.many) at_ids in
          let same : id ≡ id_k = cc both in (
            subst (λ v. v ≤ length conts) made.1 within,
            subst (λ v. IsLeftOver tables (stack_of conts v) (stack_of conts other_k)) same
                (subst (λ v. IsLeftOver tables (stack_of conts id) (stack_of conts v)) made.1 is),
          )

  pub kernel_done : (count : ℕ) (kernel : List ℕ) → length ids ≤ count → KernelFirst count kernel
      → IsKernel tables conts ids kernel
  kernel_done count kernel le first = record {
    many = let m = first.many in let w = first.within in omega (arith, m, w, le);
    left = first.left;
  }

-- the ids of a closure in another order
pub closed_reordered : (tables : code_flat.Tables) (first : List Cont) (given : List ℕ) (conts : List Cont)
    (next other : List ℕ) (ended : Bool) → IsPermutation next other
    → AreClosedTops tables first given conts next ended → AreClosedTops tables first given conts other ended
closed_reordered tables first given conts next other ended p t = record {
  within = λ id h. t.within id (back id h);
  tops_are = λ stack. (
    λ s. (t.tops_are stack).0 (record { id = s.id; stands = back s.id s.stands; is = s.is }),
    λ h. let s = (t.tops_are stack).1 h in
        record { id = s.id; stands = Contains-permutation next other s.id p s.stands; is = s.is },
  );
  ended_is = t.ended_is;
}
  where
    back : (id : ℕ) → Contains other id → Contains next id
    back id h = Contains-permutation other next id (IsPermutation-sym next other p) h

module _ (tables : code_flat.Tables) where
  -- a state was made of what ids lead to
  pub whole_made : (first mid new : List Cont) (states more : List State) (given next : List ℕ) (ended : Bool) (t : ℕ)
      → new ≡ mid → IsInterned states more next ended t → AreClosedTops tables first given mid next ended
      → IsWholeLeadTo tables first given new more t
  whole_made first mid new states more given next ended t same interned is =
      subst (λ c. IsWholeLeadTo tables first given c more t) (sym same) (record {
        to = interned.is.state;
        to_is = interned.is.is;
        is = subst (λ w. AreClosedTops tables first given mid w interned.is.state.ended) (sym interned.is.tops_are)
            (subst (λ w. AreClosedTops tables first given mid next w) (sym interned.is.ended_is) is);
      })

  -- growth before and after keeps it
  whole_kept : (first first_new conts conts_new : List Cont) (given : List ℕ) (states more : List State) (t : ℕ)
      → AreKept first first_new → AreKept conts conts_new → AreGrown states more
      → ((id : ℕ) → Contains given id → id ≤ length first) → IsWholeLeadTo tables first given conts states t
      → IsWholeLeadTo tables first_new given conts_new more t
  whole_kept first first_new conts conts_new given states more t kept later grown within h = record {
    to = h.to;
    to_is = grown_at states more grown t h.to h.to_is;
    is = closed_kept tables first first_new conts conts_new given h.to.tops.items h.to.ended kept later within h.is;
  }

  -- leads that are kept
  pub wholes_none : (conts : List Cont) (states : List State) (leads : List KernelLead) → leads ≡ []
      → AreWholeLeads tables conts states leads
  wholes_none conts states leads none k lead is =
      absurd (let e = subst (λ v. slice_get v k ≡ Some lead) none is in cc e)

  pub wholes_grown : (old new : List Cont) (states more : List State) (leads : List KernelLead) → AreKept old new
      → AreGrown states more → AreWholeLeads tables old states leads → AreWholeLeads tables new more leads
  wholes_grown old new states more leads kept grown are k lead is =
      let l = are k lead is in
      record {
        within = λ id h. kept_within old new kept id (l.within id h);
        is = whole_kept old new old new lead.kernel.items states more lead.to kept kept grown l.within l.is;
      }

  -- the lead of a kernel, and of the ids of which it is the kernel
  module _ (conts : List Cont) (ids kernel : List ℕ) (is_kernel : IsKernel tables conts ids kernel) where
    pub whole_found : (states : List State) (leads : List KernelLead) (t : ℕ) → AreWholeLeads tables conts states leads
        → IsLeadKnown leads kernel t → IsWholeLeadTo tables conts ids conts states t
    whole_found states leads t are known =
        let h : IsWholeLeadTo tables conts kernel conts states t =
        subst (λ v. IsWholeLeadTo tables conts v conts states t) known.kernel_is
        (subst (λ v. IsWholeLeadTo tables conts known.lead.kernel.items conts states v) known.to_is
        (are known.position known.lead known.is).is) in
        record {
          to = h.to;
          to_is = h.to_is;
          is = closed_kernel tables conts ids kernel is_kernel conts h.to.tops.items h.to.ended h.is;
        }

    pub whole_noted : (new : List Cont) (states more : List State) (old leads : List KernelLead) (t : ℕ)
        → AreKept conts new → AreGrown states more → AreLeadsNoted old leads kernel t
        → IsWholeLeadTo tables conts ids new more t → AreWholeLeads tables conts states old
        → AreWholeLeads tables new more leads
    whole_noted new states more old leads t kept grown noted h are k lead is = by (noted k lead is)
      where
        within : (id : ℕ) → Contains kernel id → id ≤ length conts
        within = kernel_within tables conts ids kernel is_kernel

        leads_there : IsWholeLeadTo tables new kernel new more t
        leads_there = record {
          to = h.to;
          to_is = h.to_is;
          is = closed_kept tables conts new new new kernel h.to.tops.items h.to.ended kept (kept_same new) within
              (kernel_closed tables conts ids kernel is_kernel new h.to.tops.items h.to.ended h.is);
        }

        by : (slice_get old k ≡ Some lead) ⊎ ((lead.kernel.items ≡ kernel) × (lead.to ≡ t))
            → IsWholeLead tables new more lead
        by (inl there) = wholes_grown conts new states more old kept grown are k lead there
        by (inr made) = record {
          within = λ id g. kept_within conts new kept id (within id (subst (λ v. Contains v id) made.0 g));
          is = subst (λ v. IsWholeLeadTo tables new v new more lead.to) (sym made.0)
              (subst (λ v. IsWholeLeadTo tables new kernel new more v) (sym made.1) leads_there);
        }
