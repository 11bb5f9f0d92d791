-- What is cached stays so while the cache grows.
-- Serves: judge.
use Rattle.std.proofs.Common.{◌≡◌, ℕ, zero, suc, ◌+◌, ◌*◌, ◌/◌, ◌%◌, ◌<◌}
use Rattle.std.proofs.Common.{◌≤◌, Bool, false, List, [], ◌∷◌, ◌++◌, length}
use Rattle.std.proofs.Common.{refl, sym, ◌∙◌, ap}
use Rattle.std.proofs.Common.{subst, arith, ◌⊎◌, inl, inr}
use Rattle.std.proofs.lemmas.List.{append-nil}
use Rattle.std.proofs.lemmas.Bool.{cases_lt}
use Rattle.std.proofs.lemmas.Nat.{div-mul-add, div-add-mod'}
use Rattle.std.proofs.lemmas.Option.{slice_get_within}
use Rattle.std.proofs.Math.ListN.{set}
use Rattle.std.specs.Prelude.{slice_get, Some, Contains}
use Rattle.flatgrammar.specs.Flat.{Dot}
use Rattle.flatgrammar.specs.NodeSteps.{flat_of}
use Rattle.flatgrammar.specs.declared.tables.Tables as code_flat
use Rattle.flatgrammar.proofs.InlinedLemmas.{set_same, set_other}
use Rattle.flatgrammar.proofs.SliceGetLemmas.{push_cases}
use Rattle.lazydfa.specs.declared.conts.Cont.{Cont}
use Rattle.lazydfa.specs.declared.cache.State.{State}
use Rattle.lazydfa.specs.declared.cache.Cell.{Cell}
use Rattle.lazydfa.specs.declared.cache.Cell.TheVariants.{Unknown, Over, Dead, To, Push}
use Rattle.lazydfa.specs.Conts.{stack_of, AreKept, IsStackOf, GoesOn, here, on, ReadsOn, ReadsFrom, IsTransition}
use Rattle.lazydfa.specs.Conts.{TopReads}
use Rattle.lazydfa.specs.Cached.{IsStart, AreGrown, IsStateOf, IsInterned, IsCell, AreCached}
use Rattle.lazydfa.specs.Cached.{AreAddedUnknown}
use Rattle.lazydfa.specs.Domination.{Dominates, IsPruned, LeadsTo}
use Rattle.lazydfa.specs.StackSuffixes.{IsSplitOff}
use Rattle.lazydfa.proofs.ContsLemmas.{kept_stack, kept_within, kept_same}

module _ (old new : List Cont) (kept : AreKept old new) where
  module _ (tops : List ℕ) (within : (id : ℕ) → Contains tops id → id ≤ length old) where
    pub stack_on : (s : List Dot) → IsStackOf old tops s → IsStackOf new tops s
    stack_on s h = record {
      id = h.id;
      stands = h.stands;
      is = h.is ∙ sym (kept_stack old new kept h.id (within h.id h.stands));
    }

    pub stack_off : (s : List Dot) → IsStackOf new tops s → IsStackOf old tops s
    stack_off s h = record {
      id = h.id;
      stands = h.stands;
      is = h.is ∙ kept_stack old new kept h.id (within h.id h.stands);
    }

    module _ (tables : code_flat.Tables) (c : ℕ) where
      pub reads_on : (s : List Dot) → ReadsFrom tables c old tops s → ReadsFrom tables c new tops s
      reads_on s h = record {
        id = h.id;
        stands = h.stands;
        reads = subst (λ v. ReadsOn tables c v s) (sym (kept_stack old new kept h.id (within h.id h.stands))) h.reads;
      }

      pub reads_off : (s : List Dot) → ReadsFrom tables c new tops s → ReadsFrom tables c old tops s
      reads_off s h = record {
        id = h.id;
        stands = h.stands;
        reads = subst (λ v. ReadsOn tables c v s) (kept_stack old new kept h.id (within h.id h.stands)) h.reads;
      }

-- growth keeps it
pub split_kept : (tables : code_flat.Tables) (old new : List Cont) (tops base : List ℕ) (suffix : ℕ) → AreKept old new
    → ((id : ℕ) → Contains tops id → id ≤ length old) → IsSplitOff tables old tops base suffix
    → IsSplitOff tables new tops base suffix
split_kept tables old new tops base suffix kept within s =
    let same = kept_stack old new kept suffix s.within in
    record {
      within = kept_within old new kept suffix s.within;
      base_within = λ id h. kept_within old new kept id (s.base_within id h);
      full = λ empty. s.full (sym same ∙ empty);
      tops_are = λ stack. (
        λ h. let l = (s.tops_are stack).0 (stack_off old new kept tops within stack h) in record {
          top = l.top;
          is = stack_on old new kept base s.base_within l.top l.is;
          stack_is = l.stack_is ∙ ap (λ v. l.top ++ v) (sym same);
        },
        λ l. stack_on old new kept tops within stack ((s.tops_are stack).1 (record {
          top = l.top;
          is = stack_off old new kept base s.base_within l.top l.is;
          stack_is = l.stack_is ∙ ap (λ v. l.top ++ v) same;
        })),
      );
      all_read = λ id h. subst (λ v. TopReads tables v) (sym (kept_stack old new kept id (s.base_within id h)))
          (s.all_read id h);
    }

pub goes_as : (tables : code_flat.Tables) (P Q : List Dot → Type 0) → ((s : List Dot) → P s → Q s)
    → (s : List Dot) → GoesOn tables P s → GoesOn tables Q s
goes_as tables P Q to _ (here {stack = s} h) = here (to s h)
goes_as tables P Q to _ (on {stack = r} h g) = on (goes_as tables P Q to r h) g

-- growth before and after a transition keeps it
pub transition_kept : (tables : code_flat.Tables) (c : ℕ) (first first_new conts conts_new : List Cont)
    (tops next : List ℕ) (ended : Bool) → AreKept first first_new → AreKept conts conts_new
    → ((id : ℕ) → Contains tops id → id ≤ length first) → IsTransition tables c first tops conts next ended
    → IsTransition tables c first_new tops conts_new next ended
transition_kept tables c first first_new conts conts_new tops next ended kept more within t = record {
  within = λ id h. kept_within conts conts_new more id (t.within id h);
  tops_are = λ s. (
    λ h. let r = (t.tops_are s).0 (stack_off conts conts_new more next t.within s h) in
        (r.0, goes_as tables _ _ (reads_on first first_new kept tops within tables c) s r.1),
    λ h. stack_on conts conts_new more next t.within s ((t.tops_are s).1
        (h.0, goes_as tables _ _ (reads_off first first_new kept tops within tables c) s h.1)),
  );
  ended_is = (
    λ h. let e = t.ended_is.0 h in
        (e.0, goes_as tables _ _ (reads_on first first_new kept tops within tables c) e.0 e.1, e.2),
    λ h. t.ended_is.1 (h.0, goes_as tables _ _ (reads_off first first_new kept tops within tables c) h.0 h.1, h.2),
  );
}

pub pruned_kept : (tables : code_flat.Tables) (old new : List Cont) (all kept : List ℕ) → AreKept old new
    → ((id : ℕ) → Contains all id → id ≤ length old) → IsPruned tables old all kept → IsPruned tables new all kept
pruned_kept tables old new all kept grown within h = record {
  only = h.only;
  rest = λ id stands.
      let r = h.rest id stands in (
        r.0,
        r.1,
        subst (λ v. Dominates (flat_of tables) v (stack_of new id))
            (sym (kept_stack old new grown r.0 (within r.0 (h.only r.0 r.1))))
            (subst (λ v. Dominates (flat_of tables) (stack_of old r.0) v)
            (sym (kept_stack old new grown id (within id stands))) r.2),
      );
}

pub leads_within : {tables : code_flat.Tables} {c : ℕ} {first conts : List Cont} {tops next : List ℕ} {ended : Bool}
    → LeadsTo tables c first tops conts next ended → (id : ℕ) → Contains next id → id ≤ length conts
leads_within h id stands = h.is.within id (h.pruned.only id stands)

pub leads_kept : (tables : code_flat.Tables) (c : ℕ) (first first_new conts conts_new : List Cont)
    (tops next : List ℕ) (ended : Bool) → AreKept first first_new → AreKept conts conts_new
    → ((id : ℕ) → Contains tops id → id ≤ length first) → LeadsTo tables c first tops conts next ended
    → LeadsTo tables c first_new tops conts_new next ended
leads_kept tables c first first_new conts conts_new tops next ended kept more within h = record {
  read = h.read;
  is = transition_kept tables c first first_new conts conts_new tops h.read ended kept more within h.is;
  pruned = pruned_kept tables conts conts_new h.read next more h.is.within h.pruned;
}

pub start_kept : (tables : code_flat.Tables) (old new : List Cont) (tops : List ℕ) (ended : Bool) → AreKept old new
    → IsStart tables old tops ended → IsStart tables new tops ended
start_kept tables old new tops ended kept t = record {
  within = λ id h. kept_within old new kept id (t.within id h);
  tops_are = λ s. (
    λ h. (t.tops_are s).0 (stack_off old new kept tops t.within s h),
    λ h. stack_on old new kept tops t.within s ((t.tops_are s).1 h),
  );
  ended_is = t.ended_is;
}

get_left : {A : Type 0} (xs ys : List A) (k : ℕ) (x : A) → slice_get xs k ≡ Some x → slice_get (xs ++ ys) k ≡ Some x
get_left [] ys k x h = absurd (cc h)
get_left (y ∷ xs) ys zero x h = h
get_left (y ∷ xs) ys (suc k) x h = get_left xs ys k x h

pub grown_at : (old new : List State) → AreGrown old new → (s : ℕ) (state : State) → slice_get old s ≡ Some state
    → slice_get new s ≡ Some state
grown_at old new grown s state h =
    subst (λ v. slice_get v s ≡ Some state) (sym grown.grown) (get_left old grown.added s state h)

pub grown_same : (states : List State) → AreGrown states states
grown_same states = record { added = []; grown = sym (append-nil states) }

-- growth of continuations and states keeps a cell
pub cell_kept : (tables : code_flat.Tables) (d : ℕ) (old new : List Cont) (states more : List State) (s : ℕ)
    (cell : Cell) → AreKept old new → AreGrown states more →
    ((s : ℕ) (state : State) → slice_get states s ≡ Some state → (id : ℕ) → Contains state.tops.items id
    → id ≤ length old) → IsCell tables d old states s cell → IsCell tables d new more s cell
cell_kept tables d old new states more s Unknown kept grown within h = tt
cell_kept tables d old new states more s Over kept grown within h = tt
cell_kept tables d old new states more s Dead kept grown within h = record {
  from = h.from;
  from_is = grown_at states more grown s h.from h.from_is;
  none = λ stack r. h.none stack (reads_off old new kept h.from.tops.items
      (within s h.from h.from_is) tables d stack r);
}
cell_kept tables d old new states more s (To t) kept grown within h = record {
  from = h.from;
  to = h.to;
  from_is = grown_at states more grown s h.from h.from_is;
  to_is = grown_at states more grown t h.to h.to_is;
  is = leads_kept tables d old new old new h.from.tops.items h.to.tops.items h.to.ended kept kept
      (within s h.from h.from_is) h.is;
  some = (
    h.some.0,
    reads_on old new kept h.from.tops.items (within s h.from h.from_is) tables d h.some.0 h.some.1,
  );
}
cell_kept tables d old new states more s (Push t suffix) kept grown within h = record {
  from = h.from;
  to = h.to;
  read = h.read;
  from_is = grown_at states more grown s h.from h.from_is;
  to_is = grown_at states more grown t h.to h.to_is;
  is = leads_kept tables d old new old new h.from.tops.items h.read false kept kept (within s h.from h.from_is)
      h.is;
  some = (
    h.some.0,
    reads_on old new kept h.from.tops.items (within s h.from h.from_is) tables d h.some.0 h.some.1,
  );
  split = split_kept tables old new h.read h.to.tops.items suffix kept (leads_within h.is) h.split;
  runs = h.runs;
}

module _ (tables : code_flat.Tables) (samples : List ℕ) where
  pub cached_none : (conts : List Cont) (states : List State) (cells : List Cell) → conts ≡ [] → states ≡ []
      → cells ≡ [] → AreCached tables samples conts states cells
  cached_none conts states cells no_conts no_states no_cells = record {
    older = λ k c h. absurd (let e = subst (λ v. slice_get v k ≡ Some c) no_conts h in cc e);
    within = λ s state h. absurd (let e = subst (λ v. slice_get v s ≡ Some state) no_states h in cc e);
    start = λ state h. absurd (let e = subst (λ v. slice_get v 0 ≡ Some state) no_states h in cc e);
    filled = λ i d cell h. absurd (let e = subst (λ v. slice_get v i ≡ Some cell) no_cells h in cc e);
  }

  -- continuations were added
  pub cached_conts : (old new : List Cont) (states : List State) (cells : List Cell) → AreKept old new
      → AreCached tables samples old states cells → AreCached tables samples new states cells
  cached_conts old new states cells kept h = record {
    older = kept.older h.older;
    within = λ s state at_s id stands. kept_within old new kept id (h.within s state at_s id stands);
    start = λ state at_s. start_kept tables old new state.tops.items state.ended kept (h.start state at_s);
    filled = λ i d cell at_i sample. cell_kept tables d old new states states _ cell kept (grown_same states) h.within
        (h.filled i d cell at_i sample);
  }

  -- a state was added, with cells that are not known
  pub cached_state : (conts : List Cont) (old new : List State) (cells more : List Cell) (tops : List ℕ) (ended : Bool)
      (t : ℕ) → IsInterned old new tops ended t → AreAddedUnknown cells more
      → ((id : ℕ) → Contains tops id → id ≤ length conts) → (length old ≤ 0 → IsStart tables conts tops ended)
      → AreCached tables samples conts old cells → AreCached tables samples conts new more
  cached_state conts old new cells more tops ended t interned unknown within start h = record {
    older = h.older;
    within = λ s state at_s. by s state (interned.only s state at_s);
    start = λ state at_s. first state (interned.only 0 state at_s);
    filled = λ i d cell at_i sample. which i d cell sample (unknown i cell at_i);
  }
    where
      by : (s : ℕ) (state : State) → (slice_get old s ≡ Some state)
          ⊎ ((length old ≤ s) × (state.tops.items ≡ tops) × (state.ended ≡ ended)) → (id : ℕ)
          → Contains state.tops.items id → id ≤ length conts
      by s state (inl is) id stands = h.within s state is id stands
      by s state (inr is) id stands = within id (subst (λ v. Contains v id) is.1 stands)

      first : (state : State) → (slice_get old 0 ≡ Some state)
          ⊎ ((length old ≤ 0) × (state.tops.items ≡ tops) × (state.ended ≡ ended))
          → IsStart tables conts state.tops.items state.ended
      first state (inl is) = h.start state is
      first state (inr is) =
          subst (λ v. IsStart tables conts v state.ended) (sym is.1)
          (subst (λ v. IsStart tables conts tops v) (sym is.2) (start is.0))

      which : (i d : ℕ) (cell : Cell) → slice_get samples (i % (length samples + 1)) ≡ Some d
          → (slice_get cells i ≡ Some cell) ⊎ (cell ≡ Unknown)
          → IsCell tables d conts new (i / (length samples + 1)) cell
      which i d cell sample (inl is) =
          cell_kept tables d conts conts old new _ cell (kept_same conts) interned.grown h.within
          (h.filled i d cell is sample)
      which i d cell sample (inr is) = subst (λ v. IsCell tables d conts new (i / (length samples + 1)) v) (sym is) tt

  -- a cell was written
  pub cached_cell : (conts : List Cont) (states : List State) (cells : List Cell) (at_i : ℕ) (new : Cell)
      → at_i < length cells → ((d : ℕ) → slice_get samples (at_i % (length samples + 1)) ≡ Some d
      → IsCell tables d conts states (at_i / (length samples + 1)) new) → AreCached tables samples conts states cells
      → AreCached tables samples conts states (set cells at_i new)
  cached_cell conts states cells at_i new lt is h = record {
    older = h.older;
    within = h.within;
    start = h.start;
    filled = λ i d cell there sample. by i d cell there sample (cases_lt i at_i) (cases_lt at_i i);
  }
    where
      other : (i d : ℕ) (cell : Cell) → (i ≡ at_i → ⊥) → slice_get (set cells at_i new) i ≡ Some cell
          → slice_get samples (i % (length samples + 1)) ≡ Some d
          → IsCell tables d conts states (i / (length samples + 1)) cell
      other i d cell not there sample = h.filled i d cell (sym (set_other cells at_i i new not) ∙ there) sample

      by : (i d : ℕ) (cell : Cell) → slice_get (set cells at_i new) i ≡ Some cell
          → slice_get samples (i % (length samples + 1)) ≡ Some d → (i < at_i) ⊎ (at_i ≤ i) → (at_i < i) ⊎ (i ≤ at_i)
          → IsCell tables d conts states (i / (length samples + 1)) cell
      by i d cell there sample (inl less) _ = other i d cell (λ e. omega (arith, less, e)) there sample
      by i d cell there sample (inr le) (inl more) = other i d cell (λ e. omega (arith, more, e)) there sample
      by i d cell there sample (inr le) (inr ge) =
          let here : at_i ≡ i = omega (arith, le, ge) in
          let both : Some new ≡ Some cell = sym (set_same cells at_i new lt)
          ∙ subst (λ v. slice_get (set cells at_i new) v ≡ Some cell) (sym here) there in
          let same : new ≡ cell = cc both in
          subst (λ v. IsCell tables d conts states (v / (length samples + 1)) cell) here
          (subst (λ v. IsCell tables d conts states (at_i / (length samples + 1)) v) same
          (is d (subst (λ v. slice_get samples (v % (length samples + 1)) ≡ Some d) (sym here) sample)))

pub interned_found : (states : List State) (tops : List ℕ) (ended : Bool) (t : ℕ) → IsStateOf states tops ended t
    → IsInterned states states tops ended t
interned_found states tops ended t is = record { grown = grown_same states; only = λ s state h. inl h; is = is }

get_end : {A : Type 0} (xs : List A) (x : A) → slice_get (xs ++ x ∷ []) (length xs) ≡ Some x
get_end [] x = refl
get_end (y ∷ xs) x = get_end xs x

pub interned_pushed : (old new : List State) (state : State) (t : ℕ) → new ≡ old ++ state ∷ [] → t ≡ length old
    → IsInterned old new state.tops.items state.ended t
interned_pushed old new state t is at_t = record {
  grown = record { added = state ∷ []; grown = is };
  only = λ s other h. by s other (push_cases old state s other (subst (λ v. slice_get v s ≡ Some other) is h));
  is = record {
    state = state;
    is = ap (λ v. slice_get v t) is ∙ (ap (λ v. slice_get (old ++ state ∷ []) v) at_t ∙ get_end old state);
    tops_are = refl;
    ended_is = refl;
  };
}
  where
    by : (s : ℕ) (other : State) → (slice_get old s ≡ Some other) ⊎ ((s ≡ length old) × (state ≡ other))
        → (slice_get old s ≡ Some other)
        ⊎ ((length old ≤ s) × (other.tops.items ≡ state.tops.items) × (other.ended ≡ state.ended))
    by s other (inl h) = inl h
    by s other (inr h) = inr (
      (let e = h.0 in omega (arith, e)),
      ap (λ v. v.tops.items) (sym h.1),
      ap (λ v. v.ended) (sym h.1),
    )

-- where the cell of a state and a class stands
module _ (s k n i : ℕ) (lt : k < n) (is : i ≡ s * n + k) where
  pub row_is : i / n ≡ s
  row_is = ap (λ v. v / n) is ∙ div-mul-add s n k lt

  pub class_is : i % n ≡ k
  class_is =
      let d : (s * n + k) / n * n + (s * n + k) % n ≡ s * n + k = div-add-mod' (s * n + k) n in
      let r : (s * n + k) / n * n ≡ s * n = ap (λ v. v * n) (div-mul-add s n k lt) in
      let m : (s * n + k) % n ≡ k = omega (arith, d, r) in
      ap (λ v. v % n) is ∙ m

module _ (tables : code_flat.Tables) (samples : List ℕ) (conts : List Cont) (states : List State) (cells : List Cell)
    (cached : AreCached tables samples conts states cells) (s k i : ℕ) (cell : Cell) (lt : k < length samples + 1)
    (at_i : i ≡ s * (length samples + 1) + k) where
  pub cell_there : slice_get cells i ≡ Some cell → (d : ℕ) → slice_get samples k ≡ Some d
      → IsCell tables d conts states s cell
  cell_there there d sample =
      subst (λ v. IsCell tables d conts states v cell) (row_is s k (length samples + 1) i lt at_i)
      (cached.filled i d cell there
      (subst (λ v. slice_get samples v ≡ Some d) (sym (class_is s k (length samples + 1) i lt at_i)) sample))

  pub cell_written : i < length cells → ((d : ℕ) → slice_get samples k ≡ Some d → IsCell tables d conts states s cell)
      → AreCached tables samples conts states (set cells i cell)
  cell_written within is =
      cached_cell tables samples conts states cells i cell within (λ d sample.
      subst (λ v. IsCell tables d conts states v cell) (sym (row_is s k (length samples + 1) i lt at_i))
      (is d (subst (λ v. slice_get samples v ≡ Some d) (class_is s k (length samples + 1) i lt at_i) sample))) cached

-- a state was added after others
module _ (tables : code_flat.Tables) (samples : List ℕ) (conts mid new : List Cont) (states more : List State)
    (cells filled : List Cell) (from : State) (next : List ℕ) (ended : Bool) (s t : ℕ)
    (cached : AreCached tables samples conts states cells) (kept : AreKept conts mid) (same : new ≡ mid)
    (interned : IsInterned states more next ended t) (unknown : AreAddedUnknown cells filled)
    (at_s : slice_get states s ≡ Some from) (within : (id : ℕ) → Contains next id → id ≤ length mid) where
  pub grown_cached : AreCached tables samples new more filled
  grown_cached =
      subst (λ v. AreCached tables samples v more filled) (sym same)
      (cached_state tables samples mid states more cells filled next ended t interned unknown within
      (λ none. absurd (let w = slice_get_within states s from at_s in omega (arith, w, none)))
      (cached_conts tables samples conts mid states cells kept cached))
