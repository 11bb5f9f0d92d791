-- States of ids as lists of stacks.
-- Serves: start, next, cut, has_ended, is_dead.
use Rattle.std.proofs.Common.{◌≡◌, ℕ, zero, suc, ◌≤◌, Bool, List, [], ◌∷◌, ◌++◌, length, map, refl, sym, ◌∙◌}
use Rattle.std.proofs.Common.{ap, subst, arith, ◌↔◌, ◌⊎◌, inl, inr, true, eqb}
use Rattle.std.proofs.lemmas.Bool.{eqb-true}
use Rattle.std.proofs.lemmas.List.{map-append}
use Rattle.std.proofs.lemmas.Option.{slice_get-get_or}
use Rattle.std.specs.Prelude.{slice_get, Some, Contains}
use Rattle.flatgrammar.specs.Flat.{Flat, Dot}
use Rattle.flatgrammar.specs.NodeSteps.{flat_of}
use Rattle.flatgrammar.specs.TableViews.{GiveTargets}
use Rattle.flatgrammar.specs.declared.tables.Tables as code_flat
use Rattle.flatgrammar.proofs.CallOfLemmas.{get_map, get_unmap}
use Rattle.flatgrammar.specs.Stacks.{IsStackClosure, IsNext, Led, led, moves, LedToEnd, Lifted, ReadBy}
use Rattle.lazydfa.specs.declared.conts.Cont.{Cont}
use Rattle.lazydfa.specs.declared.cache.State.{State}
use Rattle.lazydfa.specs.Conts.{stack_of, last_of, Adds, AreKept, IsStackOf, IsTransition, ReadsFrom}
use Rattle.lazydfa.specs.Cached.{AreGrown, IsStartAt}
use Rattle.lazydfa.specs.Kernels.{IsWholeLeadTo}
use Rattle.lazydfa.specs.StateSets.{AreMoreStates, IsLed, IsNextState, IsStartState, state_set_of, sets_of}
use Rattle.lazydfa.specs.StateSets.{StateSet, StateSets}
use Rattle.lazydfa.proofs.AreCachedLemmas.{grown_at, transition_kept}
use Rattle.lazydfa.proofs.ContsLemmas.{kept_both, kept_same, kept_stack}
use Rattle.lazydfa.proofs.IsAtLemmas.{start_closure}
use Rattle.lazydfa.proofs.ReportLemmas.{transition_next}
use Rattle.lazydfa.proofs.TransitionLemmas.{is_transition}

-- a closure by other words
pub closure_as : (flat : Flat) (last : Dot → Bool) (x : List ℕ) (j : ℕ) (P Q : List Dot → Type 0) (ended : Bool)
    (below : List Dot) → ((s : List Dot) → P s → Q s) → ((s : List Dot) → Q s → P s)
    → IsStackClosure flat last x j P ended below → IsStackClosure flat last x j Q ended below
closure_as flat last x j P Q ended below to of f = record {
  reading = λ stack r. (λ h. there stack ((f.reading stack r).0 h), λ h. (f.reading stack r).1 (back stack h));
  all_read = λ top h. f.all_read top (of top h);
  accepts = f.accepts;
}
  where
    there : (stack : List Dot) → Lifted P below stack ⊎ ((ended ≡ true) × Led flat last (λ v. below ≡ v) stack)
        → Lifted Q below stack ⊎ ((ended ≡ true) × Led flat last (λ v. below ≡ v) stack)
    there stack (inl h) = inl (record { top = h.top; is = to h.top h.is; stack_is = h.stack_is })
    there stack (inr h) = inr h

    back : (stack : List Dot) → Lifted Q below stack ⊎ ((ended ≡ true) × Led flat last (λ v. below ≡ v) stack)
        → Lifted P below stack ⊎ ((ended ≡ true) × Led flat last (λ v. below ≡ v) stack)
    back stack (inl h) = inl (record { top = h.top; is = of h.top h.is; stack_is = h.stack_is })
    back stack (inr h) = inr h

pub contained_at : {A : Type 0} (xs : List A) (k : ℕ) (x : A) → slice_get xs k ≡ Some x → Contains xs x
contained_at [] k x is = absurd (cc is)
contained_at (y ∷ xs) zero x is = (0, omega arith, cc is)
contained_at (y ∷ xs) (suc k) x is =
    let h = contained_at xs k x is in (suc h.0, (let lt = h.1 in omega (arith, lt)), h.2)

pub got_at : {A : Type 0} (xs : List A) (x : A) (h : Contains xs x) → slice_get xs h.0 ≡ Some x
got_at xs x h = slice_get-get_or xs h.0 x h.1 ∙ ap (λ v. Some v) h.2

module _ (conts : List Cont) (ids : List ℕ) where
  pub to_list : (s : List Dot) → IsStackOf conts ids s → Contains (map (stack_of conts) ids) s
  to_list s h =
      subst (λ v. Contains (map (stack_of conts) ids) v) (sym h.is)
      (contained_at (map (stack_of conts) ids) h.stands.0 (stack_of conts h.id)
      (get_map (stack_of conts) ids h.stands.0 (got_at ids h.id h.stands)))

  pub from_list : (s : List Dot) → Contains (map (stack_of conts) ids) s → IsStackOf conts ids s
  from_list s h =
      let u = get_unmap (stack_of conts) ids h.0 s (got_at (map (stack_of conts) ids) s h) in
      record { id = u.from; stands = contained_at ids h.0 u.from u.at; is = sym u.is }

-- the stacks of states stay
map_same : (f g : ℕ → List Dot) (ids : List ℕ) → ((id : ℕ) → Contains ids id → f id ≡ g id) → map f ids ≡ map g ids
map_same f g [] same = refl
map_same f g (x ∷ ids) same =
    ap (λ v. v ∷ map f ids) (same x (0, omega arith, refl))
    ∙ ap (λ v. g x ∷ v) (map_same f g ids (λ id c. same id (suc c.0, (let lt = c.1 in omega (arith, lt)), c.2)))

module _ (old new : List Cont) (kept : AreKept old new) where
  set_kept : (state : State) → ((id : ℕ) → Contains state.tops.items id → id ≤ length old)
      → state_set_of new state ≡ state_set_of old state
  set_kept state within =
      ap (λ v. record { stacks = v; ended = state.ended }) (map_same (stack_of new) (stack_of old) state.tops.items
      (λ id h. kept_stack old new kept id (within id h)))

  sets_kept : (states : List State) → ((s : ℕ) (state : State) → slice_get states s ≡ Some state → (id : ℕ)
      → Contains state.tops.items id → id ≤ length old) → sets_of new states ≡ sets_of old states
  sets_kept [] within = refl
  sets_kept (x ∷ states) within =
      ap (λ v. v ∷ sets_of new states) (set_kept x (within 0 x refl))
      ∙ ap (λ v. state_set_of old x ∷ v) (sets_kept states (λ s state is. within (suc s) state is))

  pub more_states : (tables : code_flat.Tables) (states more : List State) → AreGrown states more
      → ((s : ℕ) (state : State) → slice_get states s ≡ Some state → (id : ℕ) → Contains state.tops.items id
      → id ≤ length old) → AreMoreStates (record { tables = tables; states = sets_of old states })
      (record { tables = tables; states = sets_of new more })
  more_states tables states more grown within = record {
    same = refl;
    added = sets_of new grown.added;
    grown = ap (λ v. sets_of new v) grown.grown ∙ (map-append (state_set_of new) states grown.added
        ∙ ap (λ v. v ++ sets_of new grown.added) (sets_kept states within));
  }

-- a transition by other words
module _ (flat : Flat) (last : Dot → Bool) where
  led_as : (P Q : List Dot → Type 0) → ((s : List Dot) → P s → Q s) → {s : List Dot} → Led flat last P s
      → Led flat last Q s
  led_as P Q to {s} (led h) = led (to s h)
  led_as P Q to (moves h m) = moves (led_as P Q to h) m

  module _ (c : ℕ) (P Q : List Dot → Type 0) where
    read_as : ((s : List Dot) → P s → Q s) → (s : List Dot) → ReadBy flat last P c s → ReadBy flat last Q c s
    read_as to s (ReadBy.reads {q = q} {below = below} h rd lies) = ReadBy.reads (to (q ∷ below) h) rd lies

    after_as : ((s : List Dot) → P s → Q s) → {s : List Dot} → Led flat last (ReadBy flat last P c) s
        → Led flat last (ReadBy flat last Q c) s
    after_as to h = led_as (ReadBy flat last P c) (ReadBy flat last Q c) (read_as to) h

    end_as : ((s : List Dot) → P s → Q s) → LedToEnd flat last (ReadBy flat last P c)
        → LedToEnd flat last (ReadBy flat last Q c)
    end_as to h = record { position = h.position; led_to = after_as to h.led_to; done = h.done }

  next_as : (c : ℕ) (P Q N M : List Dot → Type 0) (ended : Bool) → ((s : List Dot) → P s → Q s)
      → ((s : List Dot) → Q s → P s) → ((s : List Dot) → N s → M s) → ((s : List Dot) → M s → N s)
      → IsNext flat last P c N ended → IsNext flat last Q c M ended
  next_as c P Q N M ended to of on off h = record {
    tops_are = λ top. (
      λ m. let g = (h.tops_are top).0 (off top m) in (g.0, after_as c P Q to g.1),
      λ g. on top ((h.tops_are top).1 (g.0, after_as c Q P of g.1)),
    );
    ended_is = (λ e. end_as c P Q to (h.ended_is.0 e), λ e. h.ended_is.1 (end_as c Q P of e));
  }

module _ (tables : code_flat.Tables) (targets : GiveTargets (flat_of tables) tables.targets.items) (conts : List Cont)
    (states : List State) where
  abbrev Sets : StateSets
  Sets = record { tables = tables; states = sets_of conts states }

  pub led_next : (c s t : ℕ) → IsLed tables c conts states s t → IsNextState Sets c s t
  led_next c s t l = record {
    from = state_set_of conts l.from;
    to = state_set_of conts l.to;
    from_is = get_map (state_set_of conts) states s l.from_is;
    to_is = get_map (state_set_of conts) states t l.to_is;
    next = next_as (flat_of tables) (last_of tables) c (IsStackOf conts l.from.tops.items)
        (Contains (map (stack_of conts) l.from.tops.items)) (IsStackOf conts l.to.tops.items)
        (Contains (map (stack_of conts) l.to.tops.items)) l.to.ended (to_list conts l.from.tops.items)
        (from_list conts l.from.tops.items) (to_list conts l.to.tops.items) (from_list conts l.to.tops.items)
        (transition_next tables targets c conts l.from.tops.items conts l.to.tops.items l.to.ended l.is);
  }

  pub start_state : (t : ℕ) → IsStartAt tables conts states t → IsStartState Sets t
  start_state t s = record {
    state = state_set_of conts s.state;
    is = get_map (state_set_of conts) states t s.is;
    closure = λ x. closure_as (flat_of tables) (last_of tables) x 0 (IsStackOf conts s.state.tops.items)
        (Contains (map (stack_of conts) s.state.tops.items)) s.state.ended [] (to_list conts s.state.tops.items)
        (from_list conts s.state.tops.items) (start_closure tables targets x conts states t s);
  }

-- a transition to a state that the ids that were read lead to
module _ (tables : code_flat.Tables) (first mid new : List Cont) (states more : List State) (from : State)
    (tops none ids : List ℕ) (s t v : ℕ) (within : (id : ℕ) → Contains from.tops.items id → id ≤ length first)
    (kept : AreKept first mid) (later : AreKept mid new) (grown : AreGrown states more)
    (at_s : slice_get states s ≡ Some from) (tops_are : tops ≡ from.tops.items) (empty : none ≡ [])
    (adds : Adds mid (ReadsFrom tables v first tops) none ids) (is : IsWholeLeadTo tables mid ids new more t) where
  pub led_whole : IsLed tables v new more s t
  led_whole = record {
    from = from;
    to = is.to;
    from_is = grown_at states more grown s from at_s;
    to_is = is.to_is;
    is = transition_kept tables v first new new new from.tops.items is.to.tops.items is.to.ended
        (kept_both first mid new kept later) (kept_same new) within
        (subst (λ w. IsTransition tables v first w new is.to.tops.items is.to.ended) tops_are
        (is_transition tables v first mid new tops none is.to.tops.items is.to.ended empty ids adds is.is));
  }

-- a state without ids has no stack
to_empty : (f : ℕ → List Dot) (ids : List ℕ) → length ids ≡ 0 → map f ids ≡ []
to_empty f [] none = refl
to_empty f (x ∷ ids) none = absurd (omega (arith, none))

from_empty : (f : ℕ → List Dot) (ids : List ℕ) → map f ids ≡ [] → length ids ≡ 0
from_empty f [] none = refl
from_empty f (x ∷ ids) none = absurd (cc none)

pub dead_is : (conts : List Cont) (state : State) (sets : StateSet) → state_set_of conts state ≡ sets → (dead : Bool)
    → dead ≡ eqb (length state.tops.items) 0 → (dead ≡ true) ↔ (sets.stacks ≡ [])
dead_is conts state sets same dead is = (
  λ yes. subst (λ v. v.stacks ≡ []) same (to_empty (stack_of conts) state.tops.items
      (eqb-true (length state.tops.items) 0 (sym is ∙ yes))),
  λ none. let e = from_empty (stack_of conts) state.tops.items (ap (λ v. v.stacks) same ∙ none) in
      grind (arith, is, e),
)
