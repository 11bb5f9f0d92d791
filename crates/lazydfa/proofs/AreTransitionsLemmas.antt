-- Known cells that lead to states.
-- Serves: judge, viable.
use Rattle.std.proofs.Common.{◌≡◌, ℕ, ◌+◌, ◌*◌, ◌/◌, ◌^◌, ◌<◌, ◌≤◌, Bool, true, false, List, [], length, refl, sym, ◌∙◌}
use Rattle.std.proofs.Common.{subst, arith, ◌⊎◌, inl, inr}
use Rattle.std.specs.Prelude.{slice_get, Some, Contains}
use Rattle.flatgrammar.specs.declared.tables.Tables as code_flat
use Rattle.lazydfa.specs.declared.conts.Cont.{Cont}
use Rattle.lazydfa.specs.declared.cache.State.{State}
use Rattle.lazydfa.specs.declared.cache.Cell.TheVariants.{To}
use Rattle.lazydfa.specs.Conts.{AreKept}
use Rattle.lazydfa.specs.Cached.{AreGrown, Grows, IsCache, IsCell}
use Rattle.lazydfa.specs.Transitions.{
  AreTransitions,
  AreTransitionsNoted,
  IsEndAt,
  IsEndMade,
  IsCachedTransition,
  IsTransitionMade,
  IsTransitionPut,
  IsTransitionTo,
}
use Rattle.lazydfa.specs.Transitions.{last_word}
use Rattle.lazydfa.specs.Kernels.{AreLeads}
use Rattle.lazydfa.specs.Memos.{AreResumes, IsMemo}
use Rattle.lazydfa.specs.declared.memo.Memo.{Memo}
use Rattle.lazydfa.proofs.AreCachedLemmas.{cached_none, cell_kept, grown_at, row_is, class_is}
use Rattle.lazydfa.proofs.KernelsLemmas.{leads_grown, leads_none}
use Rattle.lazydfa.proofs.IsOverLemmas.{resumes_kept, resumes_none}

-- growth keeps a word
module _ (tables : code_flat.Tables) (samples : List ℕ) (old new : List Cont) (states more : List State)
    (kept : AreKept old new) (grown : AreGrown states more) (within : (s : ℕ) (state : State)
    → slice_get states s ≡ Some state → (id : ℕ) → Contains state.tops.items id → id ≤ length old) where
  transition_to_kept : (i r : ℕ) → IsTransitionTo tables samples old states i r
      → IsTransitionTo tables samples new more i r
  transition_to_kept i r h = record {
    to = h.to;
    row = h.row;
    leads = λ d sample. cell_kept tables d old new states more (i / (length samples + 1)) (To h.to) kept grown within
        (h.leads d sample);
  }

  end_kept : (i : ℕ) (ended : Bool) → IsEndAt samples states i ended → IsEndAt samples more i ended
  end_kept i ended h = record {
    state = h.state;
    is = grown_at states more grown (i / (length samples + 1)) h.state h.is;
    ended_is = h.ended_is;
  }

  pub transitions_kept : (transitions : List ℕ) → AreTransitions tables samples old states transitions
      → AreTransitions tables samples new more transitions
  transitions_kept transitions are i word is = record {
    leads = λ lt below. transition_to_kept i word ((are i word is).leads lt below);
    runs = λ last zero. end_kept i false ((are i word is).runs last zero);
    ends = λ last one. end_kept i true ((are i word is).ends last one);
  }

pub transitions_none : (tables : code_flat.Tables) (samples : List ℕ) (conts : List Cont) (states : List State)
    (transitions : List ℕ) → transitions ≡ [] → AreTransitions tables samples conts states transitions
transitions_none tables samples conts states transitions none i word is =
    absurd (let e = subst (λ v. slice_get v i ≡ Some word) none is in cc e)

-- a word that says nothing
nothing_said : (tables : code_flat.Tables) (samples : List ℕ) (conts : List Cont) (states : List State) (i word : ℕ)
    → 2 ^ 31 ≤ word → IsCachedTransition tables samples conts states i word
nothing_said tables samples conts states i word high = record {
  leads = λ lt below. absurd (omega (arith, high, below));
  runs = λ last zero. absurd (omega (arith, high, zero));
  ends = λ last one. absurd (omega (arith, high, one));
}

-- two words were written
pub two_put : (old mid new : List ℕ) (at one last two : ℕ) → IsTransitionPut old mid at one
    → IsTransitionPut mid new last two
    → (i word : ℕ) → slice_get new i ≡ Some word → ((slice_get old i ≡ Some word) ⊎ (2 ^ 31 ≤ word))
    ⊎ (((i ≡ at) × (one ≡ word)) ⊎ ((i ≡ last) × (two ≡ word)))
two_put old mid new at one last two first second i word there = by (second i word there)
  where
    before : ((slice_get old i ≡ Some word) ⊎ (2 ^ 31 ≤ word)) ⊎ ((i ≡ at) × (one ≡ word))
        → ((slice_get old i ≡ Some word) ⊎ (2 ^ 31 ≤ word))
        ⊎ (((i ≡ at) × (one ≡ word)) ⊎ ((i ≡ last) × (two ≡ word)))
    before (inl is) = inl is
    before (inr is) = inr (inl is)

    by : ((slice_get mid i ≡ Some word) ⊎ (2 ^ 31 ≤ word)) ⊎ ((i ≡ last) × (two ≡ word))
        → ((slice_get old i ≡ Some word) ⊎ (2 ^ 31 ≤ word))
        ⊎ (((i ≡ at) × (one ≡ word)) ⊎ ((i ≡ last) × (two ≡ word)))
    by (inl (inl is)) = before (first i word is)
    by (inl (inr high)) = inl (inr high)
    by (inr is) = inr (inr is)

-- a word and the last word of the row that it leads to were written
pub transitions_put : (states : List State) (classes s k t at row last two : ℕ) (there : State) (old mid new : List ℕ)
    → slice_get states t ≡ Some there → k < classes → at ≡ s * (classes + 1) + k → row ≡ t * (classes + 1) + 0
    → last ≡ row + classes → two ≡ last_word there.ended → IsTransitionPut old mid at row
    → IsTransitionPut mid new last two → AreTransitionsNoted states classes s k t old new
transitions_put states classes s k t at row last two there old mid new there_is within at_is row_at last_is two_is first
    second i word is =
    by (two_put old mid new at row last two first second i word is)
  where
    by : ((slice_get old i ≡ Some word) ⊎ (2 ^ 31 ≤ word)) ⊎ (((i ≡ at) × (row ≡ word)) ⊎ ((i ≡ last) × (two ≡ word)))
        → ((slice_get old i ≡ Some word) ⊎ (2 ^ 31 ≤ word)) ⊎ (IsTransitionMade classes s k t i word
        ⊎ IsEndMade states classes t i word)
    by (inl before) = inl before
    by (inr (inl made)) = inr (inl (record {
      within = within;
      position = made.0 ∙ at_is;
      is = let e : row ≡ word = made.1 in omega (arith, e, row_at);
    }))
    by (inr (inr end)) = inr (inr (record {
      position = let e : i ≡ last = end.0 in omega (arith, e, last_is, row_at);
      state = there;
      there = there_is;
      is = sym end.1 ∙ two_is;
    }))

-- the words of a known cell were kept
module _ (tables : code_flat.Tables) (samples : List ℕ) (conts : List Cont) (states : List State) (s k t : ℕ)
    (leads : (d : ℕ) → slice_get samples k ≡ Some d → IsCell tables d conts states s (To t)) where
  made_is : (i word : ℕ) → IsTransitionMade (length samples) s k t i word
      → IsCachedTransition tables samples conts states i word
  made_is i word made =
      let within = made.within in
      let wide : k < length samples + 1 = omega (arith, within) in
      let class = class_is s k (length samples + 1) i wide made.position in
      record {
        leads = λ lt below. record {
          to = t;
          row = made.is;
          leads = λ d sample. subst (λ v. IsCell tables d conts states v (To t))
              (sym (row_is s k (length samples + 1) i wide made.position))
              (leads d (subst (λ v. slice_get samples v ≡ Some d) class sample));
        };
        runs = λ last zero. absurd (let e : k ≡ length samples = sym class ∙ last in omega (arith, within, e));
        ends = λ last one. absurd (let e : k ≡ length samples = sym class ∙ last in omega (arith, within, e));
      }

  end_is : (i word : ℕ) → IsEndMade states (length samples) t i word
      → IsCachedTransition tables samples conts states i word
  end_is i word made =
      let wide : length samples < length samples + 1 = omega arith in
      let class = class_is t (length samples) (length samples + 1) i wide made.position in
      let there = subst (λ v. slice_get states v ≡ Some made.state)
      (sym (row_is t (length samples) (length samples + 1) i wide made.position)) made.there in
      record {
        leads = λ lt below. absurd (nothing_below (subst (λ v. v < length samples) class lt));
        runs = λ last zero. record {
          state = made.state;
          is = there;
          ended_is = zero_runs made.state.ended (sym made.is ∙ zero);
        };
        ends = λ last one. record {
          state = made.state;
          is = there;
          ended_is = one_ends made.state.ended (sym made.is ∙ one);
        };
      }
    where
      nothing_below : length samples < length samples → ⊥
      nothing_below lt = omega (arith, lt)

      zero_runs : (ended : Bool) → last_word ended ≡ 0 → ended ≡ false
      zero_runs true is = absurd (omega (arith, is))
      zero_runs false is = refl

      one_ends : (ended : Bool) → last_word ended ≡ 1 → ended ≡ true
      one_ends true is = refl
      one_ends false is = absurd (omega (arith, is))

  pub transitions_noted : (old new : List ℕ) → AreTransitionsNoted states (length samples) s k t old new
      → AreTransitions tables samples conts states old → AreTransitions tables samples conts states new
  transitions_noted old new noted are i word there = by (noted i word there)
    where
      by : ((slice_get old i ≡ Some word) ⊎ (2 ^ 31 ≤ word)) ⊎ (IsTransitionMade (length samples) s k t i word
          ⊎ IsEndMade states (length samples) t i word) → IsCachedTransition tables samples conts states i word
      by (inl (inl is)) = are i word is
      by (inl (inr high)) = nothing_said tables samples conts states i word high
      by (inr (inl made)) = made_is i word made
      by (inr (inr made)) = end_is i word made

-- what is kept beside a cache that grew
pub memo_kept : (tables : code_flat.Tables) (samples : List ℕ) (old new : Memo) → IsMemo tables samples old
    → IsCache tables samples new.cache → Grows old.cache new.cache → new.resumes.items ≡ old.resumes.items
    → new.transitions.items ≡ old.transitions.items → new.leads.items.items ≡ old.leads.items.items
    → IsMemo tables samples new
memo_kept tables samples old new memo cached grows same same_transitions same_leads = record {
  cached = cached;
  resumes = subst (λ v. AreResumes tables new.cache.conts.items.items new.cache.states.items v) (sym same)
      (resumes_kept tables old.cache.conts.items.items new.cache.conts.items.items old.cache.states.items
      new.cache.states.items grows.conts grows.states memo.cached.within old.resumes.items memo.resumes);
  transitions = subst (λ v. AreTransitions tables samples new.cache.conts.items.items new.cache.states.items v)
      (sym same_transitions)
      (transitions_kept tables samples old.cache.conts.items.items new.cache.conts.items.items old.cache.states.items
      new.cache.states.items grows.conts grows.states memo.cached.within old.transitions.items memo.transitions);
  leads = subst (λ v. AreLeads tables new.cache.conts.items.items new.cache.states.items v) (sym same_leads)
      (leads_grown tables old.cache.conts.items.items new.cache.conts.items.items old.cache.states.items
      new.cache.states.items old.leads.items.items grows.conts grows.states memo.leads);
}

-- a memo with nothing in it
pub memo_none : (tables : code_flat.Tables) (samples : List ℕ) (memo : Memo) → memo.cache.conts.items.items ≡ []
    → memo.cache.states.items ≡ [] → memo.cache.cells.items ≡ [] → memo.transitions.items ≡ [] → memo.resumes.items ≡ []
    → memo.leads.items.items ≡ [] → IsMemo tables samples memo
memo_none tables samples memo no_conts no_states no_cells no_transitions no_resumes no_leads = record {
  cached = cached_none tables samples memo.cache.conts.items.items memo.cache.states.items memo.cache.cells.items
      no_conts no_states no_cells;
  resumes = resumes_none tables memo.cache.conts.items.items memo.cache.states.items memo.resumes.items no_resumes;
  transitions = transitions_none tables samples memo.cache.conts.items.items memo.cache.states.items
      memo.transitions.items no_transitions;
  leads = leads_none tables memo.cache.conts.items.items memo.cache.states.items memo.leads.items.items no_leads;
}
