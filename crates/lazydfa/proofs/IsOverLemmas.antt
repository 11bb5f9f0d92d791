-- States over suffixes.
-- Serves: judge, viable.
use Rattle.std.proofs.Common.{◌≡◌, ℕ, suc, ◌≤◌, ◌<◌, Bool, true, false, List, [], ◌∷◌, ◌++◌, length, refl}
use Rattle.std.proofs.Common.{sym, ◌∙◌, ap, subst, arith, ◌⊎◌, inl, inr}
use Rattle.std.proofs.lemmas.List.Elements.{Contains-append_left, Contains-push, Contains-push_cases}
use Rattle.std.specs.Prelude.{slice_get, Some, Contains}
use Rattle.flatgrammar.specs.Flat.{Dot}
use Rattle.flatgrammar.specs.NodeSteps.{flat_of}
use Rattle.flatgrammar.specs.TableViews.{GiveTargets}
use Rattle.flatgrammar.specs.declared.tables.Tables as code_flat
use Rattle.lazydfa.specs.Domination.{IsCover}
use Rattle.lazydfa.proofs.IsCoverLemmas.{resumed_cover}
use Rattle.lazydfa.specs.declared.conts.Cont.{Cont}
use Rattle.lazydfa.specs.declared.cache.State.{State}
use Rattle.lazydfa.specs.declared.memo.ResumedState.{ResumedState}
use Rattle.lazydfa.specs.Conts.{last_of, stack_of, AreKept, IsStackOf, TopReads}
use Rattle.lazydfa.specs.Cached.{AreGrown, IsStartAt, IsAt, IsInterned}
use Rattle.lazydfa.specs.StackSuffixes.{IsSplitOff, PutsBack, AreSuffixes, below_onto, below_of}
use Rattle.lazydfa.specs.Memos.{AreResumedStacks, IsResumedBy, IsResumedState, IsKnown, AreResumes, IsOver, IsSettled}
use Rattle.lazydfa.proofs.ContsLemmas.{kept_both, kept_stack, kept_within, stack_none}
use Rattle.lazydfa.proofs.AreCachedLemmas.{stack_on, stack_off, grown_at, split_kept}
use Rattle.lazydfa.proofs.IsAtLemmas.{cover_as, cover_split, at_start}
use Rattle.lazydfa.proofs.PutsBackLemmas.{put_back_kept, put_back_resumes}
use Rattle.lazydfa.proofs.ReportLemmas.{reported_top}
use Rattle.flatgrammar.proofs.SliceGetLemmas.{push_cases}

pub below_end : (conts : List Cont) (suffixes : List ℕ) (suffix : ℕ) (under : List Dot)
    → below_onto conts (suffixes ++ suffix ∷ []) under ≡ stack_of conts suffix ++ below_onto conts suffixes under
below_end conts [] suffix under = refl
below_end conts (p ∷ suffixes) suffix under = below_end conts suffixes suffix (stack_of conts p ++ under)

in_tail : (p : ℕ) (suffixes : List ℕ) (suffix : ℕ) → Contains suffixes suffix → Contains (p ∷ suffixes) suffix
in_tail p suffixes suffix h = (suc h.0, (let lt = h.1 in omega (arith, lt)), h.2)

-- growth keeps suffixes
module _ (old new : List Cont) (kept : AreKept old new) where
  below_onto_kept : (suffixes : List ℕ) → ((suffix : ℕ) → Contains suffixes suffix → suffix ≤ length old)
      → (under : List Dot)
      → below_onto new suffixes under ≡ below_onto old suffixes under
  below_onto_kept [] within under = refl
  below_onto_kept (p ∷ suffixes) within under =
      ap (λ v. below_onto new suffixes (v ++ under)) (kept_stack old new kept p (within p (0, omega arith, refl)))
      ∙ below_onto_kept suffixes (λ suffix h. within suffix (in_tail p suffixes suffix h)) (stack_of old p ++ under)

  pub below_kept : (suffixes : List ℕ) → AreSuffixes old suffixes → below_of new suffixes ≡ below_of old suffixes
  below_kept suffixes are = below_onto_kept suffixes (λ suffix h. (are suffix h).0) []

  pub suffixes_kept : (suffixes : List ℕ) → AreSuffixes old suffixes → AreSuffixes new suffixes
  suffixes_kept suffixes are suffix h =
      let a = are suffix h in (
        kept_within old new kept suffix a.0,
        λ empty. a.1 (sym (kept_stack old new kept suffix a.0) ∙ empty),
      )

pub suffixes_pushed : (conts : List Cont) (suffixes new : List ℕ) (suffix : ℕ) → new ≡ suffixes ++ suffix ∷ []
    → suffix ≤ length conts → (stack_of conts suffix ≡ [] → ⊥) → AreSuffixes conts suffixes → AreSuffixes conts new
suffixes_pushed conts suffixes new suffix is within full are other h =
    by (Contains-push_cases suffixes suffix other (subst (λ v. Contains v other) is h))
  where
    by : Contains suffixes other ⊎ (suffix ≡ other) → (other ≤ length conts) × (stack_of conts other ≡ [] → ⊥)
    by (inl old) = are other old
    by (inr same) = subst (λ v. (v ≤ length conts) × (stack_of conts v ≡ [] → ⊥)) same (within, full)

left_kept : (tables : code_flat.Tables) (old new : List Cont) → AreKept old new → (whole : List ℕ) (ended : Bool)
    (to : State) (below : ℕ) → ((id : ℕ) → Contains whole id → id ≤ length old)
    → AreResumedStacks tables old whole ended to below → AreResumedStacks tables new whole ended to below
left_kept tables old new kept whole ended to below within (inl same) = inl same
left_kept tables old new kept whole ended to below within (inr split) =
    inr (split.0, split.1, split_kept tables old new whole to.tops.items below kept within split.2)

module _ (tables : code_flat.Tables) (old new : List Cont) (states more : List State) (kept : AreKept old new)
    (grown : AreGrown states more) (within : (s : ℕ) (state : State) → slice_get states s ≡ Some state → (id : ℕ)
    → Contains state.tops.items id → id ≤ length old) where
  pub at_kept : (s : ℕ) (x : List ℕ) (j : ℕ) (below : List Dot) → IsAt tables old states s x j below
      → IsAt tables new more s x j below
  at_kept s x j below a = record {
    state = a.state;
    is = grown_at states more grown s a.state a.is;
    cover = cover_as (flat_of tables) (last_of tables) x j (IsStackOf old a.state.tops.items)
        (IsStackOf new a.state.tops.items) a.state.ended below
        (stack_on old new kept a.state.tops.items (within s a.state a.is))
        (stack_off old new kept a.state.tops.items (within s a.state a.is)) a.cover;
  }

  pub resume_kept : (s suffix t below : ℕ) → IsResumedState tables old states s suffix t below
      → IsResumedState tables new more s suffix t below
  resume_kept s suffix t below u = record {
    from = u.from;
    to = u.to;
    whole = u.whole;
    ended = u.ended;
    from_is = grown_at states more grown s u.from u.from_is;
    to_is = grown_at states more grown t u.to u.to_is;
    suffix_within = kept_within old new kept suffix u.suffix_within;
    is = put_back_kept tables old new old new u.from.tops.items suffix u.whole u.ended kept kept
        (within s u.from u.from_is) u.suffix_within u.is;
    left = left_kept tables old new kept u.whole u.ended u.to below u.is.within u.left;
  }

  pub resumes_kept : (resumes : List ResumedState) → AreResumes tables old states resumes
      → AreResumes tables new more resumes
  resumes_kept resumes are k u is = resume_kept u.state u.suffix u.to u.below (are k u is)

  -- the last suffix is put back
  module _ (targets : GiveTargets (flat_of tables) tables.targets.items) (x : List ℕ) (j s suffix t below : ℕ)
      (suffixes older : List ℕ) (split : suffixes ≡ older ++ suffix ∷ [])
      (over : IsOver tables old states suffixes s x j)
      (ended : over.at.state.ended ≡ true) (resumes : IsResumedState tables new more s suffix t below) where
    suffix_in : (suffix ≤ length old) × (stack_of old suffix ≡ [] → ⊥)
    suffix_in = over.suffixes_are suffix (subst (λ v. Contains v suffix) (sym split) (Contains-push older suffix))

    older_are : AreSuffixes old older
    older_are p h =
        over.suffixes_are p (subst (λ v. Contains v p) (sym split) (Contains-append_left older (suffix ∷ []) p h))

    same_suffix : stack_of new suffix ≡ stack_of old suffix
    same_suffix = kept_stack old new kept suffix suffix_in.0

    below_is : below_of old suffixes ≡ stack_of new suffix ++ below_of new older
    below_is =
        ap (λ v. below_of old v) split ∙ (below_end old older suffix []
        ∙ (ap (λ v. v ++ below_of old older) (sym same_suffix)
        ∙ ap (λ v. stack_of new suffix ++ v) (sym (below_kept old new kept older older_are))))

    same_state : over.at.state ≡ resumes.from
    same_state =
        let both : Some over.at.state ≡ Some resumes.from =
        sym (grown_at states more grown s over.at.state over.at.is) ∙ resumes.from_is in
        cc both

    cover_now : IsCover (flat_of tables) (last_of tables) x j (IsStackOf new over.at.state.tops.items)
        over.at.state.ended (below_of old suffixes)
    cover_now =
        cover_as (flat_of tables) (last_of tables) x j (IsStackOf old over.at.state.tops.items)
        (IsStackOf new over.at.state.tops.items) over.at.state.ended (below_of old suffixes)
        (stack_on old new kept over.at.state.tops.items (within s over.at.state over.at.is))
        (stack_off old new kept over.at.state.tops.items (within s over.at.state over.at.is)) over.at.cover

    cover_before : IsCover (flat_of tables) (last_of tables) x j (IsStackOf new resumes.from.tops.items) true
        (stack_of new suffix ++ below_of new older)
    cover_before =
        subst (λ v. IsCover (flat_of tables) (last_of tables) x j (IsStackOf new resumes.from.tops.items) true v)
        below_is
        (subst (λ v. IsCover (flat_of tables) (last_of tables) x j (IsStackOf new resumes.from.tops.items) v
        (below_of old suffixes)) (ap (λ v. v.ended) (sym same_state) ∙ ended)
        (subst (λ v. IsCover (flat_of tables) (last_of tables) x j (IsStackOf new v.tops.items) v.ended
        (below_of old suffixes)) same_state cover_now))

    cover_whole : IsCover (flat_of tables) (last_of tables) x j (IsStackOf new resumes.whole) resumes.ended
        (below_of new older)
    cover_whole =
        resumed_cover (flat_of tables) (last_of tables) x j (IsStackOf new resumes.from.tops.items)
        (stack_of new suffix) (below_of new older) (λ empty. suffix_in.1 (sym same_suffix ∙ empty)) cover_before
        (IsStackOf new resumes.whole) resumes.ended
        (put_back_resumes tables targets new resumes.from.tops.items suffix new resumes.whole resumes.ended
        cover_before.all_read resumes.is)

    -- nothing is split off
    pub over_resumed : below ≡ 0 → IsOver tables new more older t x j
    over_resumed none = by resumes.left
      where
        by : AreResumedStacks tables new resumes.whole resumes.ended resumes.to below
            → IsOver tables new more older t x j
        by (inl same) = record {
          suffixes_are = suffixes_kept old new kept older older_are;
          at = record {
            state = resumes.to;
            is = resumes.to_is;
            cover = subst (λ v. IsCover (flat_of tables) (last_of tables) x j (IsStackOf new v) resumes.to.ended
                (below_of new older)) (sym same.1)
                (subst (λ v. IsCover (flat_of tables) (last_of tables) x j (IsStackOf new resumes.whole) v
                (below_of new older)) (sym same.2) cover_whole);
          };
        }
        by (inr split_again) = absurd (split_again.2.full (stack_none new below none))

    -- .. or something is, and pushed
    pub over_split : (pushed : List ℕ) → pushed ≡ older ++ below ∷ [] → 0 < below
        → IsSettled tables new more pushed t x j
    over_split pushed is some = by resumes.left
      where
        by : AreResumedStacks tables new resumes.whole resumes.ended resumes.to below
            → IsSettled tables new more pushed t x j
        by (inl same) = absurd (let none = same.0 in omega (arith, none, some))
        by (inr split_again) = record {
          over = record {
            suffixes_are = suffixes_pushed new older pushed below is split_again.2.within split_again.2.full
                (suffixes_kept old new kept older older_are);
            at = record {
              state = resumes.to;
              is = resumes.to_is;
              cover = subst (λ v. IsCover (flat_of tables) (last_of tables) x j (IsStackOf new resumes.to.tops.items)
                  resumes.to.ended (below_of new v)) (sym is)
                  (subst (λ v. IsCover (flat_of tables) (last_of tables) x j (IsStackOf new resumes.to.tops.items)
                  resumes.to.ended v) (sym (below_end new older below []))
                  (subst (λ v. IsCover (flat_of tables) (last_of tables) x j (IsStackOf new resumes.to.tops.items)
                  v (stack_of new below ++ below_of new older)) (sym split_again.1)
                  (cover_split (flat_of tables) (last_of tables) x j (IsStackOf new resumes.whole)
                  (IsStackOf new resumes.to.tops.items) (stack_of new below) (below_of new older)
                  (subst (λ v. IsCover (flat_of tables) (last_of tables) x j (IsStackOf new resumes.whole) v
                  (below_of new older)) split_again.0 cover_whole) split_again.2.tops_are
                  (λ top h. reported_top tables top (subst (λ v. TopReads tables v) (sym h.is)
                  (split_again.2.all_read h.id h.stands))))));
            };
          };
          plain = λ ended_is. absurd (let runs = split_again.1 in cc (runs, ended_is));
        }

pub resumes_none : (tables : code_flat.Tables) (conts : List Cont) (states : List State) (resumes : List ResumedState)
    → resumes ≡ [] → AreResumes tables conts states resumes
resumes_none tables conts states resumes none k u is =
    absurd (let e = subst (λ v. slice_get v k ≡ Some u) none is in cc e)

pub resumes_pushed : (tables : code_flat.Tables) (conts : List Cont) (states : List State) (old new : List ResumedState)
    (u : ResumedState) → new ≡ old ++ u ∷ [] → IsResumedState tables conts states u.state u.suffix u.to u.below
    → AreResumes tables conts states old → AreResumes tables conts states new
resumes_pushed tables conts states old new u is one are k v at_k =
    by (push_cases old u k v (subst (λ w. slice_get w k ≡ Some v) is at_k))
  where
    by : (slice_get old k ≡ Some v) ⊎ ((k ≡ length old) × (u ≡ v))
        → IsResumedState tables conts states v.state v.suffix v.to v.below
    by (inl h) = are k v h
    by (inr h) = subst (λ w. IsResumedState tables conts states w.state w.suffix w.to w.below) h.1 one

pub resumed_self : (tables : code_flat.Tables) (conts : List Cont) (states : List State) (s suffix : ℕ)
    (u : ResumedState) → IsResumedBy tables conts states s suffix u
    → IsResumedState tables conts states u.state u.suffix u.to u.below
resumed_self tables conts states s suffix u by =
    subst (λ v. IsResumedState tables conts states v u.suffix u.to u.below) (sym by.0)
    (subst (λ v. IsResumedState tables conts states s v u.to u.below) (sym by.1) by.2)

pub resume_known : (tables : code_flat.Tables) (conts : List Cont) (states : List State) (resumes : List ResumedState)
    (s suffix : ℕ) (listed : ResumedState) → AreResumes tables conts states resumes → IsKnown resumes s suffix listed
    → IsResumedBy tables conts states s suffix listed
resume_known tables conts states resumes s suffix listed are k = (
  k.state_is,
  k.suffix_is,
  subst (λ v. IsResumedState tables conts states v suffix listed.to listed.below) k.state_is
      (subst (λ v. IsResumedState tables conts states listed.state v listed.to listed.below) k.suffix_is
      (are k.position listed k.is)),
)

-- the start
pub settled_start : (tables : code_flat.Tables) → GiveTargets (flat_of tables) tables.targets.items → (x : List ℕ)
    (conts : List Cont) (states : List State) (suffixes : List ℕ) (t : ℕ) → suffixes ≡ []
    → IsStartAt tables conts states t
    → IsSettled tables conts states suffixes t x 0
settled_start tables targets x conts states suffixes t none start = record {
  over = record {
    suffixes_are = λ suffix h. absurd
        (let e = subst (λ v. Contains v suffix) none h in let lt = e.1 in omega (arith, lt));
    at = subst (λ v. IsAt tables conts states t x 0 (below_of conts v)) (sym none)
        (at_start tables targets x conts states t start);
  };
  plain = λ ended. none;
}

-- it has not ended, or there is no suffix
pub settled_running : (tables : code_flat.Tables) (conts : List Cont) (states : List State) (suffixes : List ℕ) (s : ℕ)
    (x : List ℕ) (j : ℕ) (ended : Bool) → ((got : State) → slice_get states s ≡ Some got → ended ≡ got.ended)
    → ended ≡ false → IsOver tables conts states suffixes s x j → IsSettled tables conts states suffixes s x j
settled_running tables conts states suffixes s x j ended reports runs over = record {
  over = over;
  plain = λ ended_is. absurd (let e = reports over.at.state over.at.is in cc (e, runs, ended_is));
}

pub settled_empty : (tables : code_flat.Tables) (conts : List Cont) (states : List State) (suffixes left : List ℕ)
    (s : ℕ)
    (x : List ℕ) (j : ℕ) → suffixes ≡ [] → left ≡ [] → IsOver tables conts states suffixes s x j
    → IsSettled tables conts states left s x j
settled_empty tables conts states suffixes left s x j none none_left over =
    let same : suffixes ≡ left = none ∙ sym none_left in
    subst (λ v. IsSettled tables conts states v s x j) same (record { over = over; plain = λ ended. none })

-- a state and a suffix lead to a state that was added, over what was split off
module _ (tables : code_flat.Tables) (conts mid apart new : List Cont) (states more : List State) (from : State)
    (tops whole : List ℕ) (ended : Bool) (s suffix t below : ℕ)
    (within : (id : ℕ) → Contains from.tops.items id → id ≤ length conts) (suffix_in : suffix ≤ length conts)
    (kept : AreKept conts mid) (moved : AreKept mid apart) (same : new ≡ apart)
    (at_s : slice_get states s ≡ Some from) (tops_are : tops ≡ from.tops.items)
    (is : PutsBack tables conts tops suffix mid whole ended) where
  resume_left : (next : List ℕ) (last : Bool) (interned : IsInterned states more next last t)
      → AreResumedStacks tables apart whole ended interned.is.state below
      → IsResumedState tables new more s suffix t below
  resume_left next last interned left =
      subst (λ c. IsResumedState tables c more s suffix t below) (sym same) (record {
        from = from;
        to = interned.is.state;
        whole = whole;
        ended = ended;
        from_is = grown_at states more interned.grown s from at_s;
        to_is = interned.is.is;
        suffix_within = kept_within conts apart (kept_both conts mid apart kept moved) suffix suffix_in;
        is = put_back_kept tables conts apart mid apart from.tops.items suffix whole ended
            (kept_both conts mid apart kept moved) moved within suffix_in
            (subst (λ w. PutsBack tables conts w suffix mid whole ended) tops_are is);
        left = left;
      })

  pub resume_made : below ≡ 0 → IsInterned states more whole ended t → IsResumedState tables new more s suffix t below
  resume_made none interned =
      resume_left whole ended interned (inl (none, interned.is.tops_are, interned.is.ended_is))

  pub resume_split : (base : List ℕ) → ended ≡ false → IsSplitOff tables apart whole base below
      → IsInterned states more base false t → IsResumedState tables new more s suffix t below
  resume_split base runs split interned =
      resume_left base false interned (inr (
        runs,
        interned.is.ended_is,
        subst (λ w. IsSplitOff tables apart whole w below) (sym interned.is.tops_are) split,
      ))

-- growth keeps where a run stands
pub over_kept : (tables : code_flat.Tables) (old new : List Cont) (states more : List State) → AreKept old new
    → AreGrown states more → ((s : ℕ) (state : State) → slice_get states s ≡ Some state → (id : ℕ)
    → Contains state.tops.items id → id ≤ length old) → (suffixes : List ℕ) (s : ℕ) (x : List ℕ) (j : ℕ)
    → IsAt tables new more s x j (below_of old suffixes) → AreSuffixes old suffixes
    → IsOver tables new more suffixes s x j
over_kept tables old new states more kept grown within suffixes s x j at are = record {
  suffixes_are = suffixes_kept old new kept suffixes are;
  at = subst (λ v. IsAt tables new more s x j v) (sym (below_kept old new kept suffixes are)) at;
}

pub settled_kept : (tables : code_flat.Tables) (old new : List Cont) (states more : List State) → AreKept old new
    → AreGrown states more → ((s : ℕ) (state : State) → slice_get states s ≡ Some state → (id : ℕ)
    → Contains state.tops.items id → id ≤ length old) → (suffixes : List ℕ) (s : ℕ) (x : List ℕ) (j : ℕ)
    → IsSettled tables old states suffixes s x j → IsSettled tables new more suffixes s x j
unfolding over_kept at_kept
settled_kept tables old new states more kept grown within suffixes s x j is = record {
  over = over_kept tables old new states more kept grown within suffixes s x j
      (at_kept tables old new states more kept grown within s x j (below_of old suffixes) is.over.at)
      is.over.suffixes_are;
  plain = is.plain;
}

-- a suffix is pushed
pub over_pushed : (tables : code_flat.Tables) (old new : List Cont) (states : List State) → AreKept old new
    → (suffixes pushed : List ℕ) (suffix s : ℕ) (x : List ℕ) (j : ℕ) → pushed ≡ suffixes ++ suffix ∷ []
    → AreSuffixes old suffixes
    → (suffix ≤ length new) × (stack_of new suffix ≡ [] → ⊥)
    → IsAt tables new states s x j (stack_of new suffix ++ below_of old suffixes)
    → IsOver tables new states pushed s x j
over_pushed tables old new states kept suffixes pushed suffix s x j is are suffix_in at = record {
  suffixes_are = suffixes_pushed new suffixes pushed suffix is suffix_in.0 suffix_in.1
      (suffixes_kept old new kept suffixes are);
  at = subst (λ v. IsAt tables new states s x j (below_of new v)) (sym is)
      (subst (λ v. IsAt tables new states s x j v) (sym (below_end new suffixes suffix []))
      (subst (λ v. IsAt tables new states s x j (stack_of new suffix ++ v)) (sym (below_kept old new kept suffixes are))
      at));
}

-- below a state that has ended nothing is left
pub plain_below : (conts : List Cont) (suffixes : List ℕ) (ended : Bool) → (ended ≡ true → suffixes ≡ []) → ended ≡ true
    → below_of conts suffixes ≡ []
plain_below conts suffixes ended plain is = ap (λ v. below_of conts v) (plain is)
