-- States along a line.
-- Serves: judge, viable.
use Rattle.std.proofs.Common.{◌≡◌, ℕ, zero, suc, ◌+◌, ◌<◌, ◌≤◌, Bool}
use Rattle.std.proofs.Common.{true, false, List, [], ◌∷◌, ◌++◌, length, refl, sym}
use Rattle.std.proofs.Common.{◌∙◌, ap}
use Rattle.std.proofs.Common.{subst, arith, ◌⊎◌, inl, inr, ◌↔◌, append-nil}
use Rattle.std.proofs.lemmas.Bool.{cases_lt}
use Rattle.std.specs.Prelude.{slice_get, Option, Some, None, Contains}
use Rattle.flatgrammar.specs.Flat.{Flat, Dot, at}
use Rattle.flatgrammar.specs.ItemClosures.{begin_count}
use Rattle.flatgrammar.specs.NodeSteps.{flat_of}
use Rattle.flatgrammar.specs.TableViews.{GiveTargets, start_target}
use Rattle.flatgrammar.specs.declared.tables.Tables as code_flat
use Rattle.flatgrammar.proofs.CallOfLemmas.{begun_starts}
use Rattle.lazydfa.specs.declared.conts.Cont.{Cont}
use Rattle.lazydfa.specs.declared.cache.State.{State}
use Rattle.flatgrammar.specs.Stacks as st
use Rattle.flatgrammar.specs.Stacks.{IsDoneAt, Moves, Led, led, moves, Reach, Accepts, ReadBy, IsReading, reading}
use Rattle.flatgrammar.specs.Stacks.{Lifted}
use Rattle.flatgrammar.specs.Stacks.{AreAlike, Empties, IsStackClosure}
use Rattle.lazydfa.specs.Domination.{Dominates, IsCover, IsPlainCover, LeadsTo}
use Rattle.lazydfa.specs.Conts.{stack_of, last_of, AreKept, Adds, Begun}
use Rattle.lazydfa.specs.Conts.{IsStackOf, TopReads, GoesOn, here, on, EndsAlone}
use Rattle.lazydfa.specs.Conts.{IsClosure, AreReaders, ReadsFrom, IsTransition}
use Rattle.lazydfa.specs.declared.cache.Cell.{Cell}
use Rattle.lazydfa.specs.declared.cache.Cell.TheVariants.{Dead, To, Push}
use Rattle.lazydfa.specs.Cached.{IsBegun, IsStart, IsStartAt, IsAt, AreGrown, IsStep, IsPush, IsDead, IsCell}
use Rattle.lazydfa.specs.Cached.{AreCached}
use Rattle.lazydfa.specs.Cached.{IsInterned, AreAddedUnknown}
use Rattle.flatgrammar.specs.ClassBounds.{IsClassOf}
use Rattle.lazydfa.specs.RunVerdicts.{IsReached}
use Rattle.std.specs.Option.{option_flatten}
use Rattle.lazydfa.proofs.AreCachedLemmas.{cached_state, cached_conts}
use Rattle.lazydfa.proofs.MoveLemmas.{whole_begun, from_goes, to_goes, done_reported, reported_done, marks_last}
use Rattle.flatgrammar.proofs.LiftLemmas.{rests_empty}
use Rattle.lazydfa.proofs.ReportLemmas.{transition_next, reported_top, top_reported, to_read, from_read}
use Rattle.lazydfa.proofs.IsCoverLemmas.{covered_as, exact_cover, taken_by_cover, next_cover, pruned_cover}
use Rattle.lazydfa.proofs.IsCoverLemmas.{cover_alone, cover_running, split_cover}
use Rattle.lazydfa.proofs.AreCachedLemmas.{stack_on, stack_off, goes_as, grown_at}

pub begun_within : (tables : code_flat.Tables) (target : ℕ) (mid : List Cont) (ids read : List ℕ) (under : List Dot)
    → ids ≡ [] → Adds mid (Begun target (begin_count tables target) under) ids read → (id : ℕ) → Contains read id
    → id ≤ length mid
begun_within tables target mid ids read under none adds id h =
    (adds.sound id (subst (λ v. Contains v id) (adds.grown ∙ ap (λ v. v ++ adds.added) none) h)).0

-- what began, closed, and of that what reads
module _ (tables : code_flat.Tables) (target : ℕ) (mid conts : List Cont) (ids read all next : List ℕ) (ended : Bool)
    (is_target : start_target tables ≡ Some target) (under : List Dot) (none_under : under ≡ []) (none : ids ≡ [])
    (adds : Adds mid (Begun target (begin_count tables target) under) ids read)
    (closure : IsClosure tables mid read conts all ended) (readers : AreReaders tables conts all next) where
  reads_added : (id : ℕ) → Contains read id → Contains adds.added id
  reads_added id h = subst (λ v. Contains v id) (adds.grown ∙ ap (λ v. v ++ adds.added) none) h

  to_begun : (s : List Dot) → IsStackOf mid read s → IsBegun tables s
  to_begun s h = record {
    target = target;
    is = is_target;
    begun = subst (λ v. Begun target (begin_count tables target) v s) none_under
        (subst (λ v. Begun target (begin_count tables target) under v) (sym h.is) (adds.sound h.id
        (reads_added h.id h.stands)).1);
  }

  of_begun : (s : List Dot) → IsBegun tables s → IsStackOf mid read s
  of_begun s b =
      let both : Some b.target ≡ Some target = sym b.is ∙ is_target in
      let same : b.target ≡ target = cc both in
      let w = adds.whole s (subst (λ v. Begun target (begin_count tables target) v s) (sym none_under)
      (subst (λ v. Begun v (begin_count tables v) [] s) same b.begun)) in
      record { id = w.0; stands = w.1; is = sym w.2.is }

  pub is_start : IsStart tables conts next ended
  is_start = record {
    within = λ id h. closure.within id (readers.only id h).0;
    tops_are = λ stack. (λ s. there stack s, λ h. back stack h.0 h.1);
    ended_is = (
      λ h. let e = closure.ended_is.0 h in (e.0, goes_as tables _ _ to_begun e.0 ((closure.stacks e.0).0 e.1), e.2),
      λ h. closure.ended_is.1 (h.0, (closure.stacks h.0).1 (goes_as tables _ _ of_begun h.0 h.1), h.2),
    );
  }
    where
      there : (stack : List Dot) → IsStackOf conts next stack → TopReads tables stack
          × GoesOn tables (IsBegun tables) stack
      there stack s =
          let o = readers.only s.id s.stands in (
            subst (λ v. TopReads tables v) (sym s.is) o.1,
            goes_as tables _ _ to_begun stack ((closure.stacks stack).0
                (record { id = s.id; stands = o.0; is = s.is })),
          )

      back : (stack : List Dot) → TopReads tables stack → GoesOn tables (IsBegun tables) stack
          → IsStackOf conts next stack
      back stack reads h =
          let s = (closure.stacks stack).1 (goes_as tables _ _ of_begun stack h) in
          record {
            id = s.id;
            stands = readers.all s.id s.stands (subst (λ v. TopReads tables v) s.is reads);
            is = s.is;
          }

-- a cover by other words
pub cover_as : (flat : Flat) (last : Dot → Bool) (x : List ℕ) (j : ℕ) (P Q : List Dot → Type 0) (ended : Bool)
    (below : List Dot) → ((s : List Dot) → P s → Q s) → ((s : List Dot) → Q s → P s)
    → IsCover flat last x j P ended below → IsCover flat last x j Q ended below
cover_as flat last x j P Q ended below to of f = record {
  reading = λ stack r. (
    λ h. covered_as flat last (λ s reads_it among. there s among) ((f.reading stack r).0 h),
    λ h. (f.reading stack r).1 (back stack h),
  );
  all_read = λ top h. f.all_read top (of top h);
  accepts = f.accepts;
}
  where
    there : (stack : List Dot) → Lifted P below stack ⊎ ((ended ≡ true) × Led flat last (λ v. below ≡ v) stack)
        → Lifted Q below stack ⊎ ((ended ≡ true) × Led flat last (λ v. below ≡ v) stack)
    there stack (inl h) = inl (record { top = h.top; is = to h.top h.is; stack_is = h.stack_is })
    there stack (inr h) = inr h

    back : (stack : List Dot) → Lifted Q below stack ⊎ ((ended ≡ true) × Led flat last (λ v. below ≡ v) stack)
        → Lifted P below stack ⊎ ((ended ≡ true) × Led flat last (λ v. below ≡ v) stack)
    back stack (inl h) = inl (record { top = h.top; is = of h.top h.is; stack_is = h.stack_is })
    back stack (inr h) = inr h

-- what reads is on the tops alone
pub plain_cover : (flat : Flat) (last : Dot → Bool) (x : List ℕ) (j : ℕ) (P : List Dot → Type 0) (ended : Bool)
    (below : List Dot) → (ended ≡ true → below ≡ []) → IsCover flat last x j P ended below
    → IsPlainCover flat last x j P below
plain_cover flat last x j P true below none f =
    subst (λ v. IsPlainCover flat last x j P v) (sym (none refl))
    (cover_alone flat last x j P true (subst (λ v. IsCover flat last x j P true v) (none refl) f))
plain_cover flat last x j P false below none f = cover_running flat last x j P below f

-- what all tops stand on is below them
pub cover_split : (flat : Flat) (last : Dot → Bool) (x : List ℕ) (j : ℕ) (P Q : List Dot → Type 0)
    (suffix below : List Dot) → IsCover flat last x j P false below
    → ((top : List Dot) → P top ↔ Lifted Q suffix top) → ((top : List Dot) → Q top → IsReading flat top)
    → IsCover flat last x j Q false (suffix ++ below)
cover_split flat last x j P Q suffix below f is reads =
    let plain = split_cover flat last x j P Q suffix below (cover_running flat last x j P below f) is reads in
    record {
      reading = λ stack r. (
        λ h. covered_as flat last (λ s reads_it lifted. inl lifted) ((plain.reading stack r).0 h),
        λ h. back stack r plain h,
      );
      all_read = reads;
      accepts = (λ a. absurd (let e = (f.accepts.0 a).0 in cc e), λ h. absurd (let e = h.0 in cc e));
    }
  where
    back : (stack : List Dot) → IsReading flat stack → IsPlainCover flat last x j Q (suffix ++ below)
        → Lifted Q (suffix ++ below) stack
        ⊎ ((false ≡ true) × Led flat last (λ v. suffix ++ below ≡ v) stack) → Reach flat last x j stack
    back stack r plain (inl l) = (plain.reading stack r).1 l
    back stack r plain (inr h) = absurd (let e = h.0 in cc e)

-- after a set that nothing reaches nothing is reached
reach_past : (flat : Flat) (last : Dot → Bool) (x : List ℕ) (j : ℕ) {k : ℕ} {a : List Dot}
    → Reach flat last x k a → j < k → (b : List Dot) × Reach flat last x (j + 1) b
reach_past flat last x j (st.begins h) lt = absurd (omega (arith, lt))
reach_past flat last x j (st.moved h m) lt = reach_past flat last x j h lt
reach_past flat last x j (st.has_read {j = i} {r = r} {below = below} h rd is lies) lt =
    by (λ less. reach_past flat last x j h less) (cases_lt j i)
  where
    by : (j < i → (b : List Dot) × Reach flat last x (j + 1) b) → (j < i) ⊎ (i ≤ j)
        → (b : List Dot) × Reach flat last x (j + 1) b
    by ih (inl less) = ih less
    by ih (inr le) =
        let same : i ≡ j = omega (arith, le, lt) in
        (r ∷ below, subst (λ v. Reach flat last x (v + 1) (r ∷ below)) same (st.has_read h rd is lies))

module _ (tables : code_flat.Tables) (targets : GiveTargets (flat_of tables) tables.targets.items) where
  module _ (x : List ℕ) (old new : List Cont) (states more : List State) (kept : AreKept old new)
      (grown : AreGrown states more) (s j c d : ℕ) (below : List Dot) (at_j : IsAt tables old states s x j below)
      (plain : at_j.state.ended ≡ true → below ≡ [])
      (within : (id : ℕ) → Contains at_j.state.tops.items id → id ≤ length old)
      (letter : slice_get x j ≡ Some c) (alike : AreAlike (flat_of tables) c d) where
    same_state : (from : State) → slice_get more s ≡ Some from → at_j.state ≡ from
    same_state from is =
        let both : Some at_j.state ≡ Some from = sym (grown_at states more grown s at_j.state at_j.is) ∙ is in
        cc both

    plain_at : IsPlainCover (flat_of tables) (last_of tables) x j (IsStackOf new at_j.state.tops.items) below
    plain_at =
        plain_cover (flat_of tables) (last_of tables) x j (IsStackOf new at_j.state.tops.items) at_j.state.ended below
        plain
        (cover_as (flat_of tables) (last_of tables) x j (IsStackOf old at_j.state.tops.items)
        (IsStackOf new at_j.state.tops.items) at_j.state.ended below
        (stack_on old new kept at_j.state.tops.items within) (stack_off old new kept at_j.state.tops.items within)
        at_j.cover)

    -- .. and of what the tops lead to the dominated stacks are left out
    next_pruned : (from : State) → slice_get more s ≡ Some from → (next : List ℕ) (ended : Bool)
        → LeadsTo tables d new from.tops.items new next ended
        → IsCover (flat_of tables) (last_of tables) x (j + 1) (IsStackOf new next) ended below
    next_pruned from is next ended h =
        pruned_cover (flat_of tables) (last_of tables) x (j + 1) (IsStackOf new h.read) (IsStackOf new next) ended below
        (next_cover (flat_of tables) (last_of tables) (marks_last tables targets) x j c d letter alike
        (IsStackOf new at_j.state.tops.items) below plain_at (IsStackOf new h.read) ended
        (transition_next tables targets d new at_j.state.tops.items new h.read ended
        (subst (λ v. IsTransition tables d new v.tops.items new h.read ended) (sym (same_state from is)) h.is)))
        (λ top t. record { id = t.id; stands = h.pruned.only t.id t.stands; is = t.is })
        (λ top t. let r = h.pruned.rest t.id t.stands in (
          stack_of new r.0,
          record { id = r.0; stands = r.1; is = refl },
          subst (λ v. Dominates (flat_of tables) (stack_of new r.0) v) (sym t.is) r.2,
        ))

    pub at_next : (t : ℕ) → IsStep tables d new more s t → IsAt tables new more t x (j + 1) below
    at_next t step = record {
      state = step.to;
      is = step.to_is;
      cover = next_pruned step.from step.from_is step.to.tops.items step.to.ended step.is;
    }

    pub at_push : (t suffix : ℕ) → IsPush tables d new more s t suffix
        → IsAt tables new more t x (j + 1) (stack_of new suffix ++ below)
    at_push t suffix push = record {
      state = push.to;
      is = push.to_is;
      cover = subst (λ v. IsCover (flat_of tables) (last_of tables) x (j + 1)
          (IsStackOf new push.to.tops.items) v
          (stack_of new suffix ++ below)) (sym push.runs)
          (cover_split (flat_of tables) (last_of tables) x (j + 1) (IsStackOf new push.read)
          (IsStackOf new push.to.tops.items) (stack_of new suffix) below
          (next_pruned push.from push.from_is push.read false push.is)
          push.split.tops_are
          (λ top h. reported_top tables top (subst (λ v. TopReads tables v) (sym h.is)
          (push.split.all_read h.id h.stands))));
    }

    pub next_reached : (from : State) → slice_get more s ≡ Some from
        → (stack : List Dot) × ReadsFrom tables d new from.tops.items stack
        → IsReached (flat_of tables) (last_of tables) x (j + 1)
    next_reached from is some =
        (taken_by_cover (flat_of tables) (last_of tables) (marks_last tables targets) x j c d letter alike
        (IsStackOf new at_j.state.tops.items) below plain_at).1 (
          some.0,
          to_read tables targets d new at_j.state.tops.items
              (subst (λ v. ReadsFrom tables d new v.tops.items some.0) (sym (same_state from is)) some.1),
        )

    pub at_dead : IsDead tables d new more s → (k : ℕ) → j < k → IsReached (flat_of tables) (last_of tables) x k → ⊥
    at_dead dead k lt a =
        let r = reach_past (flat_of tables) (last_of tables) x j a.1 lt in
        let t = (taken_by_cover (flat_of tables) (last_of tables) (marks_last tables targets) x j c d letter alike
        (IsStackOf new at_j.state.tops.items) below plain_at).0 r in
        dead.none t.0 (subst (λ v. ReadsFrom tables d new v.tops.items t.0) (same_state dead.from dead.from_is)
        (from_read tables targets d new at_j.state.tops.items t.1))

  join_is : (o : Option (Option ℕ)) (target : ℕ) → o ≡ Some (Some target) → option_flatten o ≡ Some target
  join_is o target h = ap option_flatten h

  is_joined : (o : Option (Option ℕ)) (target : ℕ) → option_flatten o ≡ Some target → o ≡ Some (Some target)
  is_joined None target h = absurd (cc h)
  is_joined (Some o) target h = ap (λ v. Some v) h

  module _ (x : List ℕ) where
    from_reach : {k : ℕ} {a : List Dot} → Reach (flat_of tables) (last_of tables) x k a → k ≡ 0
        → GoesOn tables (IsBegun tables) a
    from_reach (st.begins h) none =
        let b = whole_begun tables targets h in
        here (record { target = b.0; is = join_is _ b.0 b.1; begun = b.2 })
    from_reach (st.moved h m) none = on (from_reach h none) (to_goes tables targets m)
    from_reach (st.has_read h rd is lies) none = absurd (omega (arith, none))

    start_reach : (a : List Dot) → IsBegun tables a → Reach (flat_of tables) (last_of tables) x 0 a
    start_reach a b =
        subst (λ v. Reach (flat_of tables) (last_of tables) x 0 v) (sym b.begun.is)
        (st.begins (begun_starts tables targets b.target b.begun.step tables.start
        (slice_get tables.nodes.items b.target) refl b.begun.begins
        ((targets tables.start b.target).0 (is_joined _ b.target b.is))))

    to_reach : {a : List Dot} → GoesOn tables (IsBegun tables) a → Reach (flat_of tables) (last_of tables) x 0 a
    to_reach (here {stack = s} h) = start_reach s h
    to_reach (on {stack = s} h g) = st.moved (to_reach h) (from_goes tables targets s g)

    ends_so : (p : Dot) → IsDoneAt (flat_of tables) p → EndsAlone tables (p ∷ [])
    ends_so (at n k) d = (done_reported tables targets d, refl)

    accepted_so : (stack : List Dot) → Reach (flat_of tables) (last_of tables) x 0 stack → EndsAlone tables stack
        → Accepts (flat_of tables) (last_of tables) x 0
    accepted_so [] h e = absurd e
    accepted_so (at n k ∷ below) h e = record {
      position = at n k;
      reached = subst (λ v. Reach (flat_of tables) (last_of tables) x 0 (at n k ∷ v)) e.1 h;
      done = reported_done tables targets n k (slice_get tables.nodes.items n) refl e.0;
    }

    pub start_closure : (conts : List Cont) (states : List State) (t : ℕ) (s : IsStartAt tables conts states t)
        → IsStackClosure (flat_of tables) (last_of tables) x 0 (IsStackOf conts s.state.tops.items) s.state.ended []
    start_closure conts states t s = record {
      reading = λ stack r. (
        λ h. inl (record {
          top = stack;
          is = (s.start.tops_are stack).1 (top_reported tables r, from_reach h refl);
          stack_is = sym (append-nil stack);
        }),
        λ h. back stack r h,
      );
      all_read = λ top h. reported_top tables top ((s.start.tops_are top).0 h).0;
      accepts = (
        λ a. (s.start.ended_is.1 (a.position ∷ [], from_reach a.reached refl, ends_so a.position a.done), inl refl),
        λ h. let e = s.start.ended_is.0 h.0 in accepted_so e.0 (to_reach e.1) e.2,
      );
    }
      where
        back : (stack : List Dot) → IsReading (flat_of tables) stack
            → Lifted (IsStackOf conts s.state.tops.items) [] stack
            ⊎ ((s.state.ended ≡ true) × Led (flat_of tables) (last_of tables) (λ v. [] ≡ v) stack)
            → Reach (flat_of tables) (last_of tables) x 0 stack
        back stack r (inl h) =
            subst (λ v. Reach (flat_of tables) (last_of tables) x 0 v) (sym (h.stack_is ∙ append-nil h.top))
            (to_reach ((s.start.tops_are h.top).0 h.is).1)
        back stack r (inr h) =
            absurd (subst (λ v. TopReads tables v) (rests_empty (flat_of tables) (last_of tables) h.1)
            (top_reported tables r))

    pub at_start : (conts : List Cont) (states : List State) (t : ℕ) → IsStartAt tables conts states t
        → IsAt tables conts states t x 0 []
    at_start conts states t s = record {
      state = s.state;
      is = s.is;
      cover = exact_cover (flat_of tables) (last_of tables) x 0 (IsStackOf conts s.state.tops.items) s.state.ended []
          (start_closure conts states t s);
    }

  module _ (x : List ℕ) (old new : List Cont) (states more : List State) (kept : AreKept old new)
      (grown : AreGrown states more) (s j c k : ℕ) (below : List Dot) (at_j : IsAt tables old states s x j below)
      (plain : at_j.state.ended ≡ true → below ≡ []) (samples : List ℕ) (cells : List Cell)
      (cached : AreCached tables samples old states cells) (letter : slice_get x j ≡ Some c)
      (class : IsClassOf (flat_of tables) samples c k) (cell : Cell)
      (is : (d : ℕ) → slice_get samples k ≡ Some d → IsCell tables d new more s cell) where
    within_at : (id : ℕ) → Contains at_j.state.tops.items id → id ≤ length old
    within_at = cached.within s at_j.state at_j.is

    is_cell : (other : Cell) → cell ≡ other → IsCell tables class.sample new more s other
    is_cell other same = subst (λ v. IsCell tables class.sample new more s v) same (is class.sample class.is)

    pub step_to : (t : ℕ) → cell ≡ To t → IsAt tables new more t x (j + 1) below
    step_to t to =
        at_next x old new states more kept grown s j c class.sample below at_j plain within_at letter class.alike t
        (is_cell (To t) to)

    pub step_push : (t suffix : ℕ) → cell ≡ Push t suffix
        → IsAt tables new more t x (j + 1) (stack_of new suffix ++ below)
    step_push t suffix push =
        at_push x old new states more kept grown s j c class.sample below at_j plain within_at letter class.alike t
        suffix
        (is_cell (Push t suffix) push)

    pub pushed_suffix : (t suffix : ℕ) → cell ≡ Push t suffix
        → (suffix ≤ length new) × (stack_of new suffix ≡ [] → ⊥)
    pushed_suffix t suffix push =
        let p = is_cell (Push t suffix) push in (p.split.within, p.split.full)

    pub push_runs : (t suffix : ℕ) → cell ≡ Push t suffix → (got : State) → slice_get more t ≡ Some got
        → got.ended ≡ false
    push_runs t suffix push got there =
        let p = is_cell (Push t suffix) push in
        let both : Some p.to ≡ Some got = sym p.to_is ∙ there in
        let same : p.to ≡ got = cc both in
        ap (λ v. v.ended) (sym same) ∙ p.runs

    pub step_reached : (t : ℕ) → cell ≡ To t → IsReached (flat_of tables) (last_of tables) x (j + 1)
    step_reached t to =
        let h = is_cell (To t) to in
        next_reached x old new states more kept grown s j c class.sample below at_j plain within_at letter class.alike
        h.from h.from_is h.some

    pub push_reached : (t suffix : ℕ) → cell ≡ Push t suffix → IsReached (flat_of tables) (last_of tables) x (j + 1)
    push_reached t suffix push =
        let h = is_cell (Push t suffix) push in
        next_reached x old new states more kept grown s j c class.sample below at_j plain within_at letter class.alike
        h.from h.from_is h.some

    pub step_dead : cell ≡ Dead → (m : ℕ) → j < m → IsReached (flat_of tables) (last_of tables) x m → ⊥
    step_dead dead m lt a =
        at_dead x old new states more kept grown s j c class.sample below at_j plain within_at letter class.alike
        (is_cell Dead dead) m lt a

pub some_at : {A : Type 0} (xs : List A) (k : ℕ) → k < length xs → (x : A) × (slice_get xs k ≡ Some x)
some_at [] k lt = absurd (omega (arith, lt))
some_at (x ∷ xs) zero lt = (x, refl)
some_at (x ∷ xs) (suc k) lt = some_at xs k (omega (arith, lt))

pub first_at : (tables : code_flat.Tables) (samples : List ℕ) (conts : List Cont) (states : List State)
    (cells : List Cell) → AreCached tables samples conts states cells → 0 < length states
    → IsStartAt tables conts states 0
first_at tables samples conts states cells cached lt =
    let a = some_at states 0 lt in record { state = a.0; is = a.1; start = cached.start a.0 a.1 }

module _ (tables : code_flat.Tables) (samples : List ℕ) (conts mid new : List Cont) (states more : List State)
    (cells filled : List Cell) (next : List ℕ) (ended : Bool) (t : ℕ)
    (cached : AreCached tables samples conts states cells) (kept : AreKept conts mid) (same : new ≡ mid)
    (interned : IsInterned states more next ended t) (unknown : AreAddedUnknown cells filled)
    (is : IsStart tables mid next ended) where
  pub begun_cached : AreCached tables samples new more filled
  begun_cached =
      subst (λ v. AreCached tables samples v more filled) (sym same)
      (cached_state tables samples mid states more cells filled next ended t interned unknown is.within (λ none. is)
      (cached_conts tables samples conts mid states cells kept cached))

  pub begun_at : IsStartAt tables new more t
  begun_at = record {
    state = interned.is.state;
    is = interned.is.is;
    start = subst (λ c. IsStart tables c interned.is.state.tops.items interned.is.state.ended) (sym same)
        (subst (λ w. IsStart tables mid w interned.is.state.ended) (sym interned.is.tops_are)
        (subst (λ w. IsStart tables mid next w) (sym interned.is.ended_is) is));
  }
