-- Transitions.
-- Serves: judge.
use Rattle.std.proofs.Common.{◌≡◌, ℕ, zero, suc, ◌+◌, ◌<◌, ◌≤◌, Bool, true, false, List, [], ◌∷◌, ◌++◌, length, refl}
use Rattle.std.proofs.Common.{sym, ◌∙◌, ap}
use Rattle.std.proofs.Common.{subst, arith, ◌⊎◌, inl, inr, ◌↔◌, append_assoc}
use Rattle.std.proofs.lemmas.Bool.{cases_lt}
use Rattle.std.proofs.lemmas.List.Elements.{Contains-append_left, Contains-append_right, Contains-append_cases}
use Rattle.std.proofs.lemmas.Option.{slice_get_within}
use Rattle.std.specs.Prelude.{slice_get, Some, Contains}
use Rattle.flatgrammar.specs.Flat.{Dot, at}
use Rattle.flatgrammar.specs.ItemClosures.{item_at, dot}
use Rattle.flatgrammar.specs.NodeSteps.{IfSomeSet}
use Rattle.flatgrammar.specs.TableViews.{read_of}
use Rattle.flatgrammar.specs.declared.tables.Tables as code_flat
use Rattle.lazydfa.specs.declared.conts.Cont.{Cont}
use Rattle.lazydfa.specs.Conts.{stack_of, AreKept, Adds, IsAdded, IsIdOf, ReadsOn, ReadsFrom, TopReads, AreReaders}
use Rattle.lazydfa.specs.Conts.{IsTransition, IsStackOf, GoesOn, here, on}
use Rattle.lazydfa.specs.Kernels.{AreClosedTops}
use Rattle.lazydfa.proofs.ContsLemmas.{adds_none, adds_one, kept_id, kept_stack, kept_within}
use Rattle.lazydfa.proofs.IsClosureLemmas.{contains_at, stands_at}

module _ (tables : code_flat.Tables) (c : ℕ) where
  pub reads_nowhere : (conts : List Cont) (stack : List Dot) (a : List ℕ) → stack ≡ []
      → Adds conts (ReadsOn tables c stack) a a
  reads_nowhere conts stack a none =
      adds_none conts (ReadsOn tables c stack) a (λ s g. subst (λ v. ReadsOn tables c v s) none g)

  pub reads_not : (conts : List Cont) (stack : List Dot) (n k : ℕ) (below : List Dot) (a : List ℕ)
      → stack ≡ at n k ∷ below → (IfSomeSet (read_of tables (item_at 0 (dot n k))) c → ⊥) →
      Adds conts (ReadsOn tables c stack) a a
  reads_not conts stack n k below a is never =
      adds_none conts (ReadsOn tables c stack) a (λ s g. never (subst (λ v. ReadsOn tables c v s) is g).0)

  pub reads_one : (old new : List Cont) (stack : List Dot) (n k : ℕ) (below : List Dot) (id : ℕ) (a b : List ℕ)
      → stack ≡ at n k ∷ below → AreKept old new → IfSomeSet (read_of tables (item_at 0 (dot n k))) c
      → IsIdOf new id (at n (k + 1) ∷ below) → IsAdded a b id → Adds new (ReadsOn tables c stack) a b
  reads_one old new stack n k below id a b is kept reads is_id one =
      subst (λ v. Adds new (ReadsOn tables c v) a b) (sym is)
      (adds_one old new (λ s. ⊥) (ReadsOn tables c (at n k ∷ below)) a a b id (at n (k + 1) ∷ below) kept
      (adds_none old (λ s. ⊥) a (λ s h. h)) is_id one (λ s h. absurd h) (reads, refl) (λ s g. inr g.1))

  -- from the first so many of the ids
  pub record ReadsFirst (conts : List Cont) (ids : List ℕ) (count : ℕ) (next : List Dot) : Type 0 where
    pub position : ℕ
    pub id : ℕ
    pub before : position < count
    pub stands : slice_get ids position ≡ Some id
    pub reads : ReadsOn tables c (stack_of conts id) next

  pub first_none : (conts : List Cont) (ids a : List ℕ) → Adds conts (ReadsFirst conts ids 0) a a
  first_none conts ids a =
      adds_none conts (ReadsFirst conts ids 0) a (λ s r. let lt = r.before in omega (arith, lt))

  adds_both : (mid new : List Cont) (P Q R : List Dot → Type 0) (a b d : List ℕ) → AreKept mid new → Adds mid P a b
      → Adds new Q b d → ((s : List Dot) → P s → R s) → ((s : List Dot) → Q s → R s)
      → ((s : List Dot) → R s → P s ⊎ Q s) → Adds new R a d
  adds_both mid new P Q R a b d kept p q p_in q_in split = record {
    added = p.added ++ q.added;
    grown = q.grown ∙ (ap (λ v. v ++ q.added) p.grown ∙ append_assoc a p.added q.added);
    sound = λ id h. by id (Contains-append_cases p.added q.added id h);
    whole = λ s r. which s (split s r);
  }
    where
      by : (id : ℕ) → Contains p.added id ⊎ Contains q.added id → (id ≤ length new) × R (stack_of new id)
      by id (inl h) =
          let s = p.sound id h in
          (kept_within mid new kept id s.0, subst (λ v. R v) (sym (kept_stack mid new kept id s.0)) (p_in _ s.1))
      by id (inr h) = let s = q.sound id h in (s.0, q_in _ s.1)

      which : (s : List Dot) → P s ⊎ Q s → (id : ℕ) × Contains d id × IsIdOf new id s
      which s (inl h) =
          let w = p.whole s h in (
            w.0,
            subst (λ v. Contains v w.0) (sym q.grown) (Contains-append_left b q.added w.0 w.1),
            kept_id mid new kept w.0 s w.2,
          )
      which s (inr h) = q.whole s h

  pub first_more : (first mid new : List Cont) (ids : List ℕ) (count id : ℕ) (a b d : List ℕ) → AreKept first mid
      → AreKept mid new → slice_get ids count ≡ Some id → id ≤ length first
      → Adds mid (ReadsFirst first ids count) a b → Adds new (ReadsOn tables c (stack_of mid id)) b d
      → Adds new (ReadsFirst first ids (count + 1)) a d
  first_more first mid new ids count id a b d kept more is le p q =
      adds_both mid new (ReadsFirst first ids count) (ReadsOn tables c (stack_of mid id))
      (ReadsFirst first ids (count + 1)) a b d more p q
      (λ s r. record {
        position = r.position;
        id = r.id;
        before = (let lt = r.before in omega (arith, lt));
        stands = r.stands;
        reads = r.reads;
      })
      (λ s r. record {
        position = count;
        id = id;
        before = omega arith;
        stands = is;
        reads = subst (λ v. ReadsOn tables c v s) (kept_stack first mid kept id le) r;
      })
      (λ s r. split s r (cases_lt r.position count))
    where
      split : (s : List Dot) (r : ReadsFirst first ids (count + 1) s) → (r.position < count) ⊎ (count ≤ r.position)
          → ReadsFirst first ids count s ⊎ ReadsOn tables c (stack_of mid id) s
      split s r (inl lt) = inl
          (record { position = r.position; id = r.id; before = lt; stands = r.stands; reads = r.reads })
      split s r (inr at_end) =
          let lt = r.before in
          let here : r.position ≡ count = omega (arith, at_end, lt) in
          let both : Some r.id ≡ Some id = sym r.stands ∙ (ap (λ v. slice_get ids v) here ∙ is) in
          let same : r.id ≡ id = cc both in
          inr (subst (λ v. ReadsOn tables c v s) (ap (λ v. stack_of first v) same
          ∙ sym (kept_stack first mid kept id le))
          r.reads)

  pub first_all : (first new : List Cont) (ids : List ℕ) (count : ℕ) (a b : List ℕ) → length ids ≤ count
      → Adds new (ReadsFirst first ids count) a b → Adds new (ReadsFrom tables c first ids) a b
  first_all first new ids count a b le p = record {
    added = p.added;
    grown = p.grown;
    sound = λ id h. let s = p.sound id h in (
      s.0,
      record {
        id = s.1.id;
        stands = contains_at ids s.1.position s.1.id s.1.stands;
        reads = s.1.reads;
      },
    );
    whole = λ s r.
        let t = stands_at ids r.id r.stands in
        p.whole s (record {
          position = t.position;
          id = r.id;
          before = (let w = slice_get_within ids t.position r.id t.is in omega (arith, w, le));
          stands = t.is;
          reads = r.reads;
        });
  }

  pub read_within : (first new : List Cont) (tops ids read : List ℕ) → ids ≡ []
      → Adds new (ReadsFrom tables c first tops) ids read → (id : ℕ) → Contains read id → id ≤ length new
  read_within first new tops ids read none adds id h =
      (adds.sound id (subst (λ v. Contains v id) (adds.grown ∙ ap (λ v. v ++ adds.added) none) h)).0

  -- what was read, closed, and of that what reads
  pub is_transition : (first mid conts : List Cont) (tops ids next : List ℕ) (ended : Bool) → ids ≡ []
      → (read : List ℕ) → Adds mid (ReadsFrom tables c first tops) ids read
      → AreClosedTops tables mid read conts next ended → IsTransition tables c first tops conts next ended
  is_transition first mid conts tops ids next ended none read adds closed = record {
    within = closed.within;
    tops_are = λ stack. (
      λ s. let r = (closed.tops_are stack).0 s in (r.0, from_given r.1),
      λ h. (closed.tops_are stack).1 (h.0, to_given h.1),
    );
    ended_is = (
      λ h. let e = closed.ended_is.0 h in (e.0, from_given e.1, e.2),
      λ h. closed.ended_is.1 (h.0, to_given h.1, h.2),
    );
  }
    where
      added : (id : ℕ) → Contains read id → Contains adds.added id
      added id h = subst (λ v. Contains v id) (adds.grown ∙ ap (λ v. v ++ adds.added) none) h

      from_given : {s : List Dot} → GoesOn tables (IsStackOf mid read) s
          → GoesOn tables (ReadsFrom tables c first tops) s
      from_given (here h) =
          here (subst (λ v. ReadsFrom tables c first tops v) (sym h.is) (adds.sound h.id (added h.id h.stands)).1)
      from_given (on h g) = on (from_given h) g

      to_given : {s : List Dot} → GoesOn tables (ReadsFrom tables c first tops) s
          → GoesOn tables (IsStackOf mid read) s
      to_given (here {stack = s} h) = let w = adds.whole s h in
          here (record { id = w.0; stands = w.1; is = sym w.2.is })
      to_given (on h g) = on (to_given h) g

module _ (tables : code_flat.Tables) (conts : List Cont) (ids : List ℕ) where
  pub record ReadersFirst (count : ℕ) (readers : List ℕ) : Type 0 where
    pub only : (id : ℕ) → Contains readers id → Contains ids id × TopReads tables (stack_of conts id)
    pub all : (k id : ℕ) → k < count → slice_get ids k ≡ Some id → TopReads tables (stack_of conts id)
        → Contains readers id

  pub readers_none : (none : List ℕ) → none ≡ [] → ReadersFirst 0 none
  readers_none none is = record {
    only = λ id h. absurd (let lt = (subst (λ v. Contains v id) is h).1 in omega (arith, lt));
    all = λ k id lt. absurd (omega (arith, lt));
  }

  pub readers_done : (count : ℕ) (readers : List ℕ) → length ids ≤ count → ReadersFirst count readers
      → AreReaders tables conts ids readers
  readers_done count readers le r = record {
    only = r.only;
    all = λ id h t. let s = stands_at ids id h in
        r.all s.position id (let w = slice_get_within ids s.position id s.is in omega (arith, w, le)) s.is t;
  }

  same_here : (count k id other : ℕ) → count ≤ k → k < count + 1 → slice_get ids count ≡ Some id
      → slice_get ids k ≡ Some other → id ≡ other
  same_here count k id other le lt is at_k =
      let here : k ≡ count = omega (arith, le, lt) in
      let both : Some id ≡ Some other = sym is ∙ subst (λ v. slice_get ids v ≡ Some other) here at_k in cc both

  pub readers_more : (count id : ℕ) (readers new : List ℕ) → slice_get ids count ≡ Some id
      → TopReads tables (stack_of conts id) → new ≡ readers ++ id ∷ [] → ReadersFirst count readers
      → ReadersFirst (count + 1) new
  readers_more count id readers new is reads grown r = record {
    only = λ other h. only other (Contains-append_cases readers (id ∷ []) other (subst
        (λ v. Contains v other) grown h));
    all = λ k other lt at_k t. subst (λ v. Contains v other) (sym grown) (all k other (cases_lt k count) lt at_k t);
  }
    where
      only : (other : ℕ) → Contains readers other ⊎ Contains (id ∷ []) other
          → Contains ids other × TopReads tables (stack_of conts other)
      only other (inl h) = r.only other h
      only other (inr h) =
          let same = one h in (
            subst (λ v. Contains ids v) same (contains_at ids count id is),
            subst (λ v. TopReads tables (stack_of conts v)) same reads,
          )
        where
          one : Contains (id ∷ []) other → id ≡ other
          one h = by (stands_at (id ∷ []) other h).position (stands_at (id ∷ []) other h).is
            where
              by : (k : ℕ) → slice_get (id ∷ []) k ≡ Some other → id ≡ other
              by zero h = cc h
              by (suc k) h = absurd (cc h)

      all : (k other : ℕ) → (k < count) ⊎ (count ≤ k) → k < count + 1 → slice_get ids k ≡ Some other
          → TopReads tables (stack_of conts other) → Contains (readers ++ id ∷ []) other
      all k other (inl less) lt at_k t = Contains-append_left readers (id ∷ []) other (r.all k other less at_k t)
      all k other (inr le) lt at_k t =
          Contains-append_right readers (id ∷ []) other (0, omega arith, same_here count k id other le lt is at_k)

  pub readers_past : (count id : ℕ) (readers : List ℕ) → slice_get ids count ≡ Some id
      → (TopReads tables (stack_of conts id) → ⊥) → ReadersFirst count readers → ReadersFirst (count + 1) readers
  readers_past count id readers is never r = record {
    only = r.only;
    all = λ k other lt at_k t. all k other (cases_lt k count) lt at_k t;
  }
    where
      all : (k other : ℕ) → (k < count) ⊎ (count ≤ k) → k < count + 1 → slice_get ids k ≡ Some other
          → TopReads tables (stack_of conts other) → Contains readers other
      all k other (inl less) lt at_k t = r.all k other less at_k t
      all k other (inr le) lt at_k t = absurd (never
          (subst (λ v. TopReads tables (stack_of conts v)) (sym (same_here count k id other le lt is at_k)) t))

  pub readers_kept : (count id : ℕ) (readers new : List ℕ) (asked : Bool) → slice_get ids count ≡ Some id
      → ((asked ≡ true) ↔ TopReads tables (stack_of conts id)) → (asked ≡ true → new ≡ readers ++ id ∷ [])
      → (asked ≡ false → new ≡ readers) → ReadersFirst count readers → ReadersFirst (count + 1) new
  readers_kept count id readers new true is reports grown left r = readers_more count id readers new is (reports.0 refl)
      (grown refl) r
  readers_kept count id readers new false is reports grown left r =
      subst (λ v. ReadersFirst (count + 1) v) (sym (left refl))
      (readers_past count id readers is (λ t. let f = reports.1 t in absurd (cc f)) r)
