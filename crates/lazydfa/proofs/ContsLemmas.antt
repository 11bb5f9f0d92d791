-- Continuations by id.
-- Serves: judge.
use Rattle.std.proofs.Common.{◌≡◌, ℕ, zero, suc, ◌+◌, ◌<◌, ◌≤◌, Bool, true, false, eqb, List, [], ◌∷◌, ◌++◌, length}
use Rattle.std.proofs.Common.{reverse, refl, sym}
use Rattle.std.proofs.Common.{◌∙◌, ap, subst, arith, ◌⊎◌, inl, inr, length-append, append_assoc}
use Rattle.std.proofs.lemmas.List.{reverse-append, length-reverse, append-nil}
use Rattle.std.proofs.lemmas.Bool.{cases_lt}
use Rattle.std.proofs.lemmas.List.Elements.{Contains-append_left, Contains-append_cases}
use Rattle.std.proofs.lemmas.Option.{slice_get_within}
use Rattle.std.specs.Prelude.{slice_get, Some, Contains, not}
use Rattle.flatgrammar.specs.Flat.{Dot, at}
use Rattle.flatgrammar.proofs.SliceGetLemmas.{push_cases}
use Rattle.lazydfa.specs.declared.conts.Cont.{Cont}
use Rattle.lazydfa.specs.Conts.{stack_back, stack_of, AreOlder, AreKept, IsIdOf, Adds, IsAdded, Begun, CallMoves}
use Rattle.lazydfa.specs.Conts.{after, Goes, EndsAlone}
use Rattle.lazydfa.specs.NameWalks.{WalkCalls, WalkGoes}
use Rattle.flatgrammar.specs.ItemClosures.{begin_count, item_at, dot}
use Rattle.flatgrammar.specs.TableViews.{call_of, done_of}
use Rattle.flatgrammar.specs.declared.tables.Tables as code_flat

not_eq : (m n : ℕ) → m < n → eqb m n ≡ false
not_eq m n lt = grind (arith, lt)

pub skip_newer : (newer older : List Cont) (id : ℕ) → id ≤ length older
    → stack_back (newer ++ older) id ≡ stack_back older id
skip_newer [] older id le = refl
skip_newer (c ∷ newer) older id le =
    let lt : id < length (newer ++ older) + 1 = let l = length-append newer older in omega (arith, l, le) in
    rw (not_eq id (length (newer ++ older) + 1) lt) (skip_newer newer older id le)

eqb_same : (m n : ℕ) → m ≡ n → eqb m n ≡ true
eqb_same m n same = grind (arith, same)

back_at : (back : List Cont) (k : ℕ) (c : Cont) → slice_get (reverse back) k ≡ Some c → c.next ≤ k
    → stack_back back (k + 1) ≡ at c.node c.step ∷ stack_back back c.next
back_at [] k c is le = absurd (cc is)
back_at (d ∷ older) k c is le = by (λ e. back_at older k c e le) (push_cases (reverse older) d k c (subst
    (λ v. slice_get v k ≡ Some c) (rev d older) is))
  where
    rev : (d : Cont) (older : List Cont) → reverse (d ∷ older) ≡ reverse older ++ d ∷ []
    rev d older = reverse-append (d ∷ []) older

    by : (slice_get (reverse older) k ≡ Some c → stack_back older (k + 1) ≡ at c.node c.step ∷ stack_back older c.next)
        → (slice_get (reverse older) k ≡ Some c) ⊎ ((k ≡ length (reverse older)) × (d ≡ c))
        → stack_back (d ∷ older) (k + 1) ≡ at c.node c.step ∷ stack_back (d ∷ older) c.next
    by ih (inl earlier) =
        let l = length-reverse older in
        let w = slice_get_within (reverse older) k c earlier in
        let here : stack_back (d ∷ older) (k + 1) ≡ stack_back older (k + 1) =
        skip_newer (d ∷ []) older (k + 1) (omega (arith, l, w)) in
        let below : stack_back (d ∷ older) c.next ≡ stack_back older c.next =
        skip_newer (d ∷ []) older c.next (omega (arith, l, w, le)) in
        here ∙ (ih earlier ∙ ap (λ v. at c.node c.step ∷ v) (sym below))
    by ih (inr h) =
        let l = length-reverse older in
        let position = h.0 in
        let same : eqb (k + 1) (length older + 1) ≡ true = eqb_same (k + 1) (length older + 1) (omega
        (arith, l, position)) in
        let below : stack_back (d ∷ older) c.next ≡ stack_back older c.next =
        skip_newer (d ∷ []) older c.next (omega (arith, l, position, le)) in
        let top : stack_back (d ∷ older) (k + 1) ≡ at d.node d.step ∷ stack_back older d.next = rw same refl in
        top ∙ (ap (λ v. at v.node v.step ∷ stack_back older v.next) h.1 ∙ ap (λ v. at c.node c.step ∷ v) (sym below))

reverse-twice : (conts : List Cont) → reverse (reverse conts) ≡ conts
reverse-twice [] = refl
reverse-twice (c ∷ conts) =
    ap (λ v. reverse v) (reverse-append (c ∷ []) conts)
    ∙ (reverse-append (reverse conts) (c ∷ []) ∙ ap (λ v. c ∷ v) (reverse-twice conts))

pub found_is : (conts : List Cont) (k id : ℕ) (c : Cont) → AreOlder conts → id ≡ k + 1 → slice_get conts k ≡ Some c
    → IsIdOf conts id (at c.node c.step ∷ stack_of conts c.next)
found_is conts k id c older at_k is = record {
  within = let w = slice_get_within conts k c is in omega (arith, at_k, w);
  is = ap (λ v. stack_of conts v) at_k
      ∙ back_at (reverse conts) k c (subst (λ v. slice_get v k ≡ Some c) (sym (reverse-twice conts)) is) (older k c is);
}

pub kept_stack : (old new : List Cont) → AreKept old new → (id : ℕ) → id ≤ length old
    → stack_of new id ≡ stack_of old id
kept_stack old new kept id le =
    ap (λ v. stack_of v id) kept.grown ∙ (ap (λ v. stack_back v id) (reverse-append old kept.added)
    ∙ skip_newer (reverse kept.added) (reverse old) id (let l = length-reverse old in omega (arith, l, le)))

pub kept_same : (conts : List Cont) → AreKept conts conts
kept_same conts = record { added = []; grown = sym (append-nil conts); older = λ o. o }

pub kept_both : (a b c : List Cont) → AreKept a b → AreKept b c → AreKept a c
kept_both a b c p q = record {
  added = p.added ++ q.added;
  grown = q.grown ∙ (ap (λ v. v ++ q.added) p.grown ∙ append_assoc a p.added q.added);
  older = λ o. q.older (p.older o);
}

pub pushed_kept : (conts : List Cont) (c : Cont) (new : List Cont) → c.next ≤ length conts → new ≡ conts ++ c ∷ []
    → AreKept conts new
pushed_kept conts c new le is = record {
  added = c ∷ [];
  grown = is;
  older = λ o. subst (λ v. AreOlder v) (sym is) (λ k d at_k. by o k d (push_cases conts c k d at_k));
}
  where
    by : AreOlder conts → (k : ℕ) (d : Cont) → (slice_get conts k ≡ Some d) ⊎ ((k ≡ length conts) × (c ≡ d))
        → d.next ≤ k
    by o k d (inl earlier) = o k d earlier
    by o k d (inr h) =
        let position = h.0 in let next : c.next ≡ d.next = ap (λ v. v.next) h.1 in omega (arith, position, next, le)

kept_length : (old new : List Cont) → AreKept old new → length old ≤ length new
kept_length old new kept =
    let l = length-append old kept.added in let g : length new ≡ length (old ++ kept.added) = ap
    (λ v. length v) kept.grown in
    omega (arith, l, g)

pub kept_id : (old new : List Cont) → AreKept old new → (id : ℕ) (stack : List Dot) → IsIdOf old id stack
    → IsIdOf new id stack
kept_id old new kept id stack i = record {
  within = let l = kept_length old new kept in let w = i.within in omega (arith, l, w);
  is = kept_stack old new kept id i.within ∙ i.is;
}

pub adds_none : (conts : List Cont) (P : List Dot → Type 0) (ids : List ℕ) → ((s : List Dot) → P s → ⊥)
    → Adds conts P ids ids
adds_none conts P ids never = record {
  added = [];
  grown = sym (append-nil ids);
  sound = λ id h. absurd (let lt = h.1 in omega (arith, lt));
  whole = λ s p. absurd (never s p);
}

-- one stack more
pub adds_one : (old mid : List Cont) (P Q : List Dot → Type 0) (a b c : List ℕ) (id : ℕ) (stack : List Dot)
    → AreKept old mid → Adds old P a b → IsIdOf mid id stack → IsAdded b c id → ((s : List Dot) → P s → Q s)
    → Q stack → ((s : List Dot) → Q s → P s ⊎ (s ≡ stack)) → Adds mid Q a c
adds_one old mid P Q a b c id stack kept adds is one sub here split = record {
  added = adds.added ++ one.added;
  grown = one.grown ∙ (ap (λ v. v ++ one.added) adds.grown ∙ append_assoc a adds.added one.added);
  sound = λ other h. by other (Contains-append_cases adds.added one.added other h);
  whole = λ s q. which s (split s q);
}
  where
    by : (other : ℕ) → Contains adds.added other ⊎ Contains one.added other
        → (other ≤ length mid) × Q (stack_of mid other)
    by other (inl h) =
        let s = adds.sound other h in
        let l = kept_length old mid kept in
        (let w = s.0 in omega (arith, l, w), subst (λ v. Q v) (sym (kept_stack old mid kept other s.0)) (sub _ s.1))
    by other (inr h) =
        let same = one.only other h in (
          let w = is.within in omega (arith, same, w),
          subst (λ v. Q (stack_of mid v)) (sym same) (subst (λ v. Q v) (sym is.is) here),
        )

    which : (s : List Dot) → P s ⊎ (s ≡ stack) → (id : ℕ) × Contains c id × IsIdOf mid id s
    which s (inl p) =
        let w = adds.whole s p in (
          w.0,
          subst (λ v. Contains v w.0) (sym one.grown) (Contains-append_left b one.added w.0 w.1),
          kept_id old mid kept w.0 s w.2,
        )
    which s (inr same) = (id, one.has, subst (λ v. IsIdOf mid id v) (sym same) is)

pub kept_within : (old new : List Cont) → AreKept old new → (id : ℕ) → id ≤ length old → id ≤ length new
kept_within old new kept id le = let l = kept_length old new kept in omega (arith, l, le)

pub begun_none : (conts : List Cont) (node : ℕ) (below : List Dot) (ids : List ℕ)
    → Adds conts (Begun node 0 below) ids ids
begun_none conts node below ids = adds_none conts (Begun node 0 below) ids (λ s b. let lt = b.begins in
    omega (arith, lt))

pub begun_more : (old mid new : List Cont) (node count below id : ℕ) (a b c : List ℕ) → AreKept old mid
    → AreKept mid new → below ≤ length old → Adds mid (Begun node count (stack_of old below)) a b →
    IsIdOf new id (at node count ∷ stack_of mid below) → IsAdded b c id
    → Adds new (Begun node (count + 1) (stack_of old below)) a c
begun_more old mid new node count below id a b c kept more le adds is one =
    let under : stack_of mid below ≡ stack_of old below = kept_stack old mid kept below le in
    adds_one mid new (Begun node count (stack_of old below)) (Begun node (count + 1) (stack_of old below)) a b c id
    (at node count ∷ stack_of old below) more adds (subst (λ v. IsIdOf new id (at node count ∷ v)) under is) one
    (λ s p. record { step = p.step; begins = (let lt = p.begins in omega (arith, lt)); is = p.is })
    (record { step = count; begins = omega arith; is = refl })
    (λ s q. by s q (cases_lt q.step count))
  where
    by : (s : List Dot) (q : Begun node (count + 1) (stack_of old below) s) → (q.step < count) ⊎ (count ≤ q.step)
        → Begun node count (stack_of old below) s ⊎ (s ≡ at node count ∷ stack_of old below)
    by s q (inl lt) = inl (record { step = q.step; begins = lt; is = q.is })
    by s q (inr le) =
        let lt = q.begins in
        let same : q.step ≡ count = omega (arith, le, lt) in
        inr (q.is ∙ ap (λ v. at node v ∷ stack_of old below) same)

pub adds_as : (conts : List Cont) (P Q : List Dot → Type 0) (a b : List ℕ) → ((s : List Dot) → P s → Q s)
    → ((s : List Dot) → Q s → P s) → Adds conts P a b → Adds conts Q a b
adds_as conts P Q a b to from adds = record {
  added = adds.added;
  grown = adds.grown;
  sound = λ id h. let s = adds.sound id h in (s.0, to (stack_of conts id) s.1);
  whole = λ s q. adds.whole s (from s q);
}

pub called_adds : (tables : code_flat.Tables) (n k target next : ℕ) (conts : List Cont) (under mid : List Dot)
    (a b : List ℕ) → call_of tables (item_at 0 (dot n k)) ≡ Some (target, next) → mid ≡ after tables n next under
    → Adds conts (Begun target (begin_count tables target) mid) a b → Adds conts (CallMoves tables n k under) a b
called_adds tables n k target next conts under mid a b called is adds =
    adds_as conts (Begun target (begin_count tables target) mid) (CallMoves tables n k under) a b
    (λ s g. record {
      target = target;
      next = next;
      called = called;
      begun = subst (λ v. Begun target (begin_count tables target) v s) is g;
    })
    (λ s m. by s m) adds
  where
    by : (s : List Dot) → CallMoves tables n k under s → Begun target (begin_count tables target) mid s
    by s m =
        let pair = pair_same (sym m.called ∙ called) in
        let r : m.target ≡ target = ap (λ v. v.0) pair in
        let l : m.next ≡ next = ap (λ v. v.1) pair in
        subst (λ v. Begun target (begin_count tables target) v s) (sym is)
        (subst (λ v. Begun target (begin_count tables target) (after tables n v under) s) l
        (subst (λ v. Begun v (begin_count tables v) (after tables n m.next under) s) r m.begun))
      where
        pair_same : {a b : ℕ × ℕ} → Some a ≡ Some b → a ≡ b
        pair_same h = cc

pub cont_found : (conts : List Cont) (k id : ℕ) (c : Cont) → AreOlder conts → id ≡ k + 1 → slice_get conts k ≡ Some c
    → (c.next ≤ length conts) × (stack_of conts id ≡ at c.node c.step ∷ stack_of conts c.next)
cont_found conts k id c older at_k is = (
  (let w = slice_get_within conts k c is in let le = older k c is in omega (arith, w, le)),
  (found_is conts k id c older at_k is).is,
)

pub some_stack : (conts : List Cont) (id : ℕ) → AreOlder conts → 0 < id → id ≤ length conts → stack_of conts id ≡ []
    → ⊥
some_stack conts zero older lt le none = absurd (omega (arith, lt))
some_stack conts (suc k) older lt le none = by (get_there conts k (omega (arith, le)))
  where
    get_there : (xs : List Cont) (k : ℕ) → k < length xs → (c : Cont) × (slice_get xs k ≡ Some c)
    get_there [] k lt = absurd (omega (arith, lt))
    get_there (x ∷ xs) zero lt = (x, refl)
    get_there (x ∷ xs) (suc k) lt = get_there xs k (omega (arith, lt))

    by : (c : Cont) × (slice_get conts k ≡ Some c) → ⊥
    by t = let f = (found_is conts k (suc k) t.0 older (omega arith) t.1).is in
        cc (none, f)

-- one id more, or the same ones
pub adds_end : (conts : List Cont) (P Q : List Dot → Type 0) (a b c : List ℕ) (id : ℕ) → id ≤ length conts
    → Adds conts P a b → IsAdded b c id → ((s : List Dot) → P s → Q s) → Q (stack_of conts id)
    → ((s : List Dot) → Q s → P s ⊎ (s ≡ stack_of conts id)) → Adds conts Q a c
adds_end conts P Q a b c id le adds one sub here split =
    adds_one conts conts P Q a b c id (stack_of conts id) (kept_same conts) adds (record { within = le; is = refl }) one
    sub here split

-- what a dotted rule calls, and what is below it, if its node is done
module _ (tables : code_flat.Tables) (n k : ℕ) (below : List Dot) (calls : List Dot → Type 0) where
  abbrev pub CallsOrReturns : List Dot → Type 0
  CallsOrReturns s = calls s ⊎ ((done_of tables (item_at 0 (dot n k)) ≡ true) × (s ≡ below) × (below ≡ [] → ⊥))

  pub calls_alone : (conts : List Cont) (a b : List ℕ)
      → (done_of tables (item_at 0 (dot n k)) ≡ false) ⊎ (below ≡ []) → Adds conts calls a b
      → Adds conts CallsOrReturns a b
  calls_alone conts a b which adds =
      adds_as conts calls CallsOrReturns a b (λ s m. inl m) (λ s g. by s g) adds
    where
      never : (done_of tables (item_at 0 (dot n k)) ≡ false) ⊎ (below ≡ [])
          → done_of tables (item_at 0 (dot n k)) ≡ true → (below ≡ [] → ⊥) → ⊥
      never (inl no_end) yes_end some = absurd (cc (no_end, yes_end))
      never (inr none) yes_end some = some none

      by : (s : List Dot) → CallsOrReturns s → calls s
      by s (inl m) = m
      by s (inr e) = absurd (never which e.0 e.2)

  pub calls_and_returns : (conts : List Cont) (a b c : List ℕ) (id : ℕ) → done_of tables (item_at 0 (dot n k)) ≡ true
      → (below ≡ [] → ⊥) → id ≤ length conts → stack_of conts id ≡ below → Adds conts calls a b → IsAdded b c id
      → Adds conts CallsOrReturns a c
  calls_and_returns conts a b c id done some le is adds one =
      adds_end conts calls CallsOrReturns a b c id le adds one (λ s m. inl m) (inr (done, is, some)) (λ s g. by s g)
    where
      by : (s : List Dot) → CallsOrReturns s → calls s ⊎ (s ≡ stack_of conts id)
      by s (inl m) = inl m
      by s (inr e) = inr (e.1 ∙ sym is)

module _ (tables : code_flat.Tables) (n k : ℕ) (below stack : List Dot) (stack_is : stack ≡ at n k ∷ below) where
  pub goes_call : (conts : List Cont) (a b : List ℕ)
      → (done_of tables (item_at 0 (dot n k)) ≡ false) ⊎ (below ≡ []) →
      Adds conts (CallMoves tables n k below) a b → Adds conts (Goes tables stack) a b
  goes_call conts a b which adds =
      subst (λ v. Adds conts (Goes tables v) a b) (sym stack_is)
      (calls_alone tables n k below (CallMoves tables n k below) conts a b which adds)

  pub goes_end : (conts : List Cont) (a b c : List ℕ) (id : ℕ) → done_of tables (item_at 0 (dot n k)) ≡ true
      → (below ≡ [] → ⊥) → id ≤ length conts → stack_of conts id ≡ below →
      Adds conts (CallMoves tables n k below) a b → IsAdded b c id → Adds conts (Goes tables stack) a c
  goes_end conts a b c id done some le is adds one =
      subst (λ v. Adds conts (Goes tables v) a c) (sym stack_is)
      (calls_and_returns tables n k below (CallMoves tables n k below) conts a b c id done some le is adds one)

  pub walks_call : (conts : List Cont) (a b : List ℕ)
      → (done_of tables (item_at 0 (dot n k)) ≡ false) ⊎ (below ≡ []) →
      Adds conts (WalkCalls tables n k below) a b → Adds conts (WalkGoes tables stack) a b
  walks_call conts a b which adds =
      subst (λ v. Adds conts (WalkGoes tables v) a b) (sym stack_is)
      (calls_alone tables n k below (WalkCalls tables n k below) conts a b which adds)

  pub walks_end : (conts : List Cont) (a b c : List ℕ) (id : ℕ) → done_of tables (item_at 0 (dot n k)) ≡ true
      → (below ≡ [] → ⊥) → id ≤ length conts → stack_of conts id ≡ below →
      Adds conts (WalkCalls tables n k below) a b → IsAdded b c id → Adds conts (WalkGoes tables stack) a c
  walks_end conts a b c id done some le is adds one =
      subst (λ v. Adds conts (WalkGoes tables v) a c) (sym stack_is)
      (calls_and_returns tables n k below (WalkCalls tables n k below) conts a b c id done some le is adds one)

  pub ends_not : (done_of tables (item_at 0 (dot n k)) ≡ false) ⊎ (below ≡ [] → ⊥) → EndsAlone tables stack → ⊥
  ends_not which e = by which (subst (λ v. EndsAlone tables v) stack_is e)
    where
      by : (done_of tables (item_at 0 (dot n k)) ≡ false) ⊎ (below ≡ [] → ⊥) → EndsAlone tables (at n k ∷ below) → ⊥
      by (inl no_end) e = absurd (cc (no_end, e.0))
      by (inr some) e = some e.1

  pub ends_so : done_of tables (item_at 0 (dot n k)) ≡ true → below ≡ [] → EndsAlone tables stack
  ends_so done none = subst (λ v. EndsAlone tables v) (sym stack_is) (done, none)

pub goes_nowhere : (tables : code_flat.Tables) (conts : List Cont) (stack : List Dot) (a : List ℕ) → stack ≡ []
    → Adds conts (Goes tables stack) a a
goes_nowhere tables conts stack a none =
    adds_none conts (Goes tables stack) a (λ s g. subst (λ v. Goes tables v s) none g)

pub walks_nowhere : (tables : code_flat.Tables) (conts : List Cont) (stack : List Dot) (a : List ℕ) → stack ≡ []
    → Adds conts (WalkGoes tables stack) a a
walks_nowhere tables conts stack a none =
    adds_none conts (WalkGoes tables stack) a (λ s g. subst (λ v. WalkGoes tables v s) none g)

pub stack_none : (conts : List Cont) (id : ℕ) → id ≡ 0 → stack_of conts id ≡ []
stack_none conts id none = ap (λ v. stack_of conts v) none ∙ by (reverse conts)
  where
    by : (back : List Cont) → stack_back back 0 ≡ []
    by [] = refl
    by (c ∷ back) = let lt : 0 < length back + 1 = omega arith in rw (not_eq 0 (length back + 1) lt) (by back)

pub not_true : (b d : Bool) → not b ≡ true → b ≡ d → d ≡ false
not_true true d h is = absurd (cc h)
not_true false d h is = sym is

pub not_false : (b d : Bool) → not b ≡ false → b ≡ d → d ≡ true
not_false true d h is = sym is
not_false false d h is = absurd (cc h)
