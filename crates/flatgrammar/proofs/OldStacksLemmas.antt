-- Old items are on top of the stacks that a walk leads to after a symbol.
-- Serves: stacks_decide.
use Rattle.std.proofs.Common.{◌≡◌, ◌⊎◌, inl, inr, ℕ, ◌+◌, ◌<◌, ◌≤◌, List, [], ◌∷◌, refl, sym, ◌∙◌, subst, arith}
use Rattle.std.proofs.lemmas.Bool.{cases_lt}
use Rattle.std.specs.Prelude.{slice_get, Bool, true, false, Option, Some, None}
use Rattle.flatgrammar.specs.Flat.{Flat, Node, Name, Dot, Has, Starts, starts, name_starts, Ends, ends, name_ends}
use Rattle.flatgrammar.specs.Flat.{Calls}
use Rattle.flatgrammar.specs.Holds.{Holds, begins, called, has_read, returned}
use Rattle.flatgrammar.specs.Stacks as st
use Rattle.flatgrammar.specs.Stacks.{node_at, AreUncounted, IsDoneAt, MarksLast, call, tail_call, Reach, ReadBy}
use Rattle.flatgrammar.specs.OldItems as old
use Rattle.flatgrammar.specs.OldItems.{IsNameNode, IsOld, Walks}
use Rattle.flatgrammar.proofs.FlatNullableLemmas.{ends_null, goes_through, passes_where_begun}
use Rattle.flatgrammar.proofs.StacksLemmas.{bool_cases, IsBegin, calls_node, reads_node, EndsAs, own_starts, starts_end}
use Rattle.flatgrammar.proofs.StacksLemmas.{ends_start, starts_begin, ends_done, origin_before, return_held, Under}
use Rattle.flatgrammar.proofs.StacksLemmas.{bottom, frame, hidden, chain_under, back_ends, hidden_end, IsBegun, IsAt}
use Rattle.flatgrammar.proofs.StacksLemmas.{climb_up, began_so, base_of}

module _ (flat : Flat) (uncounted : AreUncounted flat) (x : List ℕ) (last : Dot → Bool) (reports : MarksLast flat last)
    (j c : ℕ) (letter : slice_get x j ≡ Some c) where
  abbrev n : ℕ
  n = j + 1

  abbrev Walked : List Dot → Type 0
  Walked = Walks flat last (ReadBy flat last (Reach flat last x j) c)

  starts_own : {s : ℕ} {p : Dot} → Starts flat s p → (IsNameNode flat s → ⊥) → node_at p ≡ s
  starts_own (starts is b) other = refl
  starts_own (name_starts {r = r} is at_r s) other = absurd (other (r, is))

  ends_own : {s : ℕ} {p : Dot} → Ends flat p s → (IsNameNode flat s → ⊥) → node_at p ≡ s
  ends_own (ends is d) other = refl
  ends_own (name_ends {r = r} is at_r s) other = absurd (other (r, is))

  -- .. by callers that are old
  data OldUnder : ℕ → ℕ → List Dot → Type 0 where
    old_bottom : OldUnder 0 flat.start []
    old_frame : {i k s u : ℕ} {q r : Dot} {below : List Dot} → Holds flat x i q k → IsOld flat x n (node_at q) k
        → Calls flat q s r → EndsAs flat u (node_at q) → OldUnder k u below → OldUnder i s (r ∷ below)
    old_hidden : {i k s u : ℕ} {q r : Dot} {below : List Dot} → Holds flat x i q k → IsOld flat x n (node_at q) k
        → Calls flat q s r → EndsAs flat u (node_at q) → OldUnder k u below → last r ≡ true → OldUnder i s below

  record OldStands (p : Dot) (below : List Dot) : Type 0 where
    origin : ℕ
    called_as : ℕ
    held : Holds flat x n p origin
    old : IsOld flat x n (node_at p) origin
    ends_as : EndsAs flat called_as (node_at p)
    under : OldUnder origin called_as below

  abbrev OldChain : List Dot → Type 0
  OldChain [] = ⊥
  OldChain (p ∷ below) = OldStands p below

  lift_under : {i s : ℕ} {below : List Dot} → Under flat uncounted x last reports i s below → i < n
      → OldUnder i s below
  lift_under bottom lt = old_bottom
  lift_under (frame h c ea u) lt =
      let le = origin_before flat uncounted x h in
      old_frame h (old.before (omega (arith, le, lt))) c ea (lift_under u (omega (arith, le, lt)))
  lift_under (hidden h c ea u is) lt =
      let le = origin_before flat uncounted x h in
      old_hidden h (old.before (omega (arith, le, lt))) c ea (lift_under u (omega (arith, le, lt))) is

  moved_old : {q r : Dot} {s k : ℕ} → Calls flat q s r → IsOld flat x n (node_at q) k → IsOld flat x n (node_at r) k
  moved_old {k = k} c o = subst (λ v. IsOld flat x n v k) (sym (calls_node flat c)) o

  old_pop : {i s : ℕ} {p r : Dot} {below : List Dot} → Holds flat x n p i → Ends flat p s → OldUnder i s (r ∷ below)
      → OldStands r below
  old_pop h e (old_frame {k = k} {u = u} g o c ea under) = record {
    origin = k;
    called_as = u;
    held = return_held flat uncounted x h e g c;
    old = moved_old c o;
    ends_as = back_ends flat uncounted x last reports c ea;
    under = under;
  }
  old_pop h e (old_hidden g o c ea under is) =
      old_pop (return_held flat uncounted x h e g c) (hidden_end flat uncounted x last reports c ea is) under

  entered_old : {q r p : Dot} {i s : ℕ} → Holds flat x n q i → IsOld flat x n (node_at q) i → Calls flat q s r
      → (IsNameNode flat s → ⊥) → Starts flat s p → IsOld flat x n (node_at p) n
  entered_old h o c other begin =
      subst (λ v. IsOld flat x n v n) (sym (starts_own begin other)) (old.entered h o c other)

  walk_chain : {a : List Dot} → Walked a → OldChain a
  walk_chain (old.begun (st.reads before rd has)) =
      let g = chain_under flat uncounted x last reports before in
      let le = origin_before flat uncounted x g.held in
      record {
        origin = g.origin;
        called_as = g.called_as;
        held = has_read g.held rd letter has;
        old = old.before (omega (arith, le));
        ends_as = λ p same d. g.ends_as p (same ∙ reads_node flat rd) d;
        under = lift_under g.under (omega (arith, le));
      }
  walk_chain (old.returns {p = p} w done) =
      let g = walk_chain w in old_pop g.held (g.ends_as p refl done) g.under
  walk_chain (old.enters {s = s} w c other begin none) =
      let g = walk_chain w in
      record {
        origin = n;
        called_as = s;
        held = called g.held c begin;
        old = entered_old g.held g.old c other begin;
        ends_as = starts_end flat begin;
        under = old_frame g.held g.old c g.ends_as g.under;
      }
  walk_chain (old.enters_last {s = s} w c other begin is) =
      let g = walk_chain w in
      record {
        origin = n;
        called_as = s;
        held = called g.held c begin;
        old = entered_old g.held g.old c other begin;
        ends_as = starts_end flat begin;
        under = old_hidden g.held g.old c g.ends_as g.under is;
      }
  walk_chain (old.passes w c name null) =
      let g = walk_chain w in
      let t = goes_through flat x null n in
      record {
        origin = g.origin;
        called_as = g.called_as;
        held = return_held flat uncounted x (t.run (called g.held c t.start)) t.end g.held c;
        old = moved_old c g.old;
        ends_as = back_ends flat uncounted x last reports c g.ends_as;
        under = g.under;
      }

  -- what is on top of a stack of the walk is old
  pub walked_old : {p : Dot} {below : List Dot} → Walked (p ∷ below)
      → (i : ℕ) × Holds flat x n p i × IsOld flat x n (node_at p) i
  walked_old w = let g = walk_chain w in (g.origin, g.held, g.old)

  abbrev WalkPopped : List Dot → Type 0
  WalkPopped [] = Unit {0}
  WalkPopped (r ∷ below) = Walked (r ∷ below)

  abbrev WalkAt : Dot → List Dot → Type 0
  WalkAt p below = Walked (p ∷ below) ⊎ ((last p ≡ true) × WalkPopped below)

  walk_done : {p : Dot} (below : List Dot) → WalkAt p below → IsDoneAt flat p → WalkPopped below
  walk_done [] a d = tt
  walk_done (r ∷ below) (inl w) d = old.returns w d
  walk_done (r ∷ below) (inr l) d = l.1

  is_named : (s : ℕ) → IsNameNode flat s ⊎ (IsNameNode flat s → ⊥)
  is_named s = by (slice_get flat.nodes s) refl
    where
      by : (found : Option Node) → slice_get flat.nodes s ≡ found
          → IsNameNode flat s ⊎ (IsNameNode flat s → ⊥)
      by (Some (Name r)) is = inl (r, is)
      by (Some node) is = inr (λ name. absurd (cc (is, name.1)))
      by None is = inr (λ name. absurd (cc (is, name.1)))

  -- over a node that is called and passed within set n
  step_over : {q r p : Dot} {s : ℕ} (below : List Dot) → WalkAt q below → Calls flat q s r → Holds flat x n p n
      → Ends flat p s → ((v : List Dot) → ((p' : Dot) → node_at p' ≡ node_at p → IsBegin flat p' → Walked (p' ∷ v))
      → WalkAt p v) → WalkAt r below
  step_over {q = q} {r = r} {s = s} below (inr none) c h e up =
      let b = began_so flat uncounted x last reports h in
      absurd (reports.no_call q r b.position s none.0 c (ends_start flat e b.position b.node b.begin))
  step_over {q = q} {r = r} {p = p} {s = s} below (inl w) c h e up = by (is_named s) (bool_cases (last r))
    where
      by : IsNameNode flat s ⊎ (IsNameNode flat s → ⊥) → (last r ≡ true) ⊎ (last r ≡ false) → WalkAt r below
      by (inl name) l = inl (old.passes w c name (ends_null flat e (passes_where_begun flat x h refl)))
      by (inr other) (inl is) = inr (
        is,
        walk_done below (up below (λ p' same d. old.enters_last w c other (ends_start flat e p' same d) is))
            (ends_done flat e),
      )
      by (inr other) (inr is) = inl (walk_done (r ∷ below)
          (up (r ∷ below) (λ p' same d. old.enters w c other (ends_start flat e p' same d) is)) (ends_done flat e))

  -- of a node that was entered
  entered_climb : {m i : ℕ} {p : Dot} → Holds flat x m p i → m ≡ n → i ≡ n → (below : List Dot)
      → ((p' : Dot) → node_at p' ≡ node_at p → IsBegin flat p' → Walked (p' ∷ below)) → WalkAt p below
  entered_climb {p = p} (begins begin) at_n from_n below b = inl (b p refl (starts_begin flat begin))
  entered_climb {p = p} (called h c begin) at_n from_n below b = inl (b p refl (starts_begin flat begin))
  entered_climb (has_read h rd is lies) at_n from_n below b =
      let le = origin_before flat uncounted x h in absurd (omega (arith, le, at_n, from_n))
  entered_climb {m = m} {p = r} (returned {i = i} {k = k} {s = s} {q = q} {p = p} h e g c takes) at_n from_n below b =
      let one = origin_before flat uncounted x h in
      let two = origin_before flat uncounted x g in
      let at_last : k ≡ n = omega (arith, one, two, at_n, from_n) in
      step_over below
      (entered_climb g at_last from_n below (λ p' same d. b p' (same ∙ sym (calls_node flat c)) d)) c
      (subst (λ v. Holds flat x v p n) at_n (subst (λ v. Holds flat x m p v) at_last h)) e
      (λ v up. entered_climb h at_n at_last v up)

  -- of a node that began before
  kernel_climb : {m i : ℕ} {p : Dot} → Holds flat x m p i → m ≡ n → i < n → (below : List Dot)
      → IsBegun flat uncounted x last reports i (node_at p) below → WalkAt p below
  kernel_climb (begins begin) at_n lt below b = absurd (omega (arith, at_n))
  kernel_climb (called h c begin) at_n lt below b = absurd (omega (arith, at_n, lt))
  kernel_climb {p = r} (has_read {i = i} {j = k} {c = d} {q = q} {set = set} h rd is lies) at_n lt below b =
      by (climb_up flat uncounted x last reports (subst (λ v. Holds flat x v q i) here h) below
      (λ p same g. b p (same ∙ sym (reads_node flat rd)) g))
    where
      here : k ≡ j
      here = omega (arith, at_n)

      same_letter : d ≡ c
      same_letter = cc (is, here, letter)

      by : IsAt flat uncounted x last reports j q below → WalkAt r below
      by (inl g) = inl (old.begun (st.reads g rd (subst (λ v. Has set v) same_letter lies)))
      by (inr g) = absurd (reports.no_read q r set g.0 rd)
  kernel_climb {m = m} {p = r} (returned {i = i} {k = k} {s = s} {q = q} {p = p} h e g c takes) at_n lt below b =
      by (cases_lt k n) (λ v up. kernel_climb h at_n up v) (λ at_last. kernel_climb g at_last lt below
      (λ p' same d. b p' (same ∙ sym (calls_node flat c)) d)) (λ at_last v up. entered_climb h at_n at_last v up)
    where
      outer : IsAt flat uncounted x last reports k q below
      outer = climb_up flat uncounted x last reports g below (λ p' same d. b p' (same ∙ sym (calls_node flat c)) d)

      from : IsAt flat uncounted x last reports k q below → (last r ≡ true) ⊎ (last r ≡ false)
          → ((v : List Dot) → IsBegun flat uncounted x last reports k (node_at p) v → WalkAt p v) → WalkAt r below
      from (inr none) l up =
          let begun = began_so flat uncounted x last reports h in
          absurd (reports.no_call q r begun.position s none.0 c
          (ends_start flat e begun.position begun.node begun.begin))
      from (inl a) (inl is) up = inr (
        is,
        walk_done below (up below (λ p' same d. Reach.moved a (tail_call c (ends_start flat e p' same d) is)))
            (ends_done flat e),
      )
      from (inl a) (inr is) up = inl (walk_done (r ∷ below)
          (up (r ∷ below) (λ p' same d. Reach.moved a (call c (ends_start flat e p' same d) is))) (ends_done flat e))

      by : (k < n) ⊎ (n ≤ k)
          → ((v : List Dot) → k < n → IsBegun flat uncounted x last reports k (node_at p) v → WalkAt p v)
          → (k ≡ n → WalkAt q below)
          → (k ≡ n → (v : List Dot) → ((p' : Dot) → node_at p' ≡ node_at p → IsBegin flat p' → Walked (p' ∷ v))
          → WalkAt p v) → WalkAt r below
      by (inl less) kernel at_q entered = from outer (bool_cases (last r)) (λ v begun. kernel v less begun)
      by (inr le) kernel at_q entered =
          let one = origin_before flat uncounted x h in
          let at_last : k ≡ n = omega (arith, one, at_n, le) in
          step_over below (at_q at_last) c
          (subst (λ v. Holds flat x v p n) at_n (subst (λ v. Holds flat x m p v) at_last h)) e (entered at_last)

  old_walk : {s i : ℕ} → IsOld flat x n s i → (p : Dot) → node_at p ≡ s → Holds flat x n p i
      → (below : List Dot) × WalkAt p below
  old_walk (old.before lt) p same h =
      let b = base_of flat uncounted x last reports h in (b.below, kernel_climb h refl lt b.below b.begun)
  old_walk (old.whole none) p same h = absurd (omega (arith, none))
  old_walk (old.entered {q = q} {r = r} {s = s} g o c other) p same h =
      let under = old_walk o q refl g in by under.0 under.1 (bool_cases (last r))
    where
      begin_at : (p' : Dot) → node_at p' ≡ node_at p → IsBegin flat p' → Starts flat s p'
      begin_at p' same' d = own_starts flat s p' (same' ∙ same) d

      by : (below : List Dot) → WalkAt q below → (last r ≡ true) ⊎ (last r ≡ false)
          → (below : List Dot) × WalkAt p below
      by below (inr none) l =
          let b = began_so flat uncounted x last reports h in
          absurd (reports.no_call q r b.position s none.0 c (begin_at b.position b.node b.begin))
      by below (inl w) (inl is) =
          (below, entered_climb h refl refl below (λ p' same' d. old.enters_last w c other (begin_at p' same' d) is))
      by below (inl w) (inr is) = (
        r ∷ below,
        entered_climb h refl refl (r ∷ below) (λ p' same' d. old.enters w c other (begin_at p' same' d) is),
      )

  -- an old item that is not at its last dotted rule is on top of a stack of the walk
  pub old_walked : {p : Dot} {i : ℕ} → Holds flat x n p i → IsOld flat x n (node_at p) i → last p ≡ false
      → (below : List Dot) × Walked (p ∷ below)
  old_walked {p = p} h o none = let found = old_walk o p refl h in by found.0 found.1
    where
      by : (below : List Dot) → WalkAt p below → (below : List Dot) × Walked (p ∷ below)
      by below (inl w) = (below, w)
      by below (inr l) = absurd (cc (l.0, none))
