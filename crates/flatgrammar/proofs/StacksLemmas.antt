-- Stacks and item sets hold the same dotted rules, and accept the same lines.
-- Serves: stacks_decide, judge.
use Rattle.std.proofs.Common.{◌≡◌, ℕ, ◌+◌, ◌<◌, ◌≤◌, List, [], ◌∷◌, refl, sym, ◌∙◌, ap, subst, arith}
use Rattle.std.proofs.Common.{◌⊎◌, inl, inr}
use Rattle.std.proofs.lemmas.Bool.{cases_lt}
use Rattle.std.specs.Prelude.{slice_get, Bool, true, false, Option, Some, None}
use Rattle.flatgrammar.specs.Flat.{Flat, Node, Name, Concat, Iterations, top, Dot, at, Set, Begins, IsDone, Calling}
use Rattle.flatgrammar.specs.Flat.{IsTaking, Starts, starts}
use Rattle.flatgrammar.specs.Flat.{name_starts, Ends, ends, name_ends, Reads, reads, Calls, calls, Takes, in_iterations}
use Rattle.flatgrammar.specs.Holds.{HasItem}
use Rattle.flatgrammar.specs.Holds.{Holds, begins, called, has_read, returned}
use Rattle.flatgrammar.specs.Stacks as st
use Rattle.flatgrammar.specs.Stacks.{node_at, AreUncounted, IsDoneAt, is_done, MarksLast, Moves, call, tail_call}
use Rattle.flatgrammar.specs.Stacks.{Reach, Accepts}

pub bool_cases : (b : Bool) → (b ≡ true) ⊎ (b ≡ false)
bool_cases true = inl refl
bool_cases false = inr refl

module _ (flat : Flat) where
  -- where a node begins
  pub data IsBegin : Dot → Type 0 where
    is_begin : {s k : ℕ} {node : Node} → slice_get flat.nodes s ≡ Some node → Begins node k → IsBegin (at s k)

  pub calls_node : {q r : Dot} {s : ℕ} → Calls flat q s r → node_at r ≡ node_at q
  calls_node (calls is c) = refl

  pub reads_node : {q r : Dot} {set : Set} → Reads flat q set r → node_at r ≡ node_at q
  reads_node (reads is c) = refl

  -- what is done in node t ends s
  abbrev pub EndsAs : ℕ → ℕ → Type 0
  EndsAs s t = (p : Dot) → node_at p ≡ t → IsDoneAt flat p → Ends flat p s

  -- where node t begins s starts
  abbrev pub StartsAs : ℕ → ℕ → Type 0
  StartsAs s t = (p : Dot) → node_at p ≡ t → IsBegin p → Starts flat s p

  own_ends : (s : ℕ) → EndsAs s s
  own_ends s p same (is_done {s = t} {k = k} is d) = subst (λ v. Ends flat (at t k) v) same (ends is d)

  pub own_starts : (s : ℕ) → StartsAs s s
  own_starts s p same (is_begin {s = t} {k = k} is b) = subst (λ v. Starts flat v (at t k)) same (starts is b)

  pub starts_end : {s : ℕ} {p : Dot} → Starts flat s p → EndsAs s (node_at p)
  starts_end (starts {s = s} is b) = own_ends s
  starts_end (name_starts is at_r st) = λ p same d. name_ends is at_r (starts_end st p same d)

  starts_start : {s : ℕ} {p : Dot} → Starts flat s p → StartsAs s (node_at p)
  starts_start (starts {s = s} is b) = own_starts s
  starts_start (name_starts is at_r st) = λ p same d. name_starts is at_r (starts_start st p same d)

  pub ends_start : {s : ℕ} {p : Dot} → Ends flat p s → StartsAs s (node_at p)
  ends_start (ends {s = s} is b) = own_starts s
  ends_start (name_ends is at_r e) = λ p same d. name_starts is at_r (ends_start e p same d)

  pub starts_begin : {s : ℕ} {p : Dot} → Starts flat s p → IsBegin p
  starts_begin (starts is b) = is_begin is b
  starts_begin (name_starts is at_r st) = starts_begin st

  pub ends_done : {s : ℕ} {p : Dot} → Ends flat p s → IsDoneAt flat p
  ends_done (ends is d) = is_done is d
  ends_done (name_ends is at_r e) = ends_done e

  takes_node : {s k : ℕ} {node : Node} → slice_get flat.nodes s ≡ Some node → Takes flat (at s k) → IsTaking node
  takes_node {node = node} is (in_iterations {node = node'} is' t) =
      let same : node' ≡ node = cc in subst (λ v. IsTaking v) same t

  module _ (uncounted : AreUncounted flat) where
    none_counted : (s : ℕ) {k m : ℕ} {A : Type 0} (b : Option ℕ) → slice_get flat.nodes s ≡ Some (Iterations b m)
        → k < top 0 b → A
    none_counted s None is lt = absurd (omega (arith, lt))
    none_counted s {m = m} (Some b) is lt = absurd (uncounted s b m is)

    -- a call that has to take a letter returns to where it came from
    takes_or : {q r : Dot} {s : ℕ} → Calls flat q s r → (Takes flat q → ⊥) ⊎ (r ≡ q)
    takes_or (calls is c) = by is c
      where
        by : {s k t l : ℕ} {node : Node} → slice_get flat.nodes s ≡ Some node → Calling node k t l
            → (Takes flat (at s k) → ⊥) ⊎ (at s l ≡ at s k)
        by is (Calling.member m) = inl (λ t. elim (takes_node is t) [ ])
        by is (Calling.alternative m) = inl (λ t. elim (takes_node is t) [ ])
        by is (Calling.iteration m) = inl (λ t. elim (takes_node is t) [ ])
        by is Calling.iteration_uncounted = inl (λ t. elim (takes_node is t) [ ])
        by {s = s} is (Calling.takes {b = b} lt) = none_counted s b is lt
        by is Calling.takes_uncounted = inr refl
        by is Calling.operand = inl (λ t. elim (takes_node is t) [ ])

    module _ (x : List ℕ) where
      pub origin_before : {j i : ℕ} {p : Dot} → Holds flat x j p i → i ≤ j
      origin_before (begins st) = omega arith
      origin_before (called h c st) = omega arith
      origin_before (has_read h r is lies) = let le = origin_before h in omega (arith, le)
      origin_before (returned h e g c takes) =
          let le = origin_before h in let under = origin_before g in omega (arith, le, under)

      pub return_held : {j k i s : ℕ} {p q r : Dot} → Holds flat x j p k → Ends flat p s → Holds flat x k q i
          → Calls flat q s r → Holds flat x j r i
      return_held {j} {k} {i} {s} {p} {q} {r} h e g c = by (takes_or c)
        where
          free : (r ≡ q) → (k < j) ⊎ (j ≤ k) → Holds flat x j r i
          free same (inl lt) = returned h e g c (λ t. lt)
          free same (inr le) =
              let before = origin_before h in
              let here : k ≡ j = omega (arith, le, before) in
              subst (λ v. Holds flat x v r i) here (subst (λ v. Holds flat x k v i) (sym same) g)

          by : (Takes flat q → ⊥) ⊎ (r ≡ q) → Holds flat x j r i
          by (inl never) = returned h e g c (λ t. absurd (never t))
          by (inr same) = free same (cases_lt k j)

      module _ (last : Dot → Bool) (reports : MarksLast flat last) where
        -- what was called as s in set i goes on in these dotted rules
        pub data Under : ℕ → ℕ → List Dot → Type 0 where
          bottom : Under 0 flat.start []
          frame : {i k s u : ℕ} {q r : Dot} {below : List Dot} → Holds flat x i q k → Calls flat q s r
              → EndsAs u (node_at q) → Under k u below → Under i s (r ∷ below)
          hidden : {i k s u : ℕ} {q r : Dot} {below : List Dot} → Holds flat x i q k → Calls flat q s r
              → EndsAs u (node_at q) → Under k u below → last r ≡ true → Under i s below

        pub record Stands (j : ℕ) (p : Dot) (below : List Dot) : Type 0 where
          pub origin : ℕ
          pub called_as : ℕ
          pub held : Holds flat x j p origin
          pub ends_as : EndsAs called_as (node_at p)
          pub under : Under origin called_as below

        abbrev pub IsChain : ℕ → List Dot → Type 0
        IsChain j [] = ⊥
        IsChain j (p ∷ below) = Stands j p below

        pub back_ends : {u s : ℕ} {q r : Dot} → Calls flat q s r → EndsAs u (node_at q) → EndsAs u (node_at r)
        back_ends c ea = λ p same d. ea p (same ∙ calls_node c) d

        pub hidden_end : {u s : ℕ} {q r : Dot} → Calls flat q s r → EndsAs u (node_at q) → last r ≡ true → Ends flat r u
        hidden_end {r = r} c ea is = ea r (calls_node c) (reports.done r is)

        pop_into : {i s j : ℕ} {p r : Dot} {below : List Dot} → Holds flat x j p i → Ends flat p s
            → Under i s (r ∷ below) → Stands j r below
        pop_into h e (frame {k = k} {u = u} g c ea under) = record {
          origin = k;
          called_as = u;
          held = return_held h e g c;
          ends_as = back_ends c ea;
          under = under;
        }
        pop_into h e (hidden g c ea under is) = pop_into (return_held h e g c) (hidden_end c ea is) under

        move_chain : (j : ℕ) {a b : List Dot} → Moves flat last a b → IsChain j a → IsChain j b
        move_chain j (call {s = s} c st none) g = record {
          origin = j;
          called_as = s;
          held = called g.held c st;
          ends_as = starts_end st;
          under = frame g.held c g.ends_as g.under;
        }
        move_chain j (tail_call {s = s} c st is) g = record {
          origin = j;
          called_as = s;
          held = called g.held c st;
          ends_as = starts_end st;
          under = hidden g.held c g.ends_as g.under is;
        }
        move_chain j (st.return {p = p} done) g = pop_into g.held (g.ends_as p refl done) g.under

        pub chain_under : {j : ℕ} {a : List Dot} → Reach flat last x j a → IsChain j a
        chain_under (Reach.begins st) = record {
          origin = 0;
          called_as = flat.start;
          held = begins st;
          ends_as = starts_end st;
          under = bottom;
        }
        chain_under {j} (Reach.moved h m) = move_chain j m (chain_under h)
        chain_under (Reach.has_read h r is lies) =
            let g = chain_under h in
            record {
              origin = g.origin;
              called_as = g.called_as;
              held = has_read g.held r is lies;
              ends_as = λ p same d. g.ends_as p (same ∙ reads_node r) d;
              under = g.under;
            }

        pub top_held : {j : ℕ} {p : Dot} {below : List Dot} → Reach flat last x j (p ∷ below)
            → (i : ℕ) × Holds flat x j p i
        top_held h = let g = chain_under h in (g.origin, g.held)

        pub reached_item : {j : ℕ} (a : List Dot) → Reach flat last x j a → HasItem flat x j
        reached_item [] h = absurd (chain_under h)
        reached_item (p ∷ below) h = let g = chain_under h in record { position = p; origin = g.origin; held = g.held }

        module _ (body : ℕ) (whole : slice_get flat.nodes flat.start ≡ Some (Concat (body ∷ []))) where
          whole_end : {p : Dot} {s : ℕ} → Ends flat p s → s ≡ flat.start → p ≡ at flat.start 1
          whole_end (ends {s = s} {k = k} {node = node} is d) same =
              let this : node ≡ Concat (body ∷ []) = cc (is, whole, same) in
              concat_end same (subst (λ v. IsDone v k) this d)
            where
              concat_end : {s k : ℕ} → s ≡ flat.start → IsDone (Concat (body ∷ [])) k → at s k ≡ at flat.start 1
              concat_end {s} {k} same (IsDone.concat long) =
                  let one : k ≡ 1 = long in ap (λ v. at v k) same ∙ ap (λ v. at flat.start v) one
          whole_end (name_ends {s = s} {r = r} is at_r e) same =
              absurd (let none : Some (Name r) ≡ Some (Concat (body ∷ [])) = cc (is, whole, same) in cc none)

          fall_down : {i s j : ℕ} {p : Dot} {below : List Dot} → Holds flat x j p i → Ends flat p s
              → Under i s below
              → below ≡ [] → Holds flat x j (at flat.start 1) 0
          fall_down {j = j} h e bottom none = subst (λ v. Holds flat x j v 0) (whole_end e refl) h
          fall_down h e (frame g c ea under) none = absurd (cc none)
          fall_down h e (hidden g c ea under is) none = fall_down (return_held h e g c) (hidden_end c ea is) under none

          pub accepted_holds : {j : ℕ} → Accepts flat last x j → Holds flat x j (at flat.start 1) 0
          accepted_holds a =
              let g = chain_under a.reached in fall_down g.held (g.ends_as a.position refl a.done) g.under refl

        -- what stands when the top is taken away
        abbrev pub IsPopped : ℕ → List Dot → Type 0
        IsPopped j [] = Accepts flat last x j
        IsPopped j (r ∷ below) = Reach flat last x j (r ∷ below)

        abbrev pub IsAt : ℕ → Dot → List Dot → Type 0
        IsAt j p below = Reach flat last x j (p ∷ below) ⊎ ((last p ≡ true) × IsPopped j below)

        pop_all : {j : ℕ} {p : Dot} (below : List Dot) → Reach flat last x j (p ∷ below) → IsDoneAt flat p
            → IsPopped j below
        pop_all {p = p} [] h d = record { position = p; reached = h; done = d }
        pop_all (r ∷ below) h d = Reach.moved h (st.return d)

        at_done : {j : ℕ} {p : Dot} (below : List Dot) → IsAt j p below → IsDoneAt flat p → IsPopped j below
        at_done below (inl h) d = pop_all below h d
        at_done below (inr h) d = h.1

        -- node t stands, where it begins, over these dotted rules
        abbrev pub IsBegun : ℕ → ℕ → List Dot → Type 0
        IsBegun i t below = (p : Dot) → node_at p ≡ t → IsBegin p → Reach flat last x i (p ∷ below)

        pub record Began (t : ℕ) : Type 0 where
          pub position : Dot
          pub node : node_at position ≡ t
          pub begin : IsBegin position

        pub began_so : {j i : ℕ} {p : Dot} → Holds flat x j p i → Began (node_at p)
        began_so {p = p} (begins st) = record { position = p; node = refl; begin = starts_begin st }
        began_so {p = p} (called h c st) = record { position = p; node = refl; begin = starts_begin st }
        began_so (has_read h rd is lies) = let b = began_so h in
            record { position = b.position; node = b.node ∙ sym (reads_node rd); begin = b.begin }
        began_so (returned h e g c takes) = let b = began_so g in
            record { position = b.position; node = b.node ∙ sym (calls_node c); begin = b.begin }

        pub climb_up : {j i : ℕ} {p : Dot} → Holds flat x j p i → (below : List Dot) → IsBegun i (node_at p) below
            → IsAt j p below
        climb_up {p = p} (begins st) below b = inl (b p refl (starts_begin st))
        climb_up {p = p} (called h c st) below b = inl (b p refl (starts_begin st))
        climb_up {i = i} (has_read {j = j} {q = q} {r = r} {set = set} h rd is lies) below b =
            by (climb_up h below (λ p same g. b p (same ∙ sym (reads_node rd)) g))
          where
            by : IsAt j q below → IsAt (j + 1) r below
            by (inl g) = inl (Reach.has_read g rd is lies)
            by (inr g) = absurd (reports.no_read q r set g.0 rd)
        climb_up {j = j} (returned {i = i} {k = k} {s = s} {q = q} {r = r} {p = p} h e g c takes) below b =
            from (λ v g. climb_up h v g) (climb_up g below (λ p same d. b p (same ∙ sym (calls_node c)) d))
            (bool_cases (last r))
          where
            from : ((v : List Dot) → IsBegun k (node_at p) v → IsAt j p v) → IsAt k q below
                → (last r ≡ true) ⊎ (last r ≡ false) → IsAt j r below
            from up (inr none) l = let b = began_so h in
                absurd (reports.no_call q r b.position s none.0 c (ends_start e b.position b.node b.begin))
            from up (inl a) (inl is) = inr (
              is,
              at_done below (up below
                  (λ p' same d. Reach.moved a (tail_call c (ends_start e p' same d) is))) (ends_done e),
            )
            from up (inl a) (inr is) = inl (at_done (r ∷ below) (up (r ∷ below)
                (λ p' same d. Reach.moved a (call c (ends_start e p' same d) is))) (ends_done e))

        pub record Base (i t : ℕ) : Type 0 where
          pub below : List Dot
          pub begun : IsBegun i t below

        pub base_of : {j i : ℕ} {p : Dot} → Holds flat x j p i → Base i (node_at p)
        base_of (begins st) = record { below = []; begun = λ p same d. Reach.begins (starts_start st p same d) }
        base_of (called {i = i} {j = j} {s = s} {p = p} {q = q} {r = r} h c st) =
            let b = base_of h in from b.below (climb_up h b.below b.begun) (bool_cases (last r))
          where
            from : (below : List Dot) → IsAt j q below → (last r ≡ true) ⊎ (last r ≡ false) → Base j (node_at p)
            from below (inr none) l = absurd (reports.no_call q r p s none.0 c st)
            from below (inl a) (inl is) = record {
              below = below;
              begun = λ p' same d. Reach.moved a (tail_call c (starts_start st p' same d) is);
            }
            from below (inl a) (inr is) = record {
              below = r ∷ below;
              begun = λ p' same d. Reach.moved a (call c (starts_start st p' same d) is);
            }
        base_of (has_read h rd is lies) = let b = base_of h in
            record { below = b.below; begun = λ p same d. b.begun p (same ∙ reads_node rd) d }
        base_of (returned h e g c takes) = let b = base_of g in
            record { below = b.below; begun = λ p same d. b.begun p (same ∙ calls_node c) d }

        popped_reach : {j : ℕ} (below : List Dot) → IsPopped j below → (a : List Dot) × Reach flat last x j a
        popped_reach [] h = (h.position ∷ [], h.reached)
        popped_reach (r ∷ below) h = (r ∷ below, h)

        pub item_reached : {j : ℕ} → HasItem flat x j → (a : List Dot) × Reach flat last x j a
        item_reached {j} h = let b = base_of h.held in by b.below (climb_up h.held b.below b.begun)
          where
            by : (below : List Dot) → IsAt j h.position below → (a : List Dot) × Reach flat last x j a
            by below (inl g) = (h.position ∷ below, g)
            by below (inr g) = popped_reach below g.1

        -- what reads is on top of some stack
        pub reader_reached : {j i : ℕ} {p r : Dot} {set : Set} → Holds flat x j p i → Reads flat p set r
            → (below : List Dot) × Reach flat last x j (p ∷ below)
        reader_reached {j} {i} {p} {r} {set} h rd = let b = base_of h in by b.below (climb_up h b.below b.begun)
          where
            by : (below : List Dot) → IsAt j p below → (below : List Dot) × Reach flat last x j (p ∷ below)
            by below (inl g) = (below, g)
            by below (inr g) = absurd (reports.no_read p r set g.0 rd)

        pub holds_accepted : {j : ℕ} (body : ℕ) → slice_get flat.nodes flat.start ≡ Some (Concat (body ∷ []))
            → Holds flat x j (at flat.start 1) 0 → Accepts flat last x j
        holds_accepted body whole h =
            at_done [] (climb_up h [] (λ p same d. Reach.begins (own_starts flat.start p same d)))
            (is_done whole (IsDone.concat refl))
