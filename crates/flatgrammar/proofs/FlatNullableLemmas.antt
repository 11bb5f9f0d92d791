-- Items whose origin is their own set pass no letter, and a nullable node is passed in any set.
-- Serves: judge.
use Rattle.std.proofs.Common.{◌≡◌, ℕ, Some, List, slice_get, subst, arith}
use Rattle.flatgrammar.specs.Flat.{Flat, Node, Dot, at, Begins, IsTaking, Takes, in_iterations, Starts, starts}
use Rattle.flatgrammar.specs.Flat.{name_starts, Ends, ends, name_ends, Calls, calls}
use Rattle.flatgrammar.specs.Holds.{Holds, begins, called, has_read, returned}
use Rattle.flatgrammar.specs.Nullable.{Passes, begun, stepped, Nullable, done, named}
use Rattle.flatgrammar.proofs.PositionsLemmas.{holds_origin}

module _ (flat : Flat) where
  abbrev pub PassesAt : Dot → Type 0
  PassesAt (at s k) = Passes flat.nodes flat.bodies s k

  starts_pass : {s : ℕ} {p : Dot} → Starts flat s p → PassesAt p
  starts_pass (starts is b) = begun is b
  starts_pass (name_starts is at_r st) = starts_pass st

  pub ends_null : {s : ℕ} {p : Dot} → Ends flat p s → PassesAt p → Nullable flat.nodes flat.bodies s
  ends_null (ends is d) passes = done passes is d
  ends_null (name_ends is at_r e) passes = named is at_r (ends_null e passes)

  calls_pass : {s : ℕ} {q r : Dot} → Calls flat q s r → (Takes flat q → ⊥) → PassesAt q
      → Nullable flat.nodes flat.bodies s → PassesAt r
  calls_pass (calls is c) free passes null = stepped passes is c (λ t. free (in_iterations is t)) null

  module _ (x : List ℕ) where
    -- what stands in the set where it began
    pub passes_where_begun : {i j : ℕ} {p : Dot} → Holds flat x j p i → i ≡ j → PassesAt p
    passes_where_begun (begins st) same = starts_pass st
    passes_where_begun (called h c st) same = starts_pass st
    passes_where_begun (has_read h r letter lies) same = absurd (omega (arith, holds_origin flat h, same))
    passes_where_begun (returned {i = i} {j = j} {k = k} h e g c takes) same =
        let one = holds_origin flat h in
        let two = holds_origin flat g in
        let inlined : k ≡ j = omega (arith, one, two, same) in
        let outer : i ≡ k = omega (arith, one, two, same) in
        calls_pass c (λ t. let lt = takes t in absurd (omega (arith, lt, inlined))) (passes_where_begun g outer)
        (ends_null e (passes_where_begun h inlined))

    -- from a start to an end of a node, within set j
    pub record Through (s j : ℕ) : Type 0 where
      pub from : Dot
      pub to : Dot
      pub start : Starts flat s from
      pub end : Ends flat to s
      pub run : Holds flat x j from j → Holds flat x j to j

    record Begun (s k j : ℕ) : Type 0 where
      from : ℕ
      node : Node
      is : slice_get flat.nodes s ≡ Some node
      begins : Begins node from
      run : Holds flat x j (at s from) j → Holds flat x j (at s k) j

    goes_over : {i j s : ℕ} {q r : Dot} → Calls flat q s r → (Takes flat q → ⊥) → Through s j → Holds flat x j q i
        → Holds flat x j r i
    goes_over c free t h = returned (t.run (called h c t.start)) t.end h c (λ takes. elim (free takes) [ ])

    free_at : {s k : ℕ} {node : Node} → slice_get flat.nodes s ≡ Some node → (IsTaking node → ⊥)
        → Takes flat (at s k) → ⊥
    free_at is free (in_iterations {node = node'} is' t) =
        free (let same : node' ≡ _ = cc (is, is') in subst IsTaking same t)

    mutual
      passed_begun : {s k : ℕ} → Passes flat.nodes flat.bodies s k → (j : ℕ) → Begun s k j
      passed_begun (begun {k = k} {node = node} is b) j =
          record { from = k; node = node; is = is; begins = b; run = λ h. h }
      passed_begun (stepped p is c free null) j =
          let b = passed_begun p j in
          let t = goes_through null j in
          record {
            from = b.from;
            node = b.node;
            is = b.is;
            begins = b.begins;
            run = λ h. goes_over (calls is c) (free_at is free) t (b.run h);
          }

      pub goes_through : {s : ℕ} → Nullable flat.nodes flat.bodies s → (j : ℕ) → Through s j
      goes_through (done {s = s} {k = k} p is d) j =
          let b = passed_begun p j in
          record { from = at s b.from; to = at s k; start = starts b.is b.begins; end = ends is d; run = b.run }
      goes_through (named is at_r null) j =
          let t = goes_through null j in
          record {
            from = t.from;
            to = t.to;
            start = name_starts is at_r t.start;
            end = name_ends is at_r t.end;
            run = t.run;
          }

    -- a nullable node that is called is passed at once, but by an iteration that takes a letter
    pub passes_at_once : {i j s : ℕ} {q r : Dot} → Holds flat x j q i → Calls flat q s r → (Takes flat q → ⊥)
        → Nullable flat.nodes flat.bodies s → Holds flat x j r i
    passes_at_once {j = j} h c free null = goes_over c free (goes_through null j) h
