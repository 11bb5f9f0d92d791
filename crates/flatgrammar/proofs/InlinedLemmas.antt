-- Nodes that one dotted rule alone calls.
-- Serves: lower, judge.
use Rattle.std.proofs.Common.{◌≡◌, ℕ, zero, suc, ◌+◌, ◌<◌, ◌≤◌, ◌⊎◌, inl, inr, Option, Some, None, List, [], ◌∷◌}
use Rattle.std.proofs.Common.{length, set, slice_get, slice_index_or, IfSome, ltb, eqb, eqb-true, Bool, true, false}
use Rattle.std.proofs.Common.{if◌then◌else◌, refl, sym, ◌∙◌, ap, subst, arith}
use Rattle.std.proofs.lemmas.Bool.{cases_lt}
use Rattle.flatgrammar.specs.Flat.{Node, Letters, Concat, Alt, Rep, Iterations, Opt, Name, Nothing}
use Rattle.flatgrammar.specs.FlatViews.{node_of}
use Rattle.flatgrammar.specs.NodeSteps.{callee, call_count, turned, with_next}
use Rattle.flatgrammar.specs.declared.callers.Caller.{Caller}
use Rattle.flatgrammar.specs.declared.flat_node.Node as code_node
use Rattle.flatgrammar.specs.declared.inlined.Inlined.{Inlined}
use Rattle.flatgrammar.specs.declared.tables.Tables as code_flat
use Rattle.flatgrammar.specs.TableViews.{target_in, rooted, called_by}
use Rattle.flatgrammar.specs.ItemClosures.{dot, inlined_in, call_at}
use Rattle.flatgrammar.specs.Inlines.{allows, allows_in, AreCallers, inlined_at, IsInlined, AreInlines}
use Rattle.flatgrammar.specs.ItemClosures.{owner_or}
use Rattle.flatgrammar.proofs.CallOfLemmas.{some_same, equal_or, get_below}

-- what a step calls, by its number or as an iteration
callee_cases : (node : Node) (k s l : ℕ) → callee node k ≡ Some (s, l) → (k < call_count node) ⊎ (turned node ≡ Some s)
callee_cases (Letters sets) k s l is = absurd cc
callee_cases (Concat ms) k s l is = by (slice_get ms k) refl is
  where
    by : (o : Option ℕ) → slice_get ms k ≡ o → with_next o (k + 1) ≡ Some (s, l) → (k < length ms)
        ⊎ (turned (Concat ms) ≡ Some s)
    by None at h = absurd cc
    by (Some m) at h = inl (get_below ms k at)
callee_cases (Alt ms) k s l is = by (slice_get ms k) refl is
  where
    by : (o : Option ℕ) → slice_get ms k ≡ o → with_next o (length ms + k) ≡ Some (s, l) → (k < length ms)
        ⊎ (turned (Alt ms) ≡ Some s)
    by None at h = absurd cc
    by (Some m) at h = inl (get_below ms k at)
callee_cases (Rep a None m) k s l is = inr (by (ltb k a) (eqb k a) is)
  where
    by : (c d : Bool) → if◌then◌else◌ {A = Option (ℕ × ℕ)} c (Some (m, k + 1))
        (if◌then◌else◌ {A = Option (ℕ × ℕ)} d (Some (m, a)) None) ≡ Some (s, l) → Some m ≡ Some s
    by true d h = ap (λ v. Some v) (ap (λ v. v.0) (some_same h))
    by false true h = ap (λ v. Some v) (ap (λ v. v.0) (some_same h))
    by false false h = absurd cc
callee_cases (Rep a (Some b) m) k s l is = inr (by (ltb k b) is)
  where
    by : (c : Bool) → if◌then◌else◌ {A = Option (ℕ × ℕ)} c (Some (m, k + 1)) None ≡ Some (s, l) → Some m ≡ Some s
    by true h = ap (λ v. Some v) (ap (λ v. v.0) (some_same h))
    by false h = absurd cc
callee_cases (Iterations None m) k s l is = inr (by (eqb k 0) is)
  where
    by : (c : Bool) → if◌then◌else◌ {A = Option (ℕ × ℕ)} c (Some (m, 0)) None ≡ Some (s, l) → Some m ≡ Some s
    by true h = ap (λ v. Some v) (ap (λ v. v.0) (some_same h))
    by false h = absurd cc
callee_cases (Iterations (Some b) m) k s l is = inr (by (ltb k b) is)
  where
    by : (c : Bool) → if◌then◌else◌ {A = Option (ℕ × ℕ)} c (Some (m, k + 1)) None ≡ Some (s, l) → Some m ≡ Some s
    by true h = ap (λ v. Some v) (ap (λ v. v.0) (some_same h))
    by false h = absurd cc
callee_cases (Opt m) k s l is = inl (by (eqb k 0) refl is)
  where
    by : (c : Bool) → eqb k 0 ≡ c → if◌then◌else◌ {A = Option (ℕ × ℕ)} c (Some (m, 2)) None ≡ Some (s, l) → k < 1
    by true same h = let z = eqb-true k 0 same in omega (arith, z)
    by false same h = absurd cc
callee_cases (Name r) k s l is = absurd cc
callee_cases Nothing k s l is = absurd cc

-- what a dotted rule calls is the target of a first step's member, or of the operand of iterations
pub called_cases : (flat : code_flat.Tables) (node : code_node.Node) (n k t l : ℕ) → slice_get flat.nodes.items n
    ≡ Some node → call_at flat (dot n k) ≡ Some (t, l) →
    (k < call_count (node_of node)) ⊎ ((m : ℕ) × (turned (node_of node) ≡ Some m)
    × (target_in (slice_get flat.targets.items m) l ≡ Some (t, l)))
called_cases flat node n k t l at call =
    by (callee (node_of node) k) refl (subst (λ v. called_by flat.targets.items v k ≡ Some (t, l)) at call)
  where
    next : (o : Option (Option ℕ)) (m : ℕ) → target_in o m ≡ Some (t, l) → target_in o l ≡ Some (t, l)
    next None m h = absurd cc
    next (Some None) m h = absurd cc
    next (Some (Some r)) m h = ap (λ v. Some (v, l)) (ap (λ v. v.0) (some_same h))

    or : (s m : ℕ) → target_in (slice_get flat.targets.items s) m ≡ Some (t, l) → (k < call_count (node_of node))
        ⊎ (turned (node_of node) ≡ Some s) →
        (k < call_count (node_of node)) ⊎ ((m : ℕ) × (turned (node_of node) ≡ Some m)
        × (target_in (slice_get flat.targets.items m) l ≡ Some (t, l)))
    or s m h (inl lt) = inl lt
    or s m h (inr is) = inr (s, is, next (slice_get flat.targets.items s) m h)

    by : (o : Option (ℕ × ℕ)) → callee (node_of node) k ≡ o → rooted flat.targets.items o ≡ Some (t, l) →
        (k < call_count (node_of node)) ⊎ ((m : ℕ) × (turned (node_of node) ≡ Some m)
        × (target_in (slice_get flat.targets.items m) l ≡ Some (t, l)))
    by None is h = absurd cc
    by (Some (s, m)) is h = or s m h (callee_cases (node_of node) k s m is)

-- a node that is not there calls nothing
pub none_called : (flat : code_flat.Tables) (n k t l : ℕ) → slice_get flat.nodes.items n ≡ None
    → call_at flat (dot n k) ≡ Some (t, l) → ⊥
none_called flat n k t l at call = never (subst (λ v. called_by flat.targets.items v k ≡ Some (t, l)) at call)
  where
    never : ◌≡◌ {A = Option (ℕ × ℕ)} None (Some (t, l)) → ⊥
    never h = absurd cc

-- the value at an index
pub read_at : {A : Type 0} (xs : List A) (k : ℕ) (v : A) → k < length xs → v ≡ slice_index_or xs k v
    → slice_get xs k ≡ Some v
read_at [] k v lt is = absurd (omega (arith, lt))
read_at (x ∷ xs) zero v lt is = ap (λ w. Some w) (sym is)
read_at (x ∷ xs) (suc k) v lt is = read_at xs k v (let less : k < length xs = omega (arith, lt) in less) is

pub allowed_at : (flat : code_flat.Tables) (callers : List Caller) (t : ℕ) (caller : Caller) → AreCallers flat callers
    → t < length callers → caller ≡ slice_index_or callers t caller →
    (n k l : ℕ) → call_at flat (dot n k) ≡ Some (t, l) → allows caller n k
allowed_at flat callers t caller are lt is n k l call = subst (λ v. allows_in v n k) (read_at callers t caller lt is)
    (are n k t l call)

pub set_same : {A : Type 0} (xs : List A) (i : ℕ) (v : A) → i < length xs → slice_get (set xs i v) i ≡ Some v
set_same [] i v lt = absurd (omega (arith, lt))
set_same (x ∷ xs) zero v lt = refl
set_same (x ∷ xs) (suc i) v lt = set_same xs i v (let less : i < length xs = omega (arith, lt) in less)

pub set_other : {A : Type 0} (xs : List A) (i j : ℕ) (v : A) → (j ≡ i → ⊥) → slice_get (set xs i v) j ≡ slice_get xs j
set_other [] i j v other = refl
set_other (x ∷ xs) zero zero v other = absurd (other refl)
set_other (x ∷ xs) zero (suc j) v other = refl
set_other (x ∷ xs) (suc i) zero v other = refl
set_other (x ∷ xs) (suc i) (suc j) v other = set_other xs i j v (λ same. other (ap suc same))

module _ (flat : code_flat.Tables) (inlines : List (Option Inlined)) (n : ℕ) (inlined : Option Inlined)
    (lt : n < length inlines) where
  -- what is said of a node looks only at nodes above
  inlined_set : (t : ℕ) (i : Inlined) → n ≤ t → IsInlined flat inlines t i → IsInlined flat (set inlines n inlined) t i
  inlined_set t i le is =
      let up = is.above in
      record {
        above = is.above;
        within = is.within;
        begins = is.begins;
        call = is.call;
        moves = is.moves;
        whole = is.whole;
        only = is.only;
        owner = is.owner ∙ sym (ap (λ v. owner_or (inlined_in v) i.node)
            (set_other inlines n i.node inlined (λ same. absurd (omega (arith, same, up, le)))));
      }

  pub inlines_set : (m : ℕ) → m ≡ n + 1 → ((t : ℕ) → t < m → inlined_at inlines t ≡ None) → AreInlines flat inlines
      → IfSome inlined (λ i. IsInlined flat inlines n i) →
      AreInlines flat (set inlines n inlined)
  inlines_set m m_is low are here t i is = by (equal_or t n)
    where
      high : (t < m) ⊎ (m ≤ t) → inlined_at inlines t ≡ Some i → n ≤ t
      high (inl less) at = absurd (none_some (sym (low t less) ∙ at))
        where
          none_some : ◌≡◌ {A = Option Inlined} None (Some i) → ⊥
          none_some h = absurd cc
      high (inr le) at = omega (arith, le, m_is)

      by : (t ≡ n) ⊎ (t ≡ n → ⊥) → IsInlined flat (set inlines n inlined) t i
      by (inl same) =
          let at : inlined ≡ Some i = ap (λ v. inlined_in v) (sym (set_same inlines n inlined lt))
          ∙ (ap (λ v. inlined_at (set inlines n inlined) v) (sym same) ∙ is) in
          subst (λ v. IsInlined flat (set inlines n inlined) v i) (sym same)
          (inlined_set n i (omega arith) (subst (λ v. IfSome v (λ j. IsInlined flat inlines n j)) at here))
      by (inr other) =
          let at : inlined_at inlines t ≡ Some i = ap (λ v. inlined_in v) (sym (set_other inlines n t inlined other))
          ∙ is in
          inlined_set t i (high (cases_lt t m) at) (are t i at)

  pub low_set : (m : ℕ) → m ≡ n + 1 → ((t : ℕ) → t < m → inlined_at inlines t ≡ None) → (t : ℕ) → t < n
      → inlined_at (set inlines n inlined) t ≡ None
  low_set m m_is low t less = ap (λ v. inlined_in v)
      (set_other inlines n t inlined (λ same. absurd (omega (arith, same, less)))) ∙ low t (omega (arith, less, m_is))
