-- Roots that items call, by the tables.
-- Serves: lower, judge.
use Rattle.std.proofs.Common.{◌≡◌, ℕ, zero, suc, ◌+◌, ◌-◌, ◌<◌, ◌≤◌, true, ◌⊎◌, inl, inr, Option, Some, None, List, []}
use Rattle.std.proofs.Common.{◌∷◌, length, map, slice_get, refl, ap, subst, arith, lt-ltb, le-leb, eq-eqb, le-ltb}
use Rattle.std.proofs.lemmas.Bool.{cases_lt}
use Rattle.flatgrammar.specs.Flat.{Node, Flat, Dot, at, Begins, IsDone, Calling, IsTaking, Starts, starts}
use Rattle.flatgrammar.specs.Flat.{name_starts, Ends, ends, name_ends, Calls, calls, Takes, in_iterations}
use Rattle.flatgrammar.specs.declared.flat_item.Item.{Item}
use Rattle.flatgrammar.specs.declared.flat_node.Node as code_node
use Rattle.flatgrammar.specs.declared.tables.Tables as code_flat
use Rattle.flatgrammar.specs.FlatViews.{node_of}
use Rattle.flatgrammar.specs.NodeSteps as meaning
use Rattle.flatgrammar.specs.NodeSteps.{flat_of, is_done, callee, takes, begin_count}
use Rattle.flatgrammar.specs.TableViews.{target_in, rooted, called_by, call_of, done_in, count_in, takes_in, takes_of}
use Rattle.flatgrammar.specs.TableViews.{GiveTargets}
use Rattle.flatgrammar.specs.ItemClosures as closures
use Rattle.flatgrammar.specs.Targets.{Target, own, named}
use Rattle.flatgrammar.proofs.NodeStepsLemmas.{callee_calling, done_is, begins_is, taking_takes, takes_taking}

pub some_same : {A : Type 0} {a b : A} → Some a ≡ Some b → a ≡ b
some_same h = cc

pub past_get : {A : Type 0} (xs : List A) (k : ℕ) → length xs ≤ k → slice_get xs k ≡ None
past_get [] k le = refl
past_get (x ∷ xs) zero le = absurd (omega (arith, le))
past_get (x ∷ xs) (suc k) le = past_get xs k (omega (arith, le))

pub equal_or : (m n : ℕ) → (m ≡ n) ⊎ (m ≡ n → ⊥)
equal_or m n = by (cases_lt m n) (cases_lt n m)
  where
    by : (m < n) ⊎ (n ≤ m) → (n < m) ⊎ (m ≤ n) → (m ≡ n) ⊎ (m ≡ n → ⊥)
    by (inl lt) other = inr (λ same. absurd (omega (arith, lt, same)))
    by (inr le) (inl lt) = inr (λ same. absurd (omega (arith, lt, same)))
    by (inr le) (inr ge) = inl (omega (arith, le, ge))

abbrev pub position_node : Dot → ℕ
position_node (at s k) = s

abbrev pub position_step : Dot → ℕ
position_step (at s k) = k

calling_late : {node : Node} {k t l : ℕ} → Calling node k t l → (l ≡ k → ⊥) → l < meaning.begin_count node → ⊥
calling_late (Calling.member is) moves lt = absurd (omega (arith, lt))
calling_late (Calling.alternative is) moves lt = absurd (omega (arith, lt))
calling_late (Calling.iteration below) moves lt = absurd (omega (arith, lt))
calling_late Calling.iteration_uncounted moves lt = moves refl
calling_late (Calling.takes below) moves lt = absurd (omega (arith, lt))
calling_late Calling.takes_uncounted moves lt = moves refl
calling_late Calling.operand moves lt = absurd (omega (arith, lt))

pub target_stands : {nodes : List Node} {bodies : List ℕ} {s t : ℕ} → Target nodes bodies s t → (node : Node)
    × (slice_get nodes t ≡ Some node)
target_stands (own {node = node} is differs) = (node, is)
target_stands (named is at_r r) = target_stands r

pub calling_callee : {node : Node} {k t l : ℕ} → Calling node k t l → callee node k ≡ Some (t, l)
calling_callee (Calling.member is) = rw is refl
calling_callee (Calling.alternative is) = rw is refl
calling_callee (Calling.iteration {a = a} {k = k} {b = None} lt) = rw (lt-ltb k a lt) refl
calling_callee (Calling.iteration {a = a} {k = k} {b = Some b} lt) = rw (lt-ltb k b lt) refl
calling_callee (Calling.iteration_uncounted {a = a}) = rw (le-ltb a a (omega arith), eq-eqb a a refl) refl
calling_callee (Calling.takes {k = k} {b = None} lt) = absurd (omega (arith, lt))
calling_callee (Calling.takes {k = k} {b = Some b} lt) = rw (lt-ltb k b lt) refl
calling_callee Calling.takes_uncounted = refl
calling_callee Calling.operand = refl

pub done_tests : {node : Node} {k : ℕ} → IsDone node k → is_done node k ≡ true
done_tests (IsDone.letters {sets = sets} {k = k} same) = eq-eqb k (length sets) same
done_tests (IsDone.concat {ms = ms} {k = k} same) = eq-eqb k (length ms) same
done_tests (IsDone.alt {ms = ms} {k = k} lt) =
    let le : length ms ≤ length ms + k = omega arith in
    let below : length ms + k - length ms < length ms = omega arith in
    rw (le-leb (length ms) (length ms + k) le, lt-ltb (length ms + k - length ms) (length ms) below) refl
done_tests (IsDone.rep {a = a} {k = k} {b = None} low high) = let same : k ≡ a = omega arith in eq-eqb k a same
done_tests (IsDone.rep {a = a} {k = k} {b = Some b} low high) = rw (le-leb a k low, le-leb k b high) refl
done_tests (IsDone.iterations {k = k} {b = None} high) = let same : k ≡ 0 = omega (arith, high) in eq-eqb k 0 same
done_tests (IsDone.iterations {k = k} {b = Some b} high) = le-leb k b high
done_tests IsDone.opt = refl
done_tests IsDone.opt_empty = refl

pub begin_below : {node : Node} {k : ℕ} → Begins node k → k < begin_count node
begin_below Begins.letters = omega arith
begin_below Begins.concat = omega arith
begin_below (Begins.alt lt) = lt
begin_below Begins.rep = omega arith
begin_below Begins.iterations = omega arith
begin_below Begins.opt = omega arith
begin_below Begins.opt_empty = omega arith

pub record Unmapped {A B : Type 0} (f : A → B) (xs : List A) (k : ℕ) (y : B) : Type 0 where
  pub from : A
  pub at : slice_get xs k ≡ Some from
  pub is : f from ≡ y

pub get_unmap : {A B : Type 0} (f : A → B) (xs : List A) (k : ℕ) (y : B) → slice_get (map f xs) k ≡ Some y
    → Unmapped f xs k y
get_unmap f [] k y h = absurd cc
get_unmap f (x ∷ xs) zero y h = let same : f x ≡ y = cc in record { from = x; at = refl; is = same }
get_unmap f (x ∷ xs) (suc k) y h = let u = get_unmap f xs k y h in record { from = u.from; at = u.at; is = u.is }

pub get_below : {A : Type 0} (xs : List A) (k : ℕ) {y : A} → slice_get xs k ≡ Some y → k < length xs
get_below [] k is = absurd cc
get_below (x ∷ xs) zero is = omega arith
get_below (x ∷ xs) (suc k) is = omega (arith, get_below xs k is)

pub get_map : {A B : Type 0} (f : A → B) (xs : List A) (k : ℕ) {y : A} → slice_get xs k ≡ Some y
    → slice_get (map f xs) k ≡ Some (f y)
get_map f [] k is = absurd cc
get_map f (x ∷ xs) zero {y = y} is = let same : x ≡ y = cc in ap (λ v. Some (f v)) same
get_map f (x ∷ xs) (suc k) is = get_map f xs k is

pub below_get : {A : Type 0} (xs : List A) (k : ℕ) → slice_get xs k ≡ None → length xs ≤ k
below_get [] k is = omega arith
below_get (x ∷ xs) zero is = absurd cc
below_get (x ∷ xs) (suc k) is = let le = below_get xs k is in omega (arith, le)

starts_at_target : {flat : Flat} {s t k : ℕ} {node : Node} → Target flat.nodes flat.bodies s t
    → slice_get flat.nodes t ≡ Some node → Begins node k → Starts flat s (at t k)
starts_at_target (own is differs) at_t b = starts at_t b
starts_at_target (named is at_r target) at_t b = name_starts is at_r (starts_at_target target at_t b)

ends_at_target : {flat : Flat} {s t k : ℕ} {node : Node} → Target flat.nodes flat.bodies s t
    → slice_get flat.nodes t ≡ Some node → IsDone node k → Ends flat (at t k) s
ends_at_target (own is differs) at_t d = ends at_t d
ends_at_target (named is at_r target) at_t d = name_ends is at_r (ends_at_target target at_t d)

-- the two words for an iteration that takes a letter
takes_by : (nodes : List code_node.Node) (n : ℕ) (o : Option code_node.Node) {node : Node} → slice_get nodes n ≡ o
    → slice_get (map node_of nodes) n ≡ Some node → IsTaking node → takes_in o ≡ true
takes_by nodes n None is at_n t = absurd (past nodes n is at_n)
  where
    past : (nodes : List code_node.Node) (n : ℕ) {node : Node} → slice_get nodes n ≡ None
        → slice_get (map node_of nodes) n ≡ Some node → ⊥
    past [] n is at_n = absurd (cc at_n)
    past (x ∷ nodes) zero is at_n = absurd (cc is)
    past (x ∷ nodes) (suc n) is at_n = past nodes n is at_n
takes_by nodes n (Some c) {node = node} is at_n t =
    let same : node ≡ node_of c = cc (at_n, get_map node_of nodes n is) in
    subst (λ v. takes v ≡ true) same (taking_takes t)

pub takes_true : (flat : code_flat.Tables) (n k i : ℕ) → Takes (flat_of flat) (at n k)
    → takes_of flat (record { node = n; step = k; origin = i }) ≡ true
takes_true flat n k i (in_iterations is t) = takes_by flat.nodes.items n (slice_get flat.nodes.items n) refl is t

true_by : (nodes : List code_node.Node) (bodies : List ℕ) (whole limit n k : ℕ) (o : Option code_node.Node)
    → slice_get nodes n ≡ o → takes_in o ≡ true →
    Takes (record { nodes = map node_of nodes; bodies = bodies; start = whole; limit = limit }) (at n k)
true_by nodes bodies whole limit n k None is h = absurd cc
true_by nodes bodies whole limit n k (Some c) is h = in_iterations (get_map node_of nodes n is)
    (takes_taking (node_of c) h)

pub true_takes : (flat : code_flat.Tables) (n k i : ℕ) → takes_of flat (record { node = n; step = k; origin = i })
    ≡ true → Takes (flat_of flat) (at n k)
true_takes flat n k i h = true_by flat.nodes.items flat.bodies.items flat.start flat.limit n k
    (slice_get flat.nodes.items n) refl h

module _ (flat : code_flat.Tables) (targets : GiveTargets (flat_of flat) flat.targets.items) where
  -- the node that a dotted rule calls, with its target
  pub record Called (a : Item) (target next : ℕ) : Type 0 where
    pub callee : ℕ
    pub calls : Calls (flat_of flat) (at a.node a.step) callee (at a.node next)
    pub rooted : Target (flat_of flat).nodes (flat_of flat).bodies callee target

  rooted_called : (a : Item) (s l target next : ℕ) (o : Option (Option ℕ)) → slice_get flat.targets.items s ≡ o
      → target_in o l ≡ Some (target, next) →
      Calls (flat_of flat) (at a.node a.step) s (at a.node l) → Called a target next
  rooted_called a s l target next None is h c = absurd cc
  rooted_called a s l target next (Some None) is h c = absurd cc
  rooted_called a s l target next (Some (Some r)) is h c =
      let pair = pair_same h in
      let r_is : r ≡ target = ap (λ v. v.0) pair in
      let l_is : l ≡ next = ap (λ v. v.1) pair in
      record {
        callee = s;
        calls = subst (λ v. Calls (flat_of flat) (at a.node a.step) s (at a.node v)) l_is c;
        rooted = subst (λ v. Target (flat_of flat).nodes (flat_of flat).bodies s v) r_is ((targets s r).0 is);
      }
    where
      pair_same : {a b : ℕ × ℕ} → Some a ≡ Some b → a ≡ b
      pair_same h = cc

  callee_called : (a : Item) (node : code_node.Node) (target next : ℕ) (o : Option (ℕ × ℕ))
      → slice_get flat.nodes.items a.node ≡ Some node → callee (node_of node) a.step ≡ o →
      rooted flat.targets.items o ≡ Some (target, next) → Called a target next
  callee_called a node target next None at_a is h = absurd cc
  callee_called a node target next (Some (s, l)) at_a is h =
      rooted_called a s l target next (slice_get flat.targets.items s) refl h
      (calls (get_map node_of flat.nodes.items a.node at_a) (callee_calling (node_of node) a.step s l is))

  node_called : (a : Item) (target next : ℕ) (o : Option code_node.Node) → slice_get flat.nodes.items a.node ≡ o
      → called_by flat.targets.items o a.step ≡ Some (target, next) → Called a target next
  node_called a target next None is h = absurd cc
  node_called a target next (Some node) is h = callee_called a node target next (callee (node_of node) a.step) is refl h

  pub called_of : (a : Item) (target next : ℕ) → call_of flat a ≡ Some (target, next) → Called a target next
  called_of a target next h = node_called a target next (slice_get flat.nodes.items a.node) refl h

  pub begun_starts : (target k s : ℕ) (o : Option code_node.Node) → slice_get flat.nodes.items target ≡ o
      → k < count_in o
      → Target (flat_of flat).nodes (flat_of flat).bodies s target → Starts (flat_of flat) s (at target k)
  begun_starts target k s None is lt r = absurd (omega arith)
  begun_starts target k s (Some node) is lt r = starts_at_target r (get_map node_of flat.nodes.items target is)
      (begins_is (node_of node) k lt)

  pub done_ends : (t k s : ℕ) (o : Option code_node.Node) → slice_get flat.nodes.items t ≡ o → done_in o k ≡ true
      → Target (flat_of flat).nodes (flat_of flat).bodies s t → Ends (flat_of flat) (at t k) s
  done_ends t k s None is h r = absurd cc
  done_ends t k s (Some node) is h r = ends_at_target r (get_map node_of flat.nodes.items t is)
      (done_is (node_of node) k h)

module _ (flat : code_flat.Tables) where
  pub calls_late : {s : ℕ} {q r : Dot} → Calls (flat_of flat) q s r → (position_step r ≡ position_step q → ⊥)
      → position_step r < closures.begin_count flat (position_node q) → ⊥
  calls_late (calls {s = s} {l = l} {node = node} is c) moves lt =
      let u = get_unmap node_of flat.nodes.items s node is in
      calling_late c moves (subst (λ v. l < meaning.begin_count v) u.is (subst (λ v. l < count_in v) u.at lt))
