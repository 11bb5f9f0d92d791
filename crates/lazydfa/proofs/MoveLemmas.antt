-- What the tables hold are the moves of stacks.
-- Serves: judge.
use Rattle.std.proofs.Common.{◌≡◌, ℕ, ◌<◌, Bool, true, false, List, [], ◌∷◌, refl, sym, ◌∙◌, ap}
use Rattle.std.proofs.Common.{subst, ◌⊎◌, inl, inr}
use Rattle.std.specs.Prelude.{slice_get, Option, Some, None}
use Rattle.flatgrammar.specs.Flat.{Node, Name, Flat, Dot, at, Set, Begins, Reading, Calling, Starts, starts}
use Rattle.flatgrammar.specs.Flat.{name_starts}
use Rattle.flatgrammar.specs.Flat.{Reads, reads, Calls, calls}
use Rattle.flatgrammar.specs.ItemClosures as closures
use Rattle.flatgrammar.specs.ItemClosures.{item_at, dot}
use Rattle.flatgrammar.specs.declared.tables.Tables as code_flat
use Rattle.flatgrammar.specs.declared.flat_node.Node as code_node
use Rattle.flatgrammar.specs.FlatViews.{node_of}
use Rattle.flatgrammar.specs.NodeSteps as node_steps
use Rattle.flatgrammar.specs.NodeSteps.{flat_of, begin_count, callee, read_at}
use Rattle.flatgrammar.specs.TableViews.{target_in, rooted, called_by, call_of, done_in, done_of, read_in, read_of}
use Rattle.flatgrammar.specs.TableViews.{GiveTargets}
use Rattle.flatgrammar.specs.Targets.{Target, own, named}
use Rattle.flatgrammar.proofs.CallOfLemmas.{done_tests, calling_callee, begin_below, get_unmap, get_map, called_of}
use Rattle.flatgrammar.proofs.CallOfLemmas.{begun_starts}
use Rattle.flatgrammar.proofs.NodeStepsLemmas.{done_is}
use Rattle.flatgrammar.specs.Stacks as st
use Rattle.flatgrammar.specs.Stacks.{
  IsDoneAt,
  is_done,
  MarksLast,
  Moves,
  call,
  tail_call,
  Led,
  led,
  moves,
  LedToEnd,
}
use Rattle.lazydfa.specs.Conts.{Begun, last_by, last_of, after, Goes, GoesOn, here, on}

record StartsAt (flat : Flat) (s : ℕ) (p : Dot) : Type 0 where
  target : ℕ
  step : ℕ
  node : Node
  position : p ≡ at target step
  rooted : Target flat.nodes flat.bodies s target
  stands : slice_get flat.nodes target ≡ Some node
  begun : Begins node step

starts_at : {flat : Flat} {s : ℕ} {p : Dot} → Starts flat s p → StartsAt flat s p
starts_at (starts {s = s} {k = k} {node = node} is b) = record {
  target = s;
  step = k;
  node = node;
  position = refl;
  rooted = own is (λ r same. none k r (subst (λ v. Begins v k) same b));
  stands = is;
  begun = b;
}
  where
    none : (k r : ℕ) → Begins (Name r) k → ⊥
    none k r d = elim d [ ]
starts_at (name_starts is at_r e) = let h = starts_at e in
    record {
      target = h.target;
      step = h.step;
      node = h.node;
      position = h.position;
      rooted = named is at_r h.rooted;
      stands = h.stands;
      begun = h.begun;
    }

pub last_suffixes : (called : Option (ℕ × ℕ)) (done : Bool) (set : Option Set) → last_by called done set ≡ true
    → (called ≡ None) × (done ≡ true) × (set ≡ None)
last_suffixes None true None h = (refl, refl, refl)
last_suffixes None true (Some set) h = absurd (cc h)
last_suffixes None false set h = absurd (cc h)
last_suffixes (Some called) done set h = absurd (cc h)

bool_cases : (b : Bool) → (b ≡ true) ⊎ (b ≡ false)
bool_cases true = inl refl
bool_cases false = inr refl

module _ (tables : code_flat.Tables) (targets : GiveTargets (flat_of tables) tables.targets.items) where
  call_is : (n k : ℕ) {t l target : ℕ} {node : Node} → slice_get (flat_of tables).nodes n ≡ Some node
      → Calling node k t l
      → Target (flat_of tables).nodes (flat_of tables).bodies t target
      → call_of tables (item_at 0 (dot n k)) ≡ Some (target, l)
  call_is n k {t = t} {l = l} {target = target} {node = node} is c r =
      let u = get_unmap node_of tables.nodes.items n node is in
      let called_is : callee (node_of u.from) k ≡ Some (t, l) = ap (λ v. callee v k) u.is ∙ calling_callee c in
      ap (λ o. called_by tables.targets.items o k) u.at
      ∙ (ap (λ o. rooted tables.targets.items o) called_is ∙ ap (λ o. target_in o l) ((targets t target).1 r))

  begins_below : {s : ℕ} {p : Dot} (b : StartsAt (flat_of tables) s p) → b.step < closures.begin_count tables b.target
  begins_below b =
      let u = get_unmap node_of tables.nodes.items b.target b.node b.stands in
      rw u.at (subst (λ v. b.step < begin_count v) (sym u.is) (begin_below b.begun))

  pub done_reported : {n k : ℕ} → IsDoneAt (flat_of tables) (at n k) → done_of tables (item_at 0 (dot n k)) ≡ true
  done_reported (is_done {s = n} {k = k} {node = node} is d) =
      let u = get_unmap node_of tables.nodes.items n node is in
      ap (λ v. done_in v k) u.at ∙ (ap (λ v. node_steps.is_done v k) u.is ∙ done_tests d)

  pub reported_done : (n k : ℕ) (o : Option code_node.Node) → slice_get tables.nodes.items n ≡ o → done_in o k ≡ true
      → IsDoneAt (flat_of tables) (at n k)
  reported_done n k None is h = absurd (cc h)
  reported_done n k (Some c) is h = is_done (get_map node_of tables.nodes.items n is) (done_is (node_of c) k h)

  pub marks_last : MarksLast (flat_of tables) (last_of tables)
  marks_last = record {
    done = λ p h. by p h;
    no_read = λ p r set h rd. not_read p rd h;
    no_call = λ p r start s h c begin. not_called p c begin h;
  }
    where
      by : (p : Dot) → last_of tables p ≡ true → IsDoneAt (flat_of tables) p
      by (at n k) h = reported_done n k (slice_get tables.nodes.items n) refl (last_suffixes _ _ _ h).1

      not_read : (p : Dot) {r : Dot} {set : Set} → Reads (flat_of tables) p set r → last_of tables p ≡ true → ⊥
      not_read p (reads {s = n} {k = k} {set = set} {node = node} is (Reading.letter there)) h =
          let u = get_unmap node_of tables.nodes.items n node is in
          let some : read_of tables (item_at 0 (dot n k)) ≡ Some set =
          ap (λ v. read_in v k) u.at ∙ (ap (λ v. read_at v k) u.is ∙ there) in
          absurd (let none = (last_suffixes _ _ _ h).2 in cc (none, some))

      not_called : (p : Dot) {r start : Dot} {s : ℕ} → Calls (flat_of tables) p s r
          → Starts (flat_of tables) s start
          → last_of tables p ≡ true → ⊥
      not_called p (calls {s = n} {k = k} is c) begin h =
          let some = call_is n k is c (starts_at begin).rooted in
          absurd (let none = (last_suffixes _ _ _ h).0 in cc (none, some))

  pub to_goes : {a b : List Dot} → Moves (flat_of tables) (last_of tables) a b → Goes tables a b
  to_goes (call {below = below} (calls {s = n} {k = k} {l = l} is c) start other) =
      let b = starts_at start in
      inl (record {
        target = b.target;
        next = l;
        called = call_is n k is c b.rooted;
        begun = record {
          step = b.step;
          begins = begins_below b;
          is = rw other (ap (λ v. v ∷ at n l ∷ below) b.position);
        };
      })
  to_goes (tail_call {below = below} (calls {s = n} {k = k} {l = l} is c) start other) =
      let b = starts_at start in
      inl (record {
        target = b.target;
        next = l;
        called = call_is n k is c b.rooted;
        begun = record {
          step = b.step;
          begins = begins_below b;
          is = rw other (ap (λ v. v ∷ below) b.position);
        };
      })
  to_goes (st.return {p = p} {r = r} {below = below} d) = ends p r below d
    where
      ends : (p r : Dot) (below : List Dot) → IsDoneAt (flat_of tables) p → Goes tables (p ∷ r ∷ below) (r ∷ below)
      ends (at n k) r below d = inr (done_reported d, refl, λ none. cc none)

  pub from_goes : (a : List Dot) {b : List Dot} → Goes tables a b → Moves (flat_of tables) (last_of tables) a b
  from_goes [] g = absurd g
  from_goes (at n k ∷ below) {b} (inl m) =
      let c = called_of tables targets (item_at 0 (dot n k)) m.target m.next m.called in
      let s = begun_starts tables targets m.target m.begun.step c.callee (slice_get tables.nodes.items m.target) refl
      m.begun.begins c.rooted in
      subst (λ v. Moves (flat_of tables) (last_of tables) (at n k ∷ below) v) (sym m.begun.is)
      (by c.calls s (bool_cases (last_of tables (at n m.next))))
    where
      by : {s target step next : ℕ} → Calls (flat_of tables) (at n k) s (at n next)
          → Starts (flat_of tables) s (at target step)
          → (last_of tables (at n next) ≡ true) ⊎ (last_of tables (at n next) ≡ false)
          → Moves (flat_of tables) (last_of tables) (at n k ∷ below) (at target step ∷ after tables n next below)
      by c s (inl is) = rw is (tail_call c s is)
      by c s (inr is) = rw is (call c s is)
  from_goes (at n k ∷ below) (inr e) = by below e.1 e.2
    where
      done : IsDoneAt (flat_of tables) (at n k)
      done = reported_done n k (slice_get tables.nodes.items n) refl e.0

      by : {b : List Dot} (below : List Dot) → b ≡ below → (below ≡ [] → ⊥)
          → Moves (flat_of tables) (last_of tables) (at n k ∷ below) b
      by [] same some = absurd (some refl)
      by (r ∷ below) same some =
          subst (λ v. Moves (flat_of tables) (last_of tables) (at n k ∷ r ∷ below) v) (sym same) (st.return done)

  pub to_led : {from : List Dot → Type 0} {a : List Dot} → GoesOn tables from a
      → Led (flat_of tables) (last_of tables) from a
  to_led (here h) = led h
  to_led (on {stack = stack} h g) = moves (to_led h) (from_goes stack g)

  pub from_led : {from : List Dot → Type 0} {a : List Dot} → Led (flat_of tables) (last_of tables) from a
      → GoesOn tables from a
  from_led (led h) = here h
  from_led (moves h m) = on (from_led h) (to_goes m)

  pub whole_begun : {s : ℕ} {p : Dot} → Starts (flat_of tables) s p → (target : ℕ)
      × (slice_get tables.targets.items s ≡ Some (Some target))
      × Begun target (closures.begin_count tables target) [] (p ∷ [])
  whole_begun {s} start =
      let b = starts_at start in (
        b.target,
        (targets s b.target).1 b.rooted,
        record {
          step = b.step;
          begins = begins_below b;
          is = ap (λ v. v ∷ []) b.position;
        },
      )
