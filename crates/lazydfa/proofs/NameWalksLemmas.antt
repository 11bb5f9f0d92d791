-- Walks by the tables are those of stacks, and how they come about.
-- Serves: awaited.
use Rattle.std.proofs.Common.{◌≡◌, ◌⊎◌, inl, inr, ℕ, ◌<◌, Bool, true, false, List, [], ◌∷◌, refl, sym, ◌∙◌, ap, subst}
use Rattle.std.proofs.Common.{arith}
use Rattle.std.specs.Prelude.{slice_get, Option, Some, None}
use Rattle.flatgrammar.specs.Flat.{Dot, at, Starts, starts, name_starts, Calls}
use Rattle.flatgrammar.specs.FlatViews.{node_of}
use Rattle.flatgrammar.specs.ItemClosures as closures
use Rattle.flatgrammar.specs.ItemClosures.{item_at, dot}
use Rattle.flatgrammar.specs.NodeSteps.{flat_of, begin_count}
use Rattle.flatgrammar.specs.Nullable.{Nullable}
use Rattle.flatgrammar.specs.OldItems as old
use Rattle.flatgrammar.specs.OldItems.{IsNameNode, Walks}
use Rattle.flatgrammar.specs.Stacks.{IsDoneAt}
use Rattle.flatgrammar.specs.TableViews.{AreNulls, GiveTargets, callee_of, count_in, name_of, null_in, null_of}
use Rattle.flatgrammar.specs.declared.flat_node.Node as code_node
use Rattle.flatgrammar.specs.declared.tables.Tables as code_flat
use Rattle.flatgrammar.proofs.CallOfLemmas.{begin_below, get_map, get_unmap}
use Rattle.flatgrammar.proofs.NodeStepsLemmas.{begins_is}
use Rattle.flatgrammar.proofs.CalledPartsLemmas.{callee_calls, calls_callee, named_node, no_name, node_named, not_named}
use Rattle.lazydfa.specs.declared.conts.Cont.{Cont}
use Rattle.lazydfa.specs.Conts.{after, last_of, Adds, AreKept, Begun, IsAdded, IsIdOf, LedBy, here, on}
use Rattle.lazydfa.specs.NameWalks.{WalkCalls, enters, passes, WalkGoes}
use Rattle.lazydfa.proofs.ContsLemmas.{adds_as, adds_none, adds_one}
use Rattle.lazydfa.proofs.MoveLemmas.{done_reported, reported_done}

bool_cases : (b : Bool) → (b ≡ true) ⊎ (b ≡ false)
bool_cases true = inl refl
bool_cases false = inr refl

pair_same : {a b : ℕ × ℕ} → Some a ≡ Some b → a ≡ b
pair_same h = cc

module _ (tables : code_flat.Tables) where
  begun_start : (s step : ℕ) → step < closures.begin_count tables s → Starts (flat_of tables) s (at s step)
  begun_start s step lt = by (slice_get tables.nodes.items s) refl
    where
      by : (o : Option code_node.Node) → slice_get tables.nodes.items s ≡ o → Starts (flat_of tables) s (at s step)
      by None is =
          let none : closures.begin_count tables s ≡ 0 = ap (λ v. count_in v) is in absurd (omega (arith, lt, none))
      by (Some node) is =
          let count : closures.begin_count tables s ≡ begin_count (node_of node) = ap (λ v. count_in v) is in
          starts (get_map node_of tables.nodes.items s is)
          (begins_is (node_of node) step (omega (arith, lt, count)))

  record BegunAt (s : ℕ) (p : Dot) : Type 0 where
    step : ℕ
    position : p ≡ at s step
    begins : step < closures.begin_count tables s

  start_begun : {s : ℕ} {p : Dot} → Starts (flat_of tables) s p → (IsNameNode (flat_of tables) s → ⊥) → BegunAt s p
  start_begun (starts {s = s} {k = k} {node = node} is b) other =
      let u = get_unmap node_of tables.nodes.items s node is in
      let count : closures.begin_count tables s ≡ begin_count node =
      ap (λ v. count_in v) u.at ∙ ap (λ v. begin_count v) u.is in
      let lt = begin_below b in
      record { step = k; position = refl; begins = omega (arith, lt, count) }
  start_begun (name_starts {r = r} is at_r st) other = absurd (other (r, is))

  module _ (targets : GiveTargets (flat_of tables) tables.targets.items)
      (nulls : AreNulls (flat_of tables) tables.nulls.items) where
    null_there : (s : ℕ) → null_of tables s ≡ true → Nullable (flat_of tables).nodes (flat_of tables).bodies s
    null_there s h = by (slice_get tables.nulls.items s) refl
      where
        by : (o : Option Bool) → slice_get tables.nulls.items s ≡ o
            → Nullable (flat_of tables).nodes (flat_of tables).bodies s
        by None is = let none = ap (λ v. null_in v) (sym is) in absurd (cc (none, h))
        by (Some marked) is =
            let is_true : marked ≡ true = ap (λ v. null_in v) (sym is) ∙ h in
            (nulls s).0 (is ∙ ap (λ v. Some v) is_true)

    there_null : (s : ℕ) → Nullable (flat_of tables).nodes (flat_of tables).bodies s → null_of tables s ≡ true
    there_null s h = ap (λ v. null_in v) ((nulls s).1 h)

    abbrev Walked : (List Dot → Type 0) → List Dot → Type 0
    Walked from = Walks (flat_of tables) (last_of tables) from

    step_walked : {from : List Dot → Type 0} (a : List Dot) {b : List Dot} → Walked from a → WalkGoes tables a b
        → Walked from b
    step_walked [] w g = absurd g
    step_walked {from = from} (at n k ∷ below) {b = b} w (inl (enters {s = s} {next = next} is is_false begun)) =
        subst (λ v. Walked from v) (sym begun.is) (by (bool_cases (last_of tables (at n next))))
      where
        by : (last_of tables (at n next) ≡ true) ⊎ (last_of tables (at n next) ≡ false)
            → Walked from (at s begun.step ∷ after tables n next below)
        by (inl last) =
            rw last (old.enters_last w (callee_calls tables n k is) (no_name tables s is_false)
            (begun_start s begun.step begun.begins) last)
        by (inr last) =
            rw last (old.enters w (callee_calls tables n k is) (no_name tables s is_false)
            (begun_start s begun.step begun.begins) last)
    step_walked {from = from} (at n k ∷ below) w (inl (passes {s = s} {next = next} is name null there)) =
        subst (λ v. Walked from v) (sym there)
        (old.passes w (callee_calls tables n k is) (named_node tables s name) (null_there s null))
    step_walked {from = from} (at n k ∷ below) {b = b} w (inr e) = by below w e.1 e.2
      where
        done : IsDoneAt (flat_of tables) (at n k)
        done = reported_done tables targets n k (slice_get tables.nodes.items n) refl e.0

        by : (below : List Dot) → Walked from (at n k ∷ below) → b ≡ below → (below ≡ [] → ⊥) → Walked from b
        by [] w same some = absurd (some refl)
        by (r ∷ rest) w same some = subst (λ v. Walked from v) (sym same) (old.returns w done)

    pub led_walked : {from : List Dot → Type 0} {a : List Dot} → LedBy (WalkGoes tables) from a → Walked from a
    led_walked (here h) = old.begun h
    led_walked (on {stack = stack} h g) = step_walked stack (led_walked h) g

    walk_returned : (p r : Dot) (below : List Dot) → IsDoneAt (flat_of tables) p
        → WalkGoes tables (p ∷ r ∷ below) (r ∷ below)
    walk_returned (at n k) r below d = inr (done_reported tables targets d, refl, λ none. cc none)

    walk_entered : {s : ℕ} {p q r : Dot} (below next : List Dot) → Calls (flat_of tables) q s r
        → (IsNameNode (flat_of tables) s → ⊥) → Starts (flat_of tables) s p
        → ((n l : ℕ) → r ≡ at n l → after tables n l below ≡ next) → WalkGoes tables (q ∷ below) (p ∷ next)
    walk_entered {s = s} {p = p} {q = q} {r = r} below next c other st left =
        let e = calls_callee tables c in
        let b = start_begun st other in
        subst (λ v. WalkGoes tables (v ∷ below) (p ∷ next)) (sym e.3)
        (inl (enters e.5 (not_named tables s other) (record {
          step = b.step;
          begins = b.begins;
          is = ap (λ v. v ∷ next) b.position ∙ ap (λ v. at s b.step ∷ v) (sym (left e.0 e.2 e.4));
        })))

    kept_after : (below : List Dot) {r : Dot} → last_of tables r ≡ false → (n l : ℕ) → r ≡ at n l
        → after tables n l below ≡ r ∷ below
    kept_after below {r = r} is_false n l same =
        let not : last_of tables (at n l) ≡ false = subst (λ v. last_of tables v ≡ false) same is_false in
        subst (λ v. after tables n l below ≡ v ∷ below) (sym same) (rw not refl)

    left_after : (below : List Dot) {r : Dot} → last_of tables r ≡ true → (n l : ℕ) → r ≡ at n l
        → after tables n l below ≡ below
    left_after below {r = r} is_true n l same =
        let last : last_of tables (at n l) ≡ true = subst (λ v. last_of tables v ≡ true) same is_true in
        rw last refl

    pub walked_led : {from : List Dot → Type 0} {a : List Dot} → Walked from a → LedBy (WalkGoes tables) from a
    walked_led (old.begun h) = here h
    walked_led (old.returns {p = p} {r = r} {below = below} w d) = on (walked_led w) (walk_returned p r below d)
    walked_led (old.enters {r = r} {below = below} w c other st is_false) =
        on (walked_led w) (walk_entered below (r ∷ below) c other st (kept_after below is_false))
    walked_led (old.enters_last {below = below} w c other st is_true) =
        on (walked_led w) (walk_entered below below c other st (left_after below is_true))
    walked_led (old.passes {s = s} {q = q} {r = r} {below = below} w c name null) =
        let e = calls_callee tables c in
        on (walked_led w) (subst (λ v. WalkGoes tables (v ∷ below) (r ∷ below)) (sym e.3)
        (inl (passes e.5 (node_named tables s name) (there_null s null) (ap (λ v. v ∷ below) e.4))))

-- what a call adds
module _ (tables : code_flat.Tables) (n k : ℕ) (under : List Dot) where
  pub into_none : (conts : List Cont) (a : List ℕ) → callee_of tables (item_at 0 (dot n k)) ≡ None
      → Adds conts (WalkCalls tables n k under) a a
  into_none conts a none = adds_none conts (WalkCalls tables n k under) a (λ s w. by w)
    where
      by : {s : List Dot} → WalkCalls tables n k under s → ⊥
      by (enters is is_false begun) = cc (is, none)
      by (passes is name null there) = cc (is, none)

  module _ (s next : ℕ) (is : callee_of tables (item_at 0 (dot n k)) ≡ Some (s, next)) where
    pub into_node : (conts : List Cont) (mid : List Dot) (a b : List ℕ) → name_of tables s ≡ false
        → mid ≡ after tables n next under → Adds conts (Begun s (closures.begin_count tables s) mid) a b
        → Adds conts (WalkCalls tables n k under) a b
    into_node conts mid a b is_false mid_is adds =
        adds_as conts (Begun s (closures.begin_count tables s) mid) (WalkCalls tables n k under) a b
        (λ stack g. enters is is_false (subst (λ v. Begun s (closures.begin_count tables s) v stack) mid_is g))
        (λ stack w. by w) adds
      where
        by : {stack : List Dot} → WalkCalls tables n k under stack → Begun s (closures.begin_count tables s) mid stack
        by {stack = stack} (enters {s = t} {next = l} there other begun) =
            let pair = pair_same (sym there ∙ is) in
            let one : t ≡ s = ap (λ v. v.0) pair in
            let two : l ≡ next = ap (λ v. v.1) pair in
            subst (λ v. Begun s (closures.begin_count tables s) v stack) (sym mid_is)
            (subst (λ v. Begun s (closures.begin_count tables s) (after tables n v under) stack) two
            (subst (λ v. Begun v (closures.begin_count tables v) (after tables n l under) stack) one begun))
        by (passes {s = t} there name null stack_is) =
            let one : t ≡ s = ap (λ v. v.0) (pair_same (sym there ∙ is)) in
            absurd (let is_true = subst (λ v. name_of tables v ≡ true) one name in cc (is_true, is_false))

    pub past_none : (conts : List Cont) (a : List ℕ) → name_of tables s ≡ true → null_of tables s ≡ false
        → Adds conts (WalkCalls tables n k under) a a
    past_none conts a is_true none = adds_none conts (WalkCalls tables n k under) a (λ stack w. by w)
      where
        by : {stack : List Dot} → WalkCalls tables n k under stack → ⊥
        by (enters {s = t} there is_false begun) =
            let one : t ≡ s = ap (λ v. v.0) (pair_same (sym there ∙ is)) in
            let other = subst (λ v. name_of tables v ≡ false) one is_false in cc (is_true, other)
        by (passes {s = t} there name null stack_is) =
            let one : t ≡ s = ap (λ v. v.0) (pair_same (sym there ∙ is)) in
            let some = subst (λ v. null_of tables v ≡ true) one null in cc (some, none)

    pub past_name : (old new : List Cont) (mid : List Dot) (id : ℕ) (a b : List ℕ) → AreKept old new
        → name_of tables s ≡ true → null_of tables s ≡ true → mid ≡ under → IsIdOf new id (at n next ∷ mid)
        → IsAdded a b id → Adds new (WalkCalls tables n k under) a b
    past_name old new mid id a b kept is_true some mid_is id_is added =
        adds_one old new (λ v. ⊥) (WalkCalls tables n k under) a a b id (at n next ∷ under) kept
        (adds_none old (λ v. ⊥) a (λ v h. h)) (subst (λ v. IsIdOf new id (at n next ∷ v)) mid_is id_is) added
        (λ v h. absurd h) (passes is is_true some refl) (λ stack w. by w)
      where
        by : {stack : List Dot} → WalkCalls tables n k under stack → ⊥ ⊎ (stack ≡ at n next ∷ under)
        by (enters {s = t} there is_false begun) =
            let one : t ≡ s = ap (λ v. v.0) (pair_same (sym there ∙ is)) in
            absurd (let other = subst (λ v. name_of tables v ≡ false) one is_false in cc (is_true, other))
        by (passes {s = t} {next = l} there name null stack_is) =
            let two : l ≡ next = ap (λ v. v.1) (pair_same (sym there ∙ is)) in
            inr (stack_is ∙ ap (λ v. at n v ∷ under) two)
