-- Every item of a line stands in its chart.
-- Serves: judge.
use Rattle.std.proofs.Common.{◌≡◌, ℕ, zero, suc, ◌+◌, ◌<◌, ◌≤◌, true, ◌⊎◌, inl, inr, Some, None, List, [], ◌∷◌, length}
use Rattle.std.proofs.Common.{take, slice_get, refl, sym, ◌∙◌, ap, subst, arith, length-take-le}
use Rattle.std.proofs.lemmas.Bool.{cases_lt}
use Rattle.std.specs.Option.{option_flatten}
use Rattle.flatgrammar.specs.Flat.{Node, Letters, Name, Flat, Dot, at, Set, Has, Begins, IsDone, Reading, Calling}
use Rattle.flatgrammar.specs.Flat.{Starts, starts, name_starts, Ends, ends, name_ends, Reads, reads, Calls, calls}
use Rattle.flatgrammar.specs.Flat.{Takes}
use Rattle.flatgrammar.specs.Holds.{Holds, begins, called, has_read, returned}
use Rattle.flatgrammar.specs.Positions.{In}
use Rattle.flatgrammar.proofs.PositionsLemmas.{holds_origin}
use Rattle.flatgrammar.specs.declared.flat_item.Item.{Item}
use Rattle.flatgrammar.specs.declared.tables.Tables as code_flat
use Rattle.flatgrammar.specs.FlatViews.{node_of}
use Rattle.flatgrammar.specs.NodeSteps.{flat_of, begin_count, is_done, callee, read_at, IfSomeSet}
use Rattle.flatgrammar.specs.TableViews.{target_in, rooted, called_by, call_of, done_in, done_of, count_in, read_in}
use Rattle.flatgrammar.specs.TableViews.{read_of, GiveTargets}
use Rattle.earleyitems.specs.ItemSets.{waiting_in}
use Rattle.flatgrammar.specs.Targets.{Target, own, named}
use Rattle.earleyitems.specs.Charts.{item_of, IsChart, IsWhole}
use Rattle.flatgrammar.proofs.CallOfLemmas.{done_tests, calling_callee, begin_below, get_below, get_unmap, true_takes}

record There {A : Type 0} (xs : List A) (k : ℕ) : Type 0 where
  what : A
  is : slice_get xs k ≡ Some what

get_there : {A : Type 0} (xs : List A) (k : ℕ) → k < length xs → There xs k
get_there [] k lt = absurd (omega arith)
get_there (x ∷ xs) zero lt = record { what = x; is = refl }
get_there (x ∷ xs) (suc k) lt = let less : k < length xs = omega arith in let t = get_there xs k less in
    record { what = t.what; is = t.is }

pub get_set : {A : Type 0} (xs : List A) (j k : ℕ) → k < j → slice_get (take j xs) k ≡ slice_get xs k
get_set [] zero k lt = refl
get_set [] (suc j) k lt = refl
get_set (x ∷ xs) zero k lt = absurd (omega arith)
get_set (x ∷ xs) (suc j) zero lt = refl
get_set (x ∷ xs) (suc j) (suc k) lt = let less : k < j = omega arith in get_set xs j k less

get_past : {A : Type 0} (xs : List A) (j k : ℕ) → j ≤ k → slice_get (take j xs) k ≡ None
get_past [] zero k le = refl
get_past [] (suc j) k le = refl
get_past (x ∷ xs) zero k le = refl
get_past (x ∷ xs) (suc j) zero le = absurd (omega arith)
get_past (x ∷ xs) (suc j) (suc k) le = let less : j ≤ k = omega arith in get_past xs j k less

record StartsAt (flat : Flat) (s : ℕ) (p : Dot) : Type 0 where
  target : ℕ
  step : ℕ
  node : Node
  position : p ≡ at target step
  rooted : Target flat.nodes flat.bodies s target
  stands : slice_get flat.nodes target ≡ Some node
  begun : Begins node step

starts_at : {flat : Flat} {s : ℕ} {p : Dot} → Starts flat s p → StartsAt flat s p
starts_at (starts {s = s} {k = k} {node = node} is b) =
    record {
      target = s;
      step = k;
      node = node;
      position = refl;
      rooted = own is (λ r same. none k r (subst (λ v. Begins v k) same b));
      stands = is;
      begun = b;
    }
  where
    none : (k r : ℕ) → Begins (Name r) k → ⊥
    none k r b = elim b [ ]
starts_at (name_starts is at_r st) = let h = starts_at st in
    record {
      target = h.target;
      step = h.step;
      node = h.node;
      position = h.position;
      rooted = named is at_r h.rooted;
      stands = h.stands;
      begun = h.begun;
    }

record EndsAt (flat : Flat) (s : ℕ) (p : Dot) : Type 0 where
  target : ℕ
  step : ℕ
  node : Node
  position : p ≡ at target step
  rooted : Target flat.nodes flat.bodies s target
  stands : slice_get flat.nodes target ≡ Some node
  done : IsDone node step

ends_at : {flat : Flat} {s : ℕ} {p : Dot} → Ends flat p s → EndsAt flat s p
ends_at (ends {s = s} {k = k} {node = node} is d) =
    record {
      target = s;
      step = k;
      node = node;
      position = refl;
      rooted = own is (λ r same. none k r (subst (λ v. IsDone v k) same d));
      stands = is;
      done = d;
    }
  where
    none : (k r : ℕ) → IsDone (Name r) k → ⊥
    none k r d = elim d [ ]
ends_at (name_ends is at_r e) = let h = ends_at e in
    record {
      target = h.target;
      step = h.step;
      node = h.node;
      position = h.position;
      rooted = named is at_r h.rooted;
      stands = h.stands;
      done = h.done;
    }

module _ (flat : code_flat.Tables) (targets : GiveTargets (flat_of flat) flat.targets.items) where
  pub whole_in : {p : Dot} → Starts (flat_of flat) flat.start p → IsWhole flat (item_of p 0)
  whole_in st =
      let b = starts_at st in
      let u = get_unmap node_of flat.nodes.items b.target b.node b.stands in
      let below : b.step < count_in (slice_get flat.nodes.items b.target) =
      rw u.at (subst (λ v. b.step < begin_count v) (sym u.is) (begin_below b.begun)) in
      subst (λ v. IsWhole flat (item_of v 0)) (sym b.position)
      (record {
        target = b.target;
        is = ap (λ o. option_flatten o) ((targets flat.start b.target).1 b.rooted);
        begun = (refl, below, refl);
      })

module _ (flat : code_flat.Tables) (targets : GiveTargets (flat_of flat) flat.targets.items) (x : List ℕ)
    (sets : List (List Item)) (chart : IsChart flat x sets) where
  call_is : (n k i : ℕ) {t l target : ℕ} {node : Node} → slice_get (flat_of flat).nodes n ≡ Some node
      → Calling node k t l
      → Target (flat_of flat).nodes (flat_of flat).bodies t target →
      call_of flat (record { node = n; step = k; origin = i }) ≡ Some (target, l)
  call_is n k i {t = t} {l = l} {target = target} {node = node} is c r =
      let u = get_unmap node_of flat.nodes.items n node is in
      let called_is : callee (node_of u.from) k ≡ Some (t, l) = ap (λ v. callee v k) u.is ∙ calling_callee c in
      ap (λ o. called_by flat.targets.items o k) u.at
      ∙ (ap (λ o. rooted flat.targets.items o) called_is ∙ ap (λ o. target_in o l) ((targets t target).1 r))

  predicted_in : (i j : ℕ) {s : ℕ} {q r p : Dot} (set : List Item) → slice_get sets j ≡ Some set
      → In (item_of q i) set → Calls (flat_of flat) q s r →
      Starts (flat_of flat) s p → In (item_of p j) set
  predicted_in i j {p = p} set is h (calls {s = n} {k = k} {t = t} {l = l} {node = node} at_n c) st =
      let b = starts_at st in
      let u = get_unmap node_of flat.nodes.items b.target b.node b.stands in
      let below : b.step < count_in (slice_get flat.nodes.items b.target) =
      rw u.at (subst (λ v. b.step < begin_count v) (sym u.is) (begin_below b.begun)) in
      let le : j ≤ length sets = omega (arith, get_below sets j is) in
      let size : j ≡ length (take j sets) = sym (length-take-le j sets le) in
      subst (λ v. In (item_of v j) set) (sym b.position)
      (chart.closed j set is (item_of (at b.target b.step) j)
      (record {
        by = item_of (at n k) i;
        stands = h;
        next = inl (record {
          target = b.target;
          next = l;
          call = call_is n k i at_n c b.rooted;
          begun = (refl, below, size);
        });
      }))

  advanced_in : (i j k : ℕ) {s : ℕ} {q r p : Dot} (set earlier : List Item) → slice_get sets j ≡ Some set
      → slice_get sets k ≡ Some earlier → k ≤ j →
      In (item_of p k) set → Ends (flat_of flat) p s → In (item_of q i) earlier → Calls (flat_of flat) q s r
      → (Takes (flat_of flat) q → k < j) → In (item_of r i) set
  advanced_in i j o {p = p} set earlier is is_earlier le h e g
      (calls {s = n} {k = k} {t = t} {l = l} {node = node} at_n c) takes =
      let b = ends_at e in
      let u = get_unmap node_of flat.nodes.items b.target b.node b.stands in
      let done_is : done_of flat (item_of (at b.target b.step) o) ≡ true = ap (λ v. done_in v b.step) u.at
      ∙ (ap (λ v. is_done v b.step) u.is ∙ done_tests b.done) in
      chart.closed j set is (item_of (at n l) i)
      (record {
        by = item_of (at b.target b.step) o;
        stands = subst (λ v. In (item_of v o) set) b.position h;
        next = inr (record {
          completed = record {
            done = done_is;
            advanced = record {
              from = item_of (at n k) i;
              stands = waiters (cases_lt o j);
              call = call_is n k i at_n c b.rooted;
              node = refl;
              origin = refl;
            };
          };
          later = λ t.
              let lt = takes (true_takes flat n k i t) in
              let within = get_below sets j is in
              let size = length-take-le j sets (omega (arith, within)) in
              omega (arith, lt, size);
        });
      })
    where
      some_same : {a b : List Item} → Some a ≡ Some b → a ≡ b
      some_same h = cc

      waiters : (o < j) ⊎ (j ≤ o) → In (item_of (at n k) i) (waiting_in (take j sets) set o)
      waiters (inl less) = rw (get_set sets j o less, is_earlier) g
      waiters (inr past) =
          let same : o ≡ j = omega arith in
          let one : earlier ≡ set = some_same (sym is_earlier ∙ (ap (λ v. slice_get sets v) same ∙ is)) in
          rw (get_past sets j o past) (subst (λ v. In (item_of (at n k) i) v) one g)

  read_in_next : (i j c : ℕ) {q r : Dot} {s : Set} (set next : List Item) → slice_get sets j ≡ Some set
      → slice_get sets (j + 1) ≡ Some next → slice_get x j ≡ Some c →
      Has s c → Reads (flat_of flat) q s r → In (item_of q i) set → In (item_of r i) next
  read_in_next i j c set next is is_next letter lies
      (reads {s = n} {node = node} at_n (Reading.letter {sets = ls} {k = k} {set = s} there)) h =
      let u = get_unmap node_of flat.nodes.items n (Letters ls) at_n in
      let read_is : read_of flat (item_of (at n k) i) ≡ Some s = ap (λ v. read_in v k) u.at
      ∙ (ap (λ v. read_at v k) u.is ∙ there) in
      chart.read j c set next is is_next letter (item_of (at n (k + 1)) i)
      (record {
        by = item_of (at n k) i;
        stands = h;
        reads = subst (λ v. IfSomeSet v c) (sym read_is) lies;
        node = refl;
        step = refl;
        origin = refl;
      })

  pub chart_contains : {j i : ℕ} {p : Dot} → Holds (flat_of flat) x j p i → (set : List Item)
      → slice_get sets j ≡ Some set
      → In (item_of p i) set
  chart_contains (begins st) set is = chart.begun set is _ st
  chart_contains (called {i = i} {j = j} h c st) set is = predicted_in i j set is (chart_contains h set is) c st
  chart_contains (has_read {i = i} {j = j} {c = c} h r letter lies) set is =
      let below : j < length sets = omega (arith, get_below sets (j + 1) is) in
      let before = get_there sets j below in
      read_in_next i j c before.what set before.is is letter lies r (chart_contains h before.what before.is)
  chart_contains (returned {i = i} {j = j} {k = k} h e g c takes) set is =
      let le = holds_origin (flat_of flat) h in
      let below : k < length sets = omega (arith, get_below sets j is, le) in
      let before = get_there sets k below in
      advanced_in i j k set before.what is before.is le (chart_contains h set is) e
      (chart_contains g before.what before.is) c takes
