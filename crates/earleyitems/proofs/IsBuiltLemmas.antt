-- One more set of a chart.
-- Serves: judge.
use Rattle.std.proofs.Common.{◌≡◌, ℕ, zero, suc, ◌+◌, ◌<◌, ◌≤◌, ◌⊎◌, inl, inr, Option, Some, None, List, [], ◌∷◌, ◌++◌}
use Rattle.std.proofs.Common.{length, take, slice_get, refl, sym, ◌∙◌, ap, subst, arith, slice_index_or}
use Rattle.std.proofs.lemmas.List.{take-append-le}
use Rattle.std.specs.Option.{option_flatten}
use Rattle.flatgrammar.specs.Flat.{Dot, at, Starts, Node, Letters, Concat, Alt, Rep, Iterations, Opt, Name, Nothing}
use Rattle.flatgrammar.specs.Flat.{Set}
use Rattle.flatgrammar.specs.Flat.{Has, Reading, reads}
use Rattle.flatgrammar.specs.Positions.{In, AreDifferent}
use Rattle.flatgrammar.specs.declared.flat_item.Item.{Item}
use Rattle.flatgrammar.specs.declared.tables.Tables as code_flat
use Rattle.flatgrammar.specs.NodeSteps.{flat_of, read_at, IfSomeSet}
use Rattle.flatgrammar.specs.TableViews.{GiveTargets, read_in}
use Rattle.earleyitems.specs.Closed.{Hold, HoldAll, IsClosed}
use Rattle.earleyitems.specs.ScannedItems.{IsScannedItem}
use Rattle.earleyitems.specs.Charts.{item_of, IsFirst, IsWhole, IsAfter, IsExact, IsBuilt}
use Rattle.flatgrammar.specs.FlatViews.{node_of}
use Rattle.earleyitems.specs.ItemSets.{Adds}
use Rattle.flatgrammar.specs.declared.flat_node.Node as code_node
use Rattle.earleyitems.proofs.AddsLemmas.{adds_as}
use Rattle.flatgrammar.proofs.CallOfLemmas.{begun_starts, get_map}
use Rattle.flatgrammar.specs.Holds.{Holds, begins, has_read}
use Rattle.earleyitems.proofs.IsChartLemmas.{chart_contains, whole_in}

record AtEnd {A : Type 0} (xs : List A) (y : A) (k : ℕ) (z : A) : Type 0 where
  is : y ≡ z
  last : k ≡ length xs

get_end : {A : Type 0} (xs : List A) (y : A) (k : ℕ) (z : A) → slice_get (xs ++ y ∷ []) k ≡ Some z
    → (slice_get xs k ≡ Some z) ⊎ AtEnd xs y k z
get_end [] y zero z h = inr (record { is = cc; last = refl })
get_end [] y (suc k) z h = absurd cc
get_end (x ∷ xs) y zero z h = inl h
get_end (x ∷ xs) y (suc k) z h = by (get_end xs y k z h)
  where
    by : (slice_get xs k ≡ Some z) ⊎ AtEnd xs y k z → (slice_get xs k ≡ Some z) ⊎ AtEnd (x ∷ xs) y (suc k) z
    by (inl g) = inl g
    by (inr e) = inr (record { is = e.is; last = ap suc e.last })

get_below : {A : Type 0} (xs : List A) (k : ℕ) {y : A} → slice_get xs k ≡ Some y → k < length xs
get_below [] k is = absurd cc
get_below (x ∷ xs) zero is = omega arith
get_below (x ∷ xs) (suc k) is = omega (arith, get_below xs k is)

take_whole : {A : Type 0} (xs : List A) → take (length xs) xs ≡ xs
take_whole [] = refl
take_whole (x ∷ xs) = ap (λ v. x ∷ v) (take_whole xs)

module _ (flat : code_flat.Tables) (targets : GiveTargets (flat_of flat) flat.targets.items) (x : List ℕ) where
  pub built_none : IsBuilt flat x []
  built_none = record {
    held = λ k set is. absurd cc;
    chart = record { begun = λ set is. absurd cc; closed = λ j set is. absurd cc; read = λ j c set next is. absurd cc };
    different = λ j set is. absurd cc;
  }

  pub built_exact : (sets : List (List Item)) → IsBuilt flat x sets → IsExact flat x sets
  built_exact sets b j set is = record {
    held = b.held j set is;
    all = λ p i h. chart_contains flat targets x sets b.chart h set is;
    different = b.different j set is;
  }

  module _ (sets : List (List Item)) (b : IsBuilt flat x sets) (set : List Item)
      (hold : Hold (flat_of flat) x (length sets) set)
      (different : AreDifferent set) (closed : IsClosed flat sets set) (first : (a : Item) → IsFirst flat x sets a
      → In a set) where
    held_more : (k : ℕ) (s : List Item) → (slice_get sets k ≡ Some s) ⊎ AtEnd sets set k s → Hold (flat_of flat) x k s
    held_more k s (inl is) = b.held k s is
    held_more k s (inr e) = subst (λ v. Hold (flat_of flat) x v s) (sym e.last)
        (subst (λ v. Hold (flat_of flat) x (length sets) v) e.is hold)

    different_more : (k : ℕ) (s : List Item) → (slice_get sets k ≡ Some s) ⊎ AtEnd sets set k s → AreDifferent s
    different_more k s (inl is) = b.different k s is
    different_more k s (inr e) = subst (λ v. AreDifferent v) e.is different

    closed_more : (k : ℕ) (s : List Item) → (slice_get sets k ≡ Some s) ⊎ AtEnd sets set k s
        → IsClosed flat (take k (sets ++ set ∷ [])) s
    closed_more k s (inl is) =
        let le : k ≤ length sets = omega (arith, get_below sets k is) in
        subst (λ v. IsClosed flat v s) (sym (take-append-le k sets (set ∷ []) le)) (b.chart.closed k s is)
    closed_more k s (inr e) =
        let le : k ≤ length sets = omega (arith, e.last) in
        let whole : take k (sets ++ set ∷ []) ≡ sets = take-append-le k sets (set ∷ []) le
        ∙ (ap (λ v. take v sets) e.last ∙ take_whole sets) in
        subst (λ v. IsClosed flat v s) (sym whole) (subst (λ v. IsClosed flat sets v) e.is closed)

    begun_more : (s : List Item) → (slice_get sets 0 ≡ Some s) ⊎ AtEnd sets set 0 s → (p : Dot)
        → Starts (flat_of flat) flat.start p → In (item_of p 0) s
    begun_more s (inl is) p st = b.chart.begun s is p st
    begun_more s (inr e) p st = subst (λ v. In (item_of p 0) v) e.is
        (first (item_of p 0) (inl (sym e.last, whole_in flat targets st)))

    read_more : (j c : ℕ) (s next : List Item) → (slice_get sets j ≡ Some s) ⊎ AtEnd sets set j s
        → (slice_get sets (j + 1) ≡ Some next) ⊎ AtEnd sets set (j + 1) next →
        slice_get x j ≡ Some c → (a : Item) → IsScannedItem flat c s a → In a next
    read_more j c s next (inl is) (inl is_next) letter a r = b.chart.read j c s next is is_next letter a r
    read_more j c s next (inl is) (inr e) letter a r =
        subst (λ v. In a v) e.is (first a (inr (record {
          at = j;
          letter = c;
          last = s;
          size = sym e.last;
          set = is;
          letter_is = letter;
          read = r;
        })))
    read_more j c s next (inr e) (inl is_next) letter a r =
        absurd (omega (arith, e.last, get_below sets (j + 1) is_next))
    read_more j c s next (inr e) (inr f) letter a r = absurd (omega (arith, e.last, f.last))

    pub built_more : IsBuilt flat x (sets ++ set ∷ [])
    built_more = record {
      held = λ k s is. held_more k s (get_end sets set k s is);
      chart = record {
        begun = λ s is p st. begun_more s (get_end sets set 0 s is) p st;
        closed = λ k s is. closed_more k s (get_end sets set k s is);
        read = λ j c s next is is_next letter a r. read_more j c s next (get_end sets set j s is)
            (get_end sets set (j + 1) next is_next) letter a r;
      };
      different = λ k s is. different_more k s (get_end sets set k s is);
    }

pub get_is : {A : Type 0} (xs : List A) (k : ℕ) (y : A) → k < length xs → y ≡ slice_index_or xs k y
    → slice_get xs k ≡ Some y
get_is [] k y lt is = absurd (omega arith)
get_is (x ∷ xs) zero y lt is = ap Some (sym is)
get_is (x ∷ xs) (suc k) y lt is = let less : k < length xs = omega arith in get_is xs k y less is

record ReadOf (node : Node) (k c : ℕ) : Type 0 where
  set : Set
  reading : Reading node k set (k + 1)
  lies : Has set c

read_found : (sets : List Set) (k c : ℕ) (o : Option Set) → slice_get sets k ≡ o → IfSomeSet o c
    → ReadOf (Letters sets) k c
read_found sets k c None is h = elim h [ ]
read_found sets k c (Some set) is h = record { set = set; reading = Reading.letter is; lies = h }

read_from : (node : Node) (k c : ℕ) → IfSomeSet (read_at node k) c → ReadOf node k c
read_from (Letters sets) k c h = read_found sets k c (slice_get sets k) refl h
read_from (Concat ms) k c h = elim h [ ]
read_from (Alt ms) k c h = elim h [ ]
read_from (Rep a b m) k c h = elim h [ ]
read_from (Iterations b m) k c h = elim h [ ]
read_from (Opt m) k c h = elim h [ ]
read_from (Name r) k c h = elim h [ ]
read_from Nothing k c h = elim h [ ]

module _ (flat : code_flat.Tables) (targets : GiveTargets (flat_of flat) flat.targets.items) (x : List ℕ)
    (sets : List (List Item)) (held : HoldAll (flat_of flat) x sets) where
  read_holds : (at_j c : ℕ) (b : Item) (o : Option code_node.Node) → slice_get flat.nodes.items b.node ≡ o
      → IfSomeSet (read_in o b.step) c → slice_get x at_j ≡ Some c →
      Holds (flat_of flat) x at_j (at b.node b.step) b.origin
      → Holds (flat_of flat) x (at_j + 1) (at b.node (b.step + 1)) b.origin
  read_holds at_j c b None is h letter g = elim h [ ]
  read_holds at_j c b (Some node) is h letter g =
      let r = read_from (node_of node) b.step c h in
      has_read g (reads (get_map node_of flat.nodes.items b.node is) r.reading) letter r.lies

  pub after_holds : (a : Item) → IsAfter flat x sets a → Holds (flat_of flat) x (length sets) (at a.node a.step)
      a.origin
  after_holds a h =
      let r = h.read in
      let made = read_holds h.at h.letter r.by (slice_get flat.nodes.items r.by.node) refl r.reads h.letter_is
      (held h.at h.last h.set r.by r.stands) in
      subst (λ v. Holds (flat_of flat) x v (at a.node a.step) a.origin) (sym h.size)
      (subst (λ v. Holds (flat_of flat) x (h.at + 1) (at a.node a.step) v) (sym r.origin)
      (subst (λ v. Holds (flat_of flat) x (h.at + 1) (at a.node v) r.by.origin) (sym r.step)
      (subst (λ v. Holds (flat_of flat) x (h.at + 1) (at v (r.by.step + 1)) r.by.origin) (sym r.node) made)))

  pub target_is : (o : Option (Option ℕ)) (target : ℕ) → option_flatten o ≡ Some target → o ≡ Some (Some target)
  target_is None target h = absurd cc
  target_is (Some o) target h = ap Some h

  pub whole_holds : (a : Item) → IsWhole flat a → Holds (flat_of flat) x 0 (at a.node a.step) a.origin
  whole_holds a h =
      let target = (targets flat.start h.target).0
      (target_is (slice_get flat.targets.items flat.start) h.target h.is) in
      let made : Holds (flat_of flat) x 0 (at h.target a.step) 0 =
      begins (begun_starts flat targets h.target a.step flat.start (slice_get flat.nodes.items h.target) refl h.begun.1
      target) in
      subst (λ v. Holds (flat_of flat) x 0 (at a.node a.step) v) (sym h.begun.2)
      (subst (λ v. Holds (flat_of flat) x 0 (at v a.step) 0) (sym h.begun.0) made)

  pub first_holds : (set : List Item) → Adds (IsFirst flat x sets) [] set → Hold (flat_of flat) x (length sets) set
  first_holds set adds a h = by (adds.only a h)
    where
      by : In a [] ⊎ IsFirst flat x sets a → Holds (flat_of flat) x (length sets) (at a.node a.step) a.origin
      by (inl g) = elim g [ ]
      by (inr (inl w)) = subst (λ v. Holds (flat_of flat) x v (at a.node a.step) a.origin) (sym w.0) (whole_holds a w.1)
      by (inr (inr r)) = after_holds a r

module _ (flat : code_flat.Tables) (x : List ℕ) (sets : List (List Item)) (old new : List Item) where
  pub first_begun : length sets ≡ 0 → Adds (IsWhole flat) old new → Adds (IsFirst flat x sets) old new
  first_begun none p = adds_as (IsWhole flat) (IsFirst flat x sets) old new (λ a w. inl (none, w)) (λ a h. by a h) p
    where
      by : (a : Item) → IsFirst flat x sets a → IsWhole flat a
      by a (inl h) = h.1
      by a (inr h) = absurd (omega (arith, h.size, none))

  some_same : {A : Type 0} {a b : A} → Some a ≡ Some b → a ≡ b
  some_same h = cc

  pub first_after : (k c : ℕ) (last : List Item) → length sets ≡ k + 1 → slice_get sets k ≡ Some last
      → slice_get x k ≡ Some c → Adds (IsScannedItem flat c last) old new →
      Adds (IsFirst flat x sets) old new
  first_after k c last size set letter p = adds_as (IsScannedItem flat c last) (IsFirst flat x sets) old new
      (λ a r. inr (record { at = k; letter = c; last = last; size = size; set = set; letter_is = letter; read = r }))
      (λ a h. by a h) p
    where
      by : (a : Item) → IsFirst flat x sets a → IsScannedItem flat c last a
      by a (inl h) = absurd (omega (arith, h.0, size))
      by a (inr h) =
          let same : h.at ≡ k = omega (arith, h.size, size) in
          let one : h.last ≡ last = some_same (sym h.set ∙ (ap (λ v. slice_get sets v) same ∙ set)) in
          let two : h.letter ≡ c = some_same (sym h.letter_is ∙ (ap (λ v. slice_get x v) same ∙ letter)) in
          subst (λ v. IsScannedItem flat v last a) two (subst (λ v. IsScannedItem flat h.letter v a) one h.read)
