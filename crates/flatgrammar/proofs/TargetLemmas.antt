-- The targets that were found are those of the nodes.
-- Serves: lower, Flat::target.
use Rattle.std.proofs.Common.{◌≡◌, ℕ, zero, suc, ◌+◌, ◌<◌, List, [], ◌∷◌, ◌++◌, length, map, take, drop, get_or, Option}
use Rattle.std.proofs.Common.{Some, None, refl, sym, ◌∙◌, ap, subst, arith, ⊎_elim, add-one, length-append}
use Rattle.std.specs.Prelude.{slice_get}
use Rattle.std.proofs.lemmas.List.{length-map, map-append}
use Rattle.std.proofs.lemmas.Option.{slice_get_within, slice_get-map}
use Rattle.std.specs.Option.{option_map}
use Rattle.std.proofs.lemmas.Grind.{common_steps}
use Rattle.std.proofs.Math.Seq.{take-suc}
use Rattle.flatgrammar.specs.Flat.{Node, Letters, Concat, Alt, Rep, Iterations, Opt, Name, Nothing}
use Rattle.flatgrammar.specs.Targets.{Target, own, named, AreTargets}
use Rattle.flatgrammar.specs.declared.flat_node.Node as declared
use Rattle.flatgrammar.specs.declared.targets.Way.{Way}
use Rattle.flatgrammar.specs.declared.targets.Way.TheVariants.{On, Found}
use Rattle.flatgrammar.specs.FlatViews.{node_of, nodes_of}
use Rattle.flatgrammar.specs.Ways.{way_to, first_way, target_of, AreFirst, IsFound, IsOnWithin, LeadsTo, arrived}
use Rattle.flatgrammar.specs.Ways.{leads_on, AreWays}
use Rattle.flatgrammar.proofs.SliceGetLemmas.{push_cases}
use Rattle.flatgrammar.proofs.SliceGetLemmas.{get_there}
use Rattle.flatgrammar.proofs.SliceGetLemmas.{get_kept}
use Rattle.flatgrammar.proofs.WalkLemmas.{ways_differ, found_same}

other_way : {t : ℕ} {r : Option ℕ} → Found r ≡ On t → ⊥
other_way h = absurd (cc h)

to_on : (o : Option ℕ) (t : ℕ) → way_to o ≡ On t → o ≡ Some t
to_on None t h = absurd (other_way h)
to_on (Some b) t h = let same : b ≡ t = cc h in ap (λ v. Some v) same

to_found : (o : Option ℕ) (u : ℕ) → way_to o ≡ Found (Some u) → ⊥
to_found None u h = absurd (cc h)
to_found (Some b) u h = other_way (sym h)

own_same : {s u : ℕ} → Found (Some s) ≡ Found (Some u) → u ≡ s
own_same h = cc h

first_on : (bodies : List ℕ) (s t : ℕ) (node : Node) → first_way bodies s node ≡ On t → (r : ℕ) × (node ≡ Name r)
    × (slice_get bodies r ≡ Some t)
first_on bodies s t (Letters sets) h = absurd (other_way h)
first_on bodies s t (Concat ms) h = absurd (other_way h)
first_on bodies s t (Alt ms) h = absurd (other_way h)
first_on bodies s t (Rep a b m) h = absurd (other_way h)
first_on bodies s t (Iterations b m) h = absurd (other_way h)
first_on bodies s t (Opt m) h = absurd (other_way h)
first_on bodies s t (Name r) h = (r, refl, to_on (slice_get bodies r) t h)
first_on bodies s t Nothing h = absurd (other_way h)

first_found : (bodies : List ℕ) (s u : ℕ) (node : Node) → first_way bodies s node ≡ Found (Some u) → (u ≡ s)
    × ((r : ℕ) → node ≡ Name r → ⊥)
first_found bodies s u (Letters sets) h = (own_same h, λ r e. absurd (cc e))
first_found bodies s u (Concat ms) h = (own_same h, λ r e. absurd (cc e))
first_found bodies s u (Alt ms) h = (own_same h, λ r e. absurd (cc e))
first_found bodies s u (Rep a b m) h = (own_same h, λ r e. absurd (cc e))
first_found bodies s u (Iterations b m) h = (own_same h, λ r e. absurd (cc e))
first_found bodies s u (Opt m) h = (own_same h, λ r e. absurd (cc e))
first_found bodies s u (Name r) h = absurd (to_found (slice_get bodies r) u h)
first_found bodies s u Nothing h = (own_same h, λ r e. absurd (cc e))

first_own : (bodies : List ℕ) (s : ℕ) (node : Node) → ((r : ℕ) → node ≡ Name r → ⊥) → first_way bodies s node
    ≡ Found (Some s)
first_own bodies s (Letters sets) h = refl
first_own bodies s (Concat ms) h = refl
first_own bodies s (Alt ms) h = refl
first_own bodies s (Rep a b m) h = refl
first_own bodies s (Iterations b m) h = refl
first_own bodies s (Opt m) h = refl
first_own bodies s (Name r) h = absurd (h r refl)
first_own bodies s Nothing h = refl

mapped_from : {A B : Type 0} (f : A → B) (xs : List A) (i : ℕ) (b : B) → slice_get (map f xs) i ≡ Some b → (a : A)
    × (slice_get xs i ≡ Some a) × (f a ≡ b)
mapped_from f [] i b h = absurd (cc h)
mapped_from f (x ∷ xs) zero b h = (x, refl, cc h)
mapped_from f (x ∷ xs) (suc i) b h = mapped_from f xs i b h

way_same : {v w : Way} → Some v ≡ Some w → v ≡ w
way_same h = cc h

module _ (nodes : List Node) (bodies : List ℕ) (firsts : List Way) (first : AreFirst nodes bodies firsts) where
  -- the node of a way
  node_there : (s : ℕ) (w : Way) → slice_get firsts s ≡ Some w → (node : Node) × (slice_get nodes s ≡ Some node)
      × (first_way bodies s node ≡ w)
  node_there s w is =
      let lt = slice_get_within firsts s w is in
      let count = first.count in
      let node = get_there nodes s (omega (arith, lt, count)) in
      (node.0, node.1, way_same (sym (first.each s node.0 node.1) ∙ is))

  named_by : (s t : ℕ) → slice_get firsts s ≡ Some (On t) → (r : ℕ) × (slice_get nodes s ≡ Some (Name r))
      × (slice_get bodies r ≡ Some t)
  named_by s t is =
      let node = node_there s (On t) is in
      let by = first_on bodies s t node.0 node.2 in
      (by.0, node.1 ∙ ap (λ v. Some v) by.1, by.2)

  is_target : {s u : ℕ} → LeadsTo firsts s u → Target nodes bodies s u
  is_target (arrived {s = s} {u = u} is) =
      let node = node_there s (Found (Some u)) is in
      let own_one = first_found bodies s u node.0 node.2 in
      subst (λ v. Target nodes bodies s v) (sym own_one.0) (own node.1 own_one.1)
  is_target (leads_on {s = s} {t = t} is l) = let by = named_by s t is in named by.1 by.2 (is_target l)

  pub leads_to : {s u : ℕ} → Target nodes bodies s u → LeadsTo firsts s u
  leads_to (own {s = s} {node = node} is none) = arrived
      (first.each s node is ∙ ap (λ v. Some v) (first_own bodies s node none))
  leads_to (named {s = s} {r = r} is at target) = leads_on (first.each s (Name r) is ∙ ap (λ v. Some (way_to v)) at)
      (leads_to target)

  pub first_within : ((id m : ℕ) → slice_get bodies id ≡ Some m → m < length nodes) → IsOnWithin firsts
  first_within within s t is = let by = named_by s t is in let lt = within by.0 t by.2 in let count = first.count in
      omega (arith, lt, count)

  module _ (ways : List Way) (are : AreWays firsts ways) (all : (s : ℕ) → s < length ways → IsFound ways s) where
    target_reported : (s u : ℕ) (w : Way) → slice_get ways s ≡ Some w → target_of w ≡ Some u
        → slice_get ways s ≡ Some (Found (Some u))
    target_reported s u (On t) is h = absurd (cc h)
    target_reported s u (Found r) is h = is ∙ ap (λ v. Some (Found v)) h

    found_one : {s u : ℕ} → LeadsTo firsts s u → slice_get ways s ≡ Some (Found (Some u))
    found_one (arrived {s = s} {u = u} is) = are.kept s (Some u) is
    found_one (leads_on {s = s} {t = t} {u = u} is l) =
        let lt = slice_get_within firsts s (On t) is in
        let count = are.count in
        let h = all s (omega (arith, lt, count)) in
        ⊎_elim
        (λ before. absurd (ways_differ (sym is ∙ before)))
        (λ on.
        let same : on.0 ≡ t = cc (on.1, is) in
        let target : h.0 ≡ Some u = found_same (sym (subst (λ v. slice_get ways v ≡ Some (Found h.0)) same on.2)
        ∙ found_one l) in
        h.1 ∙ ap (λ v. Some (Found v)) target)
        (are.found s h.0 h.1)

    pub are_targets : AreTargets nodes bodies (map target_of ways)
    are_targets = record {
      count = length-map ways target_of ∙ are.count ∙ first.count;
      sound = λ s t h. let from = mapped_from target_of ways s (Some t) h in
          is_target (are.sound s t (target_reported s t from.0 from.1 from.2));
      whole = λ s t target. slice_get-map target_of ways s
          ∙ ap (λ o. option_map target_of o) (found_one (leads_to target));
    }

pub firsts_within : (nodes : List declared.Node) (bodies : List ℕ) (firsts : List Way)
    → AreFirst (nodes_of nodes) bodies firsts →
    ((id m : ℕ) → slice_get bodies id ≡ Some m → m < length nodes) → IsOnWithin firsts
firsts_within nodes bodies firsts first within =
    let count = length-map nodes node_of in first_within (nodes_of nodes) bodies firsts first
    (λ id m h. let lt = within id m h in omega (arith, lt, count))

-- what is left of a vector whose slice was written
slice_written : {A : Type 0} (new old : List A) (n : ℕ) → length new ≡ length old → n ≡ length old
    → take n (new ++ drop (length new) old) ≡ new
slice_written new old n e is = grind (arith, common_steps)

pub targets_found : {nodes : List Node} {bodies : List ℕ} {firsts before ways seen : List Way} {n : ℕ}
    {targets : List (Option ℕ)} → AreFirst nodes bodies firsts → before ≡ firsts →
    AreWays before ways → ((s : ℕ) → s < length ways → IsFound ways s) → n ≡ length firsts
    → seen ≡ take n (ways ++ drop (length ways) firsts) → targets ≡ map target_of seen → AreTargets nodes bodies targets
targets_found {nodes} {bodies} {firsts} {ways} {n} first same are all size is_seen is =
    let w = subst (λ v. AreWays v ways) same are in
    rw (is, is_seen, slice_written ways firsts n w.count size) (are_targets nodes bodies firsts first ways w all)

-- the loop that makes the first ways
pub first_none : (bodies : List ℕ) (ways : List Way) → ways ≡ [] → AreFirst [] bodies ways
first_none bodies ways is = rw is (record { count = refl; each = λ s node h. absurd (cc h) })

at_end : {A : Type 0} (xs : List A) (a : A) → slice_get (xs ++ a ∷ []) (length xs) ≡ Some a
at_end [] a = refl
at_end (x ∷ xs) a = at_end xs a

first_push : (nodes : List Node) (bodies : List ℕ) (ways : List Way) (node : Node) (s : ℕ) → s ≡ length nodes
    → AreFirst nodes bodies ways →
    AreFirst (nodes ++ node ∷ []) bodies (ways ++ first_way bodies s node ∷ [])
first_push nodes bodies ways node s is g = record {
  count = (let a = length-append nodes (node ∷ []) in let b = length-append ways (first_way bodies s node ∷ []) in
      let c = g.count in omega (arith, a, b, c));
  each = λ k n h. ⊎_elim
      (λ before. get_kept ways (first_way bodies s node ∷ []) k (g.each k n before))
      (λ last.
      let here : length ways ≡ k = (let c = g.count in omega (arith, c, last.0)) in
      let same : s ≡ k = is ∙ sym last.0 in
      let is_way : first_way bodies s node ≡ first_way bodies k n = cc (same, last.1) in
      subst (λ v. slice_get (ways ++ first_way bodies s node ∷ []) v ≡ Some (first_way bodies k n)) here
      (at_end ways (first_way bodies s node) ∙ ap (λ v. Some v) is_way))
      (push_cases nodes node k n h);
}

pub first_next : (nodes : List declared.Node) (bodies : List ℕ) (ways : List Way) (node d : declared.Node) (i : ℕ)
    → i < length nodes → node ≡ get_or nodes i d →
    AreFirst (nodes_of (take i nodes)) bodies ways → AreFirst (nodes_of (take (i + 1) nodes)) bodies
    (ways ++ first_way bodies i (node_of node) ∷ [])
first_next nodes bodies ways node d i lt is g =
    let taken : nodes_of (take (i + 1) nodes) ≡ nodes_of (take i nodes) ++ node_of node ∷ [] =
    ap (λ k. nodes_of (take k nodes)) (add-one i) ∙ ap nodes_of (take-suc nodes i d lt)
    ∙ map-append node_of (take i nodes) (get_or nodes i d ∷ []) ∙
    ap (λ w. nodes_of (take i nodes) ++ node_of w ∷ []) (sym is) in
    let size : i ≡ length (nodes_of (take i nodes)) =
    sym (length-map (take i nodes) node_of ∙ length_take i nodes lt) in
    rw taken (first_push (nodes_of (take i nodes)) bodies ways (node_of node) i size g)
  where
    length_take : (i : ℕ) (xs : List declared.Node) → i < length xs → length (take i xs) ≡ i
    length_take i [] lt = absurd (omega arith)
    length_take zero (x ∷ xs) lt = refl
    length_take (suc i) (x ∷ xs) lt = ap suc (length_take i xs (omega (arith, lt)))
