-- Classes of letters that each set of a grammar takes or rejects together.
-- Serves: new, judge, viable.
use Rattle.std.proofs.Common.{◌≡◌, ℕ, zero, suc, ◌+◌, ◌-◌, ◌<◌, ◌≤◌, ◌^◌, true, false, List, [], ◌∷◌, ◌++◌}
use Rattle.std.proofs.Common.{length, map, refl, sym, ◌∙◌, ap, subst, arith, ◌⊎◌, inl, inr, ◌↔◌, get_or, leb, leb-true}
use Rattle.std.proofs.Common.{set}
use Rattle.std.proofs.Common.{leb-false, eqb}
use Rattle.std.proofs.lemmas.Bool.{cases_lt}
use Rattle.std.proofs.lemmas.List.{length-map, get_or_default, get_or-set_other}
use Rattle.std.proofs.lemmas.Grind.{get_or-set_at}
use Rattle.std.proofs.lemmas.List.Elements.{Contains-append_left, Contains-push}
use Rattle.std.proofs.lemmas.Option.{slice_get-map, slice_get_within, slice_get-get_or}
use Rattle.std.specs.Prelude.{slice_get, Some, option_map, Contains}
use Rattle.std.proofs.lemmas.List.Filters.{dedup_is}
use Rattle.std.proofs.lemmas.List.Kept.{Contains-dedup_nat}
use Rattle.std.proofs.lemmas.List.Sorted.{Contains-permutation, IsNonDecreasingBy-from_all_adjacent}
use Rattle.std.proofs.lemmas.Map.Keys.{IsStrictlyIncreasing-dedup}
use Rattle.std.specs.List.Retain.{IsFiltered, DiffersFromLast}
use Rattle.std.specs.List.Sorted.{IsNonDecreasing, IsPartitionPoint, IsPermutation, IsSorted, IsStrictlyIncreasing}
use Rattle.std.specs.Ordering.{nat_cmp}
use Rattle.flatgrammar.specs.Flat.{Flat, Node, Letters, Dot, Set, Has, letter, Reads, reads}
use Rattle.flatgrammar.specs.Stacks.{AreAlike}
use Rattle.flatgrammar.specs.ClassBounds.{IsFree, AreMoreBounds, IsBoundAdded, IsSplit, IsNodeSplit, AreNodesSplit}
use Rattle.flatgrammar.specs.ClassBounds.{AreJoined, AreParted, IsClassOf, HaveClasses, AreLow, AreClasses}

pub bound_added : (old new : List ℕ) (n : ℕ) → new ≡ old ++ n ∷ [] → IsBoundAdded old new n
bound_added old new n is i free = (
  record {
    none = λ h. free.none (subst (λ v. Contains v i) (sym is) (Contains-append_left old (n ∷ []) i h));
  },
  λ same. free.none (subst (λ v. Contains v i) (sym is)
      (subst (λ v. Contains (old ++ n ∷ []) v) (sym same) (Contains-push old n))),
)

pub bound_there : (bounds : List ℕ) (n : ℕ) → Contains bounds n → IsBoundAdded bounds bounds n
bound_there bounds n there i free = (free, λ same. free.none (subst (λ v. Contains bounds v) (sym same) there))

pub more_split : (old new : List ℕ) (set : Set) → AreMoreBounds old new → IsSplit old set → IsSplit new set
more_split old new set more h c fits free = h c fits (more (c + 1) free)

pub more_node_split : (old new : List ℕ) (node : Node) → AreMoreBounds old new → IsNodeSplit old node
    → IsNodeSplit new node
more_node_split old new node more h sets is k set at_k = more_split old new set more (h sets is k set at_k)

pub no_set_split : (bounds : List ℕ) (node : Node) → ((sets : List Set) → node ≡ Letters sets → ⊥)
    → IsNodeSplit bounds node
no_set_split bounds node none sets is = absurd (none sets is)

pub more_nodes_split : (old new : List ℕ) (nodes : List Node) → AreMoreBounds old new → AreNodesSplit old nodes
    → AreNodesSplit new nodes
more_nodes_split old new nodes more h s node at_s = more_node_split old new node more (h s node at_s)

-- so it is with the first k of a list, if more bounds do no harm
module _ {A B : Type 0} (f : A → B) (P : List ℕ → B → Type 0)
    (grow : (old new : List ℕ) (b : B) → AreMoreBounds old new → P old b → P new b) where
  abbrev pub AreSplitTo : List ℕ → List A → ℕ → Type 0
  AreSplitTo bounds xs k = (i : ℕ) (b : B) → i < k → slice_get (map f xs) i ≡ Some b → P bounds b

  pub split_to_zero : (bounds : List ℕ) (xs : List A) → AreSplitTo bounds xs 0
  split_to_zero bounds xs i b lt is = absurd (omega (arith, lt))

  pub split_to_next : (old new : List ℕ) (xs : List A) (k : ℕ) (x : A) → slice_get xs k ≡ Some x
      → AreMoreBounds old new → P new (f x) → AreSplitTo old xs k → AreSplitTo new xs (k + 1)
  split_to_next old new xs k x at_k more split before i b lt is = by (cases_lt i k)
    where
      by : (i < k) ⊎ (k ≤ i) → P new b
      by (inl less) = grow old new b more (before i b less is)
      by (inr le) =
          let here : i ≡ k = omega (arith, le, lt) in
          let reported : slice_get (map f xs) k ≡ Some (f x) = slice_get-map f xs k ∙ ap (λ v. option_map f v) at_k in
          let both : Some (f x) ≡ Some b = sym reported ∙ subst (λ v. slice_get (map f xs) v ≡ Some b) here is in
          let same : f x ≡ b = cc both in
          subst (λ v. P new v) same split

  pub split_to_end : (bounds : List ℕ) (xs : List A) (k : ℕ) → length xs ≤ k → AreSplitTo bounds xs k → (i : ℕ)
      (b : B) → slice_get (map f xs) i ≡ Some b → P bounds b
  split_to_end bounds xs k le before i b is =
      let within = slice_get_within (map f xs) i b is in
      let size = length-map xs f in
      before i b (omega (arith, within, size, le)) is

-- numbers that are taken or rejected together
module _ (flat : Flat) (bounds : List ℕ) (split : AreNodesSplit bounds flat.nodes) where
  next_alike : (c : ℕ) → c + 1 < 2 ^ 32 → IsFree bounds (c + 1) → {q r : Dot} {set : Set} → Reads flat q set r
      → Has set c ↔ Has set (c + 1)
  next_alike c fits free (reads {s = s} at_s (letter {sets = sets} {k = k} {set = set} at_k)) =
      split s (Letters sets) at_s sets refl k set at_k c fits free

  row_alike : (n d : ℕ) → d + n < 2 ^ 32 → ((i : ℕ) → d < i → i ≤ d + n → IsFree bounds i) → {q r : Dot} {set : Set}
      → Reads flat q set r → Has set (d + n) ↔ Has set d
  row_alike zero d fits free {set = set} rd =
      let e : d ≡ d + 0 = omega arith in subst (λ v. Has set v ↔ Has set d) e (λ h. h, λ h. h)
  row_alike (suc n) d fits free {set = set} rd =
      let before = row_alike n d (omega (arith, fits)) (λ i lo hi. free i lo (omega (arith, hi))) rd in
      let step = next_alike (d + n) (omega (arith, fits)) (free (d + n + 1) (omega arith) (omega arith)) rd in
      let e : d + n + 1 ≡ d + suc n = omega arith in
      subst (λ v. Has set v ↔ Has set d) e (λ h. before.0 (step.1 h), λ h. step.0 (before.1 h))

  pub joined_alike : (c d : ℕ) → c < 2 ^ 32 → AreJoined bounds d c → AreAlike flat c d
  joined_alike c d fits j q r set rd =
      let le = j.0 in
      let e : d + (c - d) ≡ c = omega (arith, le) in
      subst (λ v. Has set v ↔ Has set d) e
      (row_alike (c - d) d (omega (arith, e, fits)) (λ i lo hi. j.1 i lo (omega (arith, hi, le))) rd)

  -- the last number up to c
  module _ (ordered : IsNonDecreasing bounds) (c k above : ℕ) (fits : c < 2 ^ 32) (within : above ≤ length bounds)
      (last : k + 1 ≡ above)
      (point : IsPartitionPoint (λ y. leb y c ≡ true) (λ y. leb y c ≡ false) bounds above) where
    abbrev sample : ℕ
    sample = get_or bounds k 0

    free_after : (i : ℕ) → sample < i → i ≤ c → IsFree bounds i
    free_after i lo hi = record { none = λ h. by h.0 h.1 h.2 (cases_lt h.0 above) }
      where
        by : (m : ℕ) → m < length bounds → get_or bounds m i ≡ i → (m < above) ⊎ (above ≤ m) → ⊥
        by m lt is (inl before) =
            let le = ordered m k 0 (omega (arith, before, last)) (omega (arith, within, last)) in
            let same = get_or_default bounds m i 0 lt in
            omega (arith, le, same, is, lo)
        by m lt is (inr after) =
            let more = leb-false (get_or bounds m i) c (point.1 m i after lt) in
            omega (arith, more, is, hi)

    pub class_reported : IsClassOf flat bounds c k
    class_reported = record {
      sample = sample;
      is = slice_get-get_or bounds k 0 (omega (arith, within, last));
      alike = joined_alike c sample fits (
        leb-true sample c (point.0 k 0 (omega arith) (omega (arith, last))),
        λ i lo hi. free_after i lo hi,
      );
    }

-- a number has a class
pub class_found : (flat : Flat) (bounds : List ℕ) → AreParted flat bounds → (c above : ℕ) → c < 2 ^ 32
    → above ≤ length bounds → IsPartitionPoint (λ y. leb y c ≡ true) (λ y. leb y c ≡ false) bounds above
    → (class : ℕ) → class ≡ above - 1 → IsClassOf flat bounds c class
class_found flat bounds parted c above fits within point class is = by (cases_lt 0 above)
  where
    by : (0 < above) ⊎ (above ≤ 0) → IsClassOf flat bounds c class
    by (inl some) =
        class_reported flat bounds parted.split parted.ordered c class above fits within (omega (arith, some, is)) point
    by (inr none) = absurd (parted.first (record {
      none = λ h.
          let lt = h.1 in
          let same = h.2 in
          let more = leb-false (get_or bounds h.0 0) c (point.1 h.0 0 (omega (arith, none)) lt) in
          omega (arith, more, same);
    }))

-- the classes of the first numbers, number by number
abbrev pub AreLowTo : Flat → List ℕ → List ℕ → ℕ → Type 0
AreLowTo flat samples low n = (c : ℕ) → c < n → IsClassOf flat samples c (get_or low c 0)

pub low_next : (flat : Flat) (samples low : List ℕ) (n k : ℕ) → n < length low → IsClassOf flat samples n k
    → AreLowTo flat samples low n → AreLowTo flat samples (set low n k) (n + 1)
low_next flat samples low n k within class before c lt = by (cases_lt c n)
  where
    by : (c < n) ⊎ (n ≤ c) → IsClassOf flat samples c (get_or (set low n k) c 0)
    by (inl less) =
        subst (λ v. IsClassOf flat samples c v) (sym (get_or-set_other low n c k 0 (λ e. omega (arith, less, e))))
        (before c less)
    by (inr more) =
        let here : c ≡ n = omega (arith, lt, more) in
        subst (λ v. IsClassOf flat samples c v) (sym (get_or-set_at low n c k 0 here within))
        (subst (λ v. IsClassOf flat samples v k) (sym here) class)

pub low_all : (flat : Flat) (samples low : List ℕ) (n : ℕ) → length low ≡ n → AreLowTo flat samples low n
    → HaveClasses flat samples low
low_all flat samples low n size all c k is =
    let lt = slice_get_within low c k is in
    let both : Some (get_or low c 0) ≡ Some k = sym (slice_get-get_or low c 0 lt) ∙ is in
    let same : get_or low c 0 ≡ k = cc both in
    subst (λ v. IsClassOf flat samples c v) same (all c (omega (arith, lt, size)))

pub rising_up : (xs : List ℕ) → IsStrictlyIncreasing xs → IsNonDecreasing xs
rising_up xs up = IsNonDecreasingBy-from_all_adjacent (λ x. x) xs (λ k d lt.
    let less = up k lt in
    let one = get_or_default xs k d 0 (omega (arith, lt)) in
    let two = get_or_default xs (k + 1) d 0 lt in
    omega (arith, less, one, two))

-- each number is at least its index, so the class of a number is at most that number
least_at : (xs : List ℕ) → IsStrictlyIncreasing xs → (k : ℕ) → k < length xs → k ≤ get_or xs k 0
least_at xs up zero lt = omega arith
least_at xs up (suc k) lt =
    let less = up k (omega (arith, lt)) in
    let before = least_at xs up k (omega (arith, lt)) in
    let e : k + 1 ≡ suc k = omega arith in
    let same = ap (λ v. get_or xs v 0) e in
    omega (arith, less, before, same)

pub class_low : (bounds : List ℕ) → IsStrictlyIncreasing bounds → (c above : ℕ) → above ≤ length bounds
    → IsPartitionPoint (λ y. leb y c ≡ true) (λ y. leb y c ≡ false) bounds above → (class : ℕ) → class ≡ above - 1
    → class ≤ c
class_low bounds up c above within point class is = by (cases_lt 0 above)
  where
    by : (0 < above) ⊎ (above ≤ 0) → class ≤ c
    by (inl some) =
        let last : class + 1 ≡ above = omega (arith, some, is) in
        let least = least_at bounds up class (omega (arith, last, within)) in
        let most = leb-true (get_or bounds class 0) c (point.0 class 0 (omega arith) (omega (arith, last))) in
        omega (arith, least, most)
    by (inr none) = omega (arith, none, is)

pub ascended_rise : (mid new : List ℕ) → IsSorted nat_cmp mid → IsFiltered (DiffersFromLast eqb) [] mid new
    → IsStrictlyIncreasing new
ascended_rise mid new sorted filtered =
    subst (λ v. IsStrictlyIncreasing v) (sym (dedup_is eqb mid new filtered)) (IsStrictlyIncreasing-dedup mid sorted)

pub ascended_more : (old mid new : List ℕ) → IsPermutation old mid → IsFiltered (DiffersFromLast eqb) [] mid new
    → AreMoreBounds old new
ascended_more old mid new moved filtered i free = record {
  none = λ h. free.none (subst (λ v. Contains v i) (sym (dedup_is eqb mid new filtered))
      (Contains-dedup_nat mid i (Contains-permutation old mid i moved h)));
}

pub classes_made : (flat : Flat) (none begun added sorted got low : List ℕ) → got ≡ sorted → IsBoundAdded none begun 0
    → AreMoreBounds begun added → AreNodesSplit added flat.nodes → AreMoreBounds added sorted
    → IsStrictlyIncreasing sorted → ((flat : Flat) → AreParted flat got → AreLow flat got low)
    → AreClasses flat low sorted
classes_made flat none begun added sorted got low same begins older split more ordered low_are =
    let parted : AreParted flat sorted = record {
      first = λ free. (begins 0 (older 0 (more 0 free))).1 refl;
      ordered = rising_up sorted ordered;
      split = more_nodes_split added sorted flat.nodes more split;
    } in
    record {
      low_are = subst (λ v. AreLow flat v low) same (low_are flat (subst (λ v. AreParted flat v) (sym same) parted));
      parted = parted;
    }
