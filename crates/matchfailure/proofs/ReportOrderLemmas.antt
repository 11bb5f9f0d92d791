-- What is reported is one list.
-- Serves: one_no_match
use Rattle.std.proofs.Common.{◌≡◌, ℕ, suc, ◌+◌, ◌<◌, Bool, true, false, cond, List, [], ◌∷◌}
use Rattle.std.proofs.Common.{length, map, get_or, Option, Some, None, refl, sym, ap, ◌∙◌, subst, arith}
use Rattle.std.specs.Prelude.{slice_get, bytes_eq}
use Rattle.std.specs.Cmp.Lexicographic.{slice_cmp}
use Rattle.std.specs.List.{sum_by}
use Rattle.std.specs.List.Sorted.{IsPermutation, IsSorted}
use Rattle.std.specs.Ordering.{nat_cmp, is_lt, ordering_then}
use Rattle.std.specs.declared.cmp.Ordering.{Ordering}
use Rattle.std.proofs.lemmas.Cmp.{nat_list_cmp_total}
use Rattle.std.proofs.lemmas.List.Sums.{sum_by-cons}
use Rattle.std.proofs.lemmas.Slice.Eq.{bytes_eq-Decides}
use Rattle.std.proofs.lemmas.List.Sorted.{sorted_far, ranks_by, sum_by-IsPermutation}
use Rattle.fixpoint.specs.Distances.{AreDistances}
use Rattle.matchfailure.specs.declared.farthest.visit.Visit.{Visit}
use Rattle.matchfailure.specs.ReportOrder.{AreReported, each_once, entry_text, key_of, use_rows, visit_of}
use Rattle.pegnodes.specs.Nodes.{Shape}
use Rattle.pegread.specs.Pattern.{Rule}

same-list : (xs ys : List (Option ℕ)) → length xs ≡ length ys
    → ((i : ℕ) (a b : Option ℕ) → slice_get xs i ≡ Some a → slice_get ys i ≡ Some b → a ≡ b) → xs ≡ ys
same-list [] [] e h = refl
same-list [] (b ∷ ys) e h = absurd (omega (arith, e))
same-list (a ∷ xs) [] e h = absurd (omega (arith, e))
same-list (a ∷ xs) (b ∷ ys) e h =
    let first = h 0 a b refl refl in
    let rest = same-list xs ys (omega (arith, e)) (λ i c d f g. h (suc i) c d f g) in
    cc (first, rest)

-- a rule has one distance
module _ (rows : List (List ℕ)) (s : ℕ) (xs ys : List (Option ℕ)) (f : AreDistances rows s xs)
    (g : AreDistances rows s ys) where
  one-entry : (i : ℕ) (a b : Option ℕ) → slice_get xs i ≡ Some a → slice_get ys i ≡ Some b → a ≡ b
  one-entry i None None h k = refl
  one-entry i None (Some m) h k =
      let far = f.whole i m (g.sound i m k).chain in absurd (cc (h, far.1))
  one-entry i (Some n) None h k =
      let far = g.whole i n (f.sound i n h).chain in absurd (cc (k, far.1))
  one-entry i (Some n) (Some m) h k =
      let one = f.sound i n h in
      let other = g.sound i m k in
      let same : n ≡ m = omega (arith, one.least m other.chain, other.least n one.chain) in
      ap Some same

  pub one-far : xs ≡ ys
  one-far = same-list xs ys (f.count ∙ sym g.count) one-entry

-- keys that are not ordered are equal
not-less : (a b : ℕ) (o p : Ordering) → is_lt (ordering_then (nat_cmp a b) o) ≡ false
    → is_lt (ordering_then (nat_cmp b a) p) ≡ false → (a ≡ b) × (is_lt o ≡ false) × (is_lt p ≡ false)
not-less a b o p h k = grind (arith, h, k)

one-key : (xs ys : List ℕ) → is_lt (slice_cmp nat_cmp xs ys) ≡ false → is_lt (slice_cmp nat_cmp ys xs) ≡ false
    → xs ≡ ys
one-key [] [] h k = refl
one-key [] (y ∷ ys) h k = absurd (cc h)
one-key (x ∷ xs) [] h k = absurd (cc k)
one-key (x ∷ xs) (y ∷ ys) h k =
    let is = not-less x y (slice_cmp nat_cmp xs ys) (slice_cmp nat_cmp ys xs) h k in
    let rest = one-key xs ys is.1 is.2 in
    cc (is.0, rest)

-- lists of the same keys
abbrev AreSame : List (List ℕ) → List (List ℕ) → Type 0
AreSame xs ys = (f : List ℕ → ℕ) → sum_by f xs ≡ sum_by f ys

abbrev mark : List ℕ → List ℕ → ℕ
mark x y = cond (bytes_eq x y) 1 0

abbrev HasKey : List ℕ → List (List ℕ) → Type 0
HasKey x ys = (j : ℕ) × (j < length ys) × ((d : List ℕ) → get_or ys j d ≡ x)

marked-by : (x y : List ℕ) (ys : List (List ℕ)) (b : Bool) → bytes_eq x y ≡ b → 0 < sum_by (mark x) (y ∷ ys)
    → (0 < sum_by (mark x) ys → HasKey x ys) → HasKey x (y ∷ ys)
marked-by x y ys true e some later = (0, omega arith, λ d. sym ((bytes_eq-Decides x y).0 e))
marked-by x y ys false e some later =
    let none : mark x y ≡ 0 = ap (λ b. cond b 1 0) e in
    let there = later (omega (arith, some, none, sum_by-cons (mark x) y ys)) in
    (suc there.0, omega (arith, there.1), there.2)

marked_key : (x : List ℕ) (ys : List (List ℕ)) → 0 < sum_by (mark x) ys → HasKey x ys
marked_key x [] some = absurd (omega (arith, some))
marked_key x (y ∷ ys) some = marked-by x y ys (bytes_eq x y) refl some (marked_key x ys)

in-sum : (x : List ℕ) (xs : List (List ℕ)) → 0 < sum_by (mark x) (x ∷ xs)
in-sum x xs =
    let one : mark x x ≡ 1 = ap (λ b. cond b 1 0) ((bytes_eq-Decides x x).1 refl) in
    omega (arith, one, sum_by-cons (mark x) x xs)

abbrev below : List ℕ → List ℕ → Bool
below x y = is_lt (slice_cmp nat_cmp x y)

abbrev AreUp : List (List ℕ) → Type 0
AreUp xs = IsSorted (slice_cmp nat_cmp) xs

-- the first of an ascending list is the least
first-least : (x : List ℕ) (xs : List (List ℕ)) → AreUp (x ∷ xs) → (j : ℕ) → j < length (x ∷ xs)
    → below (get_or (x ∷ xs) j []) x ≡ false
first-least x xs up j low = sorted_far below (ranks_by nat_list_cmp_total (λ k. k)) (x ∷ xs) up 0 j [] (omega arith) low

tail-up : (x : List ℕ) (xs : List (List ℕ)) → AreUp (x ∷ xs) → AreUp xs
tail-up x xs up k d low high =
    let same : suc k + 1 ≡ suc (k + 1) = omega arith in
    subst (λ n. below (get_or (x ∷ xs) n d) (get_or (x ∷ xs) (suc k) d) ≡ false) same
    (up (suc k) d (omega arith) (omega (arith, high)))

-- of two ascending lists of the same keys neither first is below the other
not-below : (x y : List ℕ) (xs ys : List (List ℕ)) → AreUp (y ∷ ys) → AreSame (x ∷ xs) (y ∷ ys) → below x y ≡ false
not-below x y xs ys up same =
    let there = marked_key x (y ∷ ys) (omega (arith, in-sum x xs, same (mark x))) in
    subst (λ z. below z y ≡ false) (there.2 []) (first-least y ys up there.0 there.1)

rest-same : (x : List ℕ) (xs ys : List (List ℕ)) → AreSame (x ∷ xs) (x ∷ ys) → AreSame xs ys
rest-same x xs ys same f = omega (arith, same f, sum_by-cons f x xs, sum_by-cons f x ys)

pub same-sorted : (xs ys : List (List ℕ)) → AreUp xs → AreUp ys → AreSame xs ys → xs ≡ ys
same-sorted [] [] up high same = refl
same-sorted [] (y ∷ ys) up high same =
    absurd (omega (arith, same (λ k. 1), sum_by-cons (λ (k : List ℕ). 1) y ys))
same-sorted (x ∷ xs) [] up high same =
    absurd (omega (arith, same (λ k. 1), sum_by-cons (λ (k : List ℕ). 1) x xs))
same-sorted (x ∷ xs) (y ∷ ys) up high same =
    let is = one-key x y (not-below x y xs ys high same) (not-below y x ys xs up (λ f. sym (same f))) in
    let turned : AreSame (x ∷ xs) (x ∷ ys) = subst (λ z. AreSame (x ∷ xs) (z ∷ ys)) (sym is) same in
    let rest = same-sorted xs ys (tail-up x xs up) (tail-up y ys high) (rest-same x xs ys turned) in
    cc (is, rest)

pub one-in_report_order : (rules : List Rule) (start : ℕ) (nodes : List Shape) (bodies : List ℕ) (unit position : ℕ)
    (expected a b : List Visit) → AreReported rules start nodes bodies unit position expected a
    → AreReported rules start nodes bodies unit position expected b → a ≡ b
one-in_report_order rules start nodes bodies unit position expected a b f g =
    let far = one-far (use_rows nodes 0 bodies) start f.far g.far f.distances g.distances in
    let turned : IsPermutation (map (key_of f.far nodes bodies) expected) g.keys =
    subst (λ d. IsPermutation (map (key_of d nodes bodies) expected) g.keys) (sym far) g.same in
    let keys = same-sorted f.keys g.keys f.ascend g.ascend (λ h.
    sum_by-IsPermutation h _ _ f.same ∙ sym (sum_by-IsPermutation h _ _ turned)) in
    f.are ∙ ap (λ ks. each_once (entry_text rules start nodes bodies unit position) [] (map visit_of ks)) keys
    ∙ sym g.are
