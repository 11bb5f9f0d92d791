-- The items of rows.
-- Serves: judge
use Rattle.std.proofs.Common.{◌≡◌, ◌⊎◌, inl, inr, ⊎_elim, ℕ, zero, suc, ◌+◌, ◌<◌, ◌≤◌, List, [], ◌∷◌, length, map}
use Rattle.std.proofs.Common.{slice_index_or, slice_get, Some, Contains, refl, sym, ◌∙◌, ap, subst, arith}
use Rattle.std.proofs.Common.{length-append}
use Rattle.std.proofs.lemmas.Bool.{cases_lt}
use Rattle.std.proofs.lemmas.List.{length-map}
use Rattle.std.proofs.lemmas.List.Kept.{AllPairs-from_increasing}
use Rattle.std.proofs.lemmas.List.Sums.{sum_by-cons}
use Rattle.std.specs.List.{sum_by, AllPairs}
use Rattle.std.specs.List.Sorted.{IsStrictlyIncreasing}
use Rattle.std.specs.Prelude.{replicate}
use Rattle.earley.specs.RowSets.{HasAt}
use Rattle.earleyitems.proofs.ClosureLemmas.{in_right, in_either, different_both}
use Rattle.flatgrammar.proofs.CallOfLemmas.{some_same, equal_or}
use Rattle.flatgrammar.proofs.InLemmas.{in_left}
use Rattle.flatgrammar.specs.ItemClosures.{item_at, dot}
use Rattle.flatgrammar.specs.Positions.{In, now, on, AreDifferent}
use Rattle.flatgrammar.specs.declared.closure.DottedRule.{DottedRule}
use Rattle.flatgrammar.specs.declared.flat_item.Item.{Item}
use Rattle.earley.specs.RowItems.{IsRowItem, row_items}

index_in : (xs : List ℕ) (i k : ℕ) → i < length xs → slice_index_or xs i k ≡ k → In k xs
index_in [] i k lt is = absurd (omega arith)
index_in (x ∷ xs) zero k lt is = now (sym is)
index_in (x ∷ xs) (suc i) k lt is = on (index_in xs i k (omega (arith, lt)) is)

pub contains_in : (xs : List ℕ) (k : ℕ) → Contains xs k → In k xs
contains_in xs k h = index_in xs h.0 k h.1 h.2

pub in_contains : (xs : List ℕ) (k : ℕ) → In k xs → Contains xs k
in_contains [] k h = elim h [ ]
in_contains (x ∷ xs) k (now same) = (zero, omega arith, sym same)
in_contains (x ∷ xs) k (on h) = let c = in_contains xs k h in (suc c.0, omega (arith, c.1), c.2)

in_rest : (x k : ℕ) (xs : List ℕ) → In k (x ∷ xs) → (k ≡ x → ⊥) → (In k xs → ⊥) → ⊥
in_rest x k xs (now same) other none = other same
in_rest x k xs (on h) other none = none h

in_or : (xs : List ℕ) (k : ℕ) → In k xs ⊎ (In k xs → ⊥)
in_or [] k = inr (λ h. elim h [ ])
in_or (x ∷ xs) k = ⊎_elim (λ same. inl (now same)) (λ other. ⊎_elim (λ h. inl (on h))
    (λ none. inr (λ h. in_rest x k xs h other none)) (in_or xs k)) (equal_or k x)

pub contains_or : (xs : List ℕ) (k : ℕ) → Contains xs k ⊎ (Contains xs k → ⊥)
contains_or xs k = ⊎_elim (λ h. inl (in_contains xs k h)) (λ none. inr (λ h. none (contains_in xs k h))) (in_or xs k)

pub none_contains : (k : ℕ) → Contains [] k → ⊥
none_contains k h = omega (arith, h.1)

pub no_number : (n p k : ℕ) → HasAt (replicate n []) p k → ⊥
no_number zero p k h = none_contains k h
no_number (suc n) zero k h = none_contains k h
no_number (suc n) (suc p) k h = no_number n p k h

-- the items of one dotted rule
number_in : (s : DottedRule) (row : List ℕ) (k : ℕ) → In k row → In (item_at k s) (map (λ n. item_at n s) row)
number_in s [] k h = elim h [ ]
number_in s (n ∷ row) k (now same) = now (ap (λ v. item_at v s) same)
number_in s (n ∷ row) k (on h) = on (number_in s row k h)

record Numbered (s : DottedRule) (row : List ℕ) (a : Item) : Type 0 where
  number : ℕ
  stands : In number row
  is : a ≡ item_at number s

in_numbers : (s : DottedRule) (row : List ℕ) (a : Item) → In a (map (λ n. item_at n s) row) → Numbered s row a
in_numbers s [] a h = elim h [ ]
in_numbers s (n ∷ row) a (now same) = record { number = n; stands = now refl; is = same }
in_numbers s (n ∷ row) a (on h) = let f = in_numbers s row a h in
    record { number = f.number; stands = on f.stands; is = f.is }

at_row_in : (dots : List DottedRule) (rows : List (List ℕ)) (p : ℕ) (a : Item)
    → slice_get dots p ≡ Some (dot a.node a.step) → HasAt rows p a.origin → In a (row_items dots rows)
at_row_in [] rows p a is has = absurd (cc is)
at_row_in (s ∷ dots) [] p a is has = absurd (none_contains a.origin has)
at_row_in (s ∷ dots) (row ∷ rows) zero a is has =
    let same : s ≡ dot a.node a.step = some_same is in
    in_left (row_items dots rows) (subst (λ v. In (item_at a.origin v) (map (λ n. item_at n s) row)) same
    (number_in s row a.origin (contains_in row a.origin has)))
at_row_in (s ∷ dots) (row ∷ rows) (suc p) a is has =
    in_right (map (λ n. item_at n s) row) (at_row_in dots rows p a is has)

pub row_item_in : (dots : List DottedRule) (rows : List (List ℕ)) (a : Item) → IsRowItem dots rows a
    → In a (row_items dots rows)
row_item_in dots rows a h = at_row_in dots rows h.position a h.is h.has

here_item : (s : DottedRule) (row : List ℕ) (dots : List DottedRule) (rows : List (List ℕ)) (a : Item)
    → Numbered s row a
    → IsRowItem (s ∷ dots) (row ∷ rows) a
here_item s row dots rows a f = record {
  position = zero;
  is = ap (λ v. Some (dot v.node v.step)) (sym f.is);
  has = in_contains row a.origin (subst (λ v. In v row) (sym (ap (λ v. v.origin) f.is)) f.stands);
}

there_item : (s : DottedRule) (row : List ℕ) (dots : List DottedRule) (rows : List (List ℕ)) (a : Item)
    → IsRowItem dots rows a
    → IsRowItem (s ∷ dots) (row ∷ rows) a
there_item s row dots rows a h = record { position = suc h.position; is = h.is; has = h.has }

pub in_row_item : (dots : List DottedRule) (rows : List (List ℕ)) (a : Item) → In a (row_items dots rows)
    → IsRowItem dots rows a
in_row_item [] rows a h = elim h [ ]
in_row_item (s ∷ dots) [] a h = elim h [ ]
in_row_item (s ∷ dots) (row ∷ rows) a h =
    ⊎_elim (λ m. here_item s row dots rows a (in_numbers s row a m))
    (λ r. there_item s row dots rows a (in_row_item dots rows a r)) (in_either (map (λ n. item_at n s) row) h)

-- how many they are
pub length_row_items : (dots : List DottedRule) (rows : List (List ℕ)) → length dots ≡ length rows
    → length (row_items dots rows) ≡ sum_by (λ row. length row) rows
length_row_items [] [] same = refl
length_row_items [] (row ∷ rows) same = absurd (omega (arith, same))
length_row_items (s ∷ dots) [] same = absurd (omega (arith, same))
length_row_items (s ∷ dots) (row ∷ rows) same =
    length-append (map (λ n. item_at n s) row) (row_items dots rows)
    ∙ (ap (λ v. v + length (row_items dots rows)) (length-map row (λ n. item_at n s))
    ∙ (ap (λ v. length row + v) (length_row_items dots rows (omega (arith, same)))
    ∙ sym (sum_by-cons (λ r. length r) row rows)))

-- each once
pairs_different : (xs : List ℕ) → AllPairs (λ x y. x < y) xs → AreDifferent xs
pairs_different [] pairs = tt
pairs_different (x ∷ xs) pairs = (
  (λ h. let c = in_contains xs x h in
      let lt : x < slice_index_or xs c.0 x = pairs zero (suc c.0) x (omega arith) (omega (arith, c.1)) in
      let is = c.2 in omega (arith, lt, is)),
  pairs_different xs (λ i j d lt below. pairs (suc i) (suc j) d (omega (arith, lt)) (omega (arith, below))),
)

numbers_different : (s : DottedRule) (row : List ℕ) → AreDifferent row → AreDifferent (map (λ n. item_at n s) row)
numbers_different s [] d = tt
numbers_different s (n ∷ row) d = (
  (λ h. let f = in_numbers s row (item_at n s) h in
      d.0 (subst (λ v. In v row) (sym (ap (λ v. v.origin) f.is)) f.stands)),
  numbers_different s row d.1,
)

in_dots : (dots : List DottedRule) (p : ℕ) (s : DottedRule) → slice_get dots p ≡ Some s → In s dots
in_dots [] p s is = absurd (cc is)
in_dots (t ∷ dots) zero s is = now (sym (some_same is))
in_dots (t ∷ dots) (suc p) s is = on (in_dots dots p s is)

pub row_items_different : (dots : List DottedRule) (rows : List (List ℕ)) → AreDifferent dots
    → ((p : ℕ) → IsStrictlyIncreasing (slice_index_or rows p [])) → AreDifferent (row_items dots rows)
row_items_different [] rows d up = tt
row_items_different (s ∷ dots) [] d up = tt
row_items_different (s ∷ dots) (row ∷ rows) d up =
    different_both (map (λ n. item_at n s) row) (row_items dots rows)
    (numbers_different s row (pairs_different row (AllPairs-from_increasing row (up zero))))
    (row_items_different dots rows d.1 (λ p. up (suc p)))
    (λ a m r. let f = in_numbers s row a m in let h = in_row_item dots rows a r in
    let same : dot a.node a.step ≡ s = ap (λ v. dot v.node v.step) f.is in
    d.0 (subst (λ v. In v dots) same (in_dots dots h.position (dot a.node a.step) h.is)))

same_index : (rows : List (List ℕ)) (i : ℕ) (d e : List ℕ) → i < length rows
    → slice_index_or rows i d ≡ slice_index_or rows i e
same_index [] i d e lt = absurd (omega arith)
same_index (r ∷ rows) zero d e lt = refl
same_index (r ∷ rows) (suc i) d e lt = same_index rows i d e (omega (arith, lt))

-- rows that ascend, as far as a loop has come
pub one_more_ascends : (rows : List (List ℕ)) (i : ℕ) (d : List ℕ)
    → ((p : ℕ) → p < i → IsStrictlyIncreasing (slice_index_or rows p [])) → i < length rows
    → IsStrictlyIncreasing (slice_index_or rows i d)
    → (p : ℕ) → p < i + 1 → IsStrictlyIncreasing (slice_index_or rows p [])
one_more_ascends rows i d up lt here p less = ⊎_elim (λ low. up p low)
    (λ past. let same : i ≡ p = omega (arith, less, past) in
    subst (λ v. IsStrictlyIncreasing (slice_index_or rows v [])) same
    (subst (λ v. IsStrictlyIncreasing v) (same_index rows i d [] lt) here))
    (cases_lt p i)

none_ascends : IsStrictlyIncreasing []
none_ascends k lt = absurd (omega (arith, lt))

pub index_past : (rows : List (List ℕ)) (p : ℕ) → length rows ≤ p → slice_index_or rows p [] ≡ []
index_past [] p le = refl
index_past (r ∷ rows) zero le = absurd (omega (arith, le))
index_past (r ∷ rows) (suc p) le = index_past rows p (omega (arith, le))

pub past_ascends : (rows : List (List ℕ)) (i : ℕ)
    → ((p : ℕ) → p < i → IsStrictlyIncreasing (slice_index_or rows p [])) → length rows ≤ i
    → (p : ℕ) → IsStrictlyIncreasing (slice_index_or rows p [])
past_ascends rows i up le p = ⊎_elim (λ low. up p low)
    (λ past. subst (λ v. IsStrictlyIncreasing v) (sym (index_past rows p (omega (arith, le, past)))) none_ascends)
    (cases_lt p i)
