-- Items linked by buckets, and a walk along a bucket.
-- Serves: judge.
use Rattle.std.proofs.Common.{◌≡◌, ℕ, zero, suc, ◌+◌, ◌-◌, ◌<◌, ◌≤◌, ◌⊎◌, inl, inr, List, [], ◌∷◌, ◌++◌, length, set}
use Rattle.std.proofs.Common.{take, Some, refl, ap, sym, ◌∙◌, ⊎_elim, arith, slice_get, slice_index_or, length-append}
use Rattle.std.proofs.Common.{length-set, add-one}
use Rattle.std.proofs.lemmas.List.{length-take-le}
use Rattle.std.proofs.lemmas.Option.{slice_get_within}
use Rattle.flatgrammar.specs.Positions.{In, now, on}
use Rattle.flatgrammar.specs.declared.flat_item.Item.{Item}
use Rattle.flatgrammar.proofs.CallOfLemmas.{some_same}
use Rattle.flatgrammar.proofs.SliceGetLemmas.{push_cases}
use Rattle.earleyitems.specs.ItemBuckets.{IsIn, IsLast, AreLinked, AreWithin}

pub end_get : {A : Type 0} (xs : List A) (a : A) → slice_get (xs ++ a ∷ []) (length xs) ≡ Some a
end_get [] a = refl
end_get (x ∷ xs) a = end_get xs a

pub keeps_get : {A : Type 0} (xs ys : List A) (n : ℕ) (a : A) → slice_get xs n ≡ Some a
    → slice_get (xs ++ ys) n ≡ Some a
keeps_get [] ys n a h = absurd cc
keeps_get (x ∷ xs) ys zero a h = h
keeps_get (x ∷ xs) ys (suc n) a h = keeps_get xs ys n a h

pub set_cases : {A : Type 0} (xs : List A) (i j : ℕ) (v x : A) → slice_get (set xs i v) j ≡ Some x → ((j ≡ i) × (v ≡ x))
    ⊎ ((j ≡ i → ⊥) × (slice_get xs j ≡ Some x))
set_cases [] i j v x h = absurd cc
set_cases (y ∷ xs) zero zero v x h = inl (refl, some_same h)
set_cases (y ∷ xs) zero (suc j) v x h = inr (λ e. absurd (omega arith), h)
set_cases (y ∷ xs) (suc i) zero v x h = inr (λ e. absurd (omega arith), h)
set_cases (y ∷ xs) (suc i) (suc j) v x h = ⊎_elim (λ k. inl (ap (λ n. suc n) k.0, k.1))
    (λ k. inr ((λ e. k.0 (omega arith)), k.1)) (set_cases xs i j v x h)

-- a member has an index
pub in_get : {A : Type 0} (a : A) (xs : List A) → In a xs → (j : ℕ) × (slice_get xs j ≡ Some a)
in_get a [] h = elim h [ ]
in_get a (x ∷ xs) (now same) = (0, ap (λ v. Some v) (sym same))
in_get a (x ∷ xs) (on h) = let g = in_get a xs h in (suc g.0, g.1)

pub get_in : {A : Type 0} (a : A) (xs : List A) (j : ℕ) → slice_get xs j ≡ Some a → In a xs
get_in a [] j h = absurd cc
get_in a (x ∷ xs) zero h = now (sym (some_same h))
get_in a (x ∷ xs) (suc j) h = on (get_in a xs j h)

pub get_index : {A : Type 0} (xs : List A) (k : ℕ) (d : A) → k < length xs
    → slice_get xs k ≡ Some (slice_index_or xs k d)
get_index [] k d lt = absurd (omega (arith, lt))
get_index (x ∷ xs) zero d lt = refl
get_index (x ∷ xs) (suc k) d lt = get_index xs k d (let less : k < length xs = omega (arith, lt) in less)

pub index_get : {A : Type 0} (xs : List A) (k : ℕ) (y : A) → slice_get xs k ≡ Some y → y ≡ slice_index_or xs k y
index_get [] k y h = refl
index_get (x ∷ xs) zero y h = sym (some_same h)
index_get (x ∷ xs) (suc k) y h = index_get xs k y h

pub or_get : {A : Type 0} (xs : List A) (k : ℕ) (d y : A) → slice_get xs k ≡ Some y → slice_index_or xs k d ≡ y
or_get [] k d y h = absurd (let no = h in cc)
or_get (x ∷ xs) zero d y h = some_same h
or_get (x ∷ xs) (suc k) d y h = or_get xs k d y h

take_next : {A : Type 0} (xs : List A) (i : ℕ) (x : A) → slice_get xs i ≡ Some x → take (suc i) xs ≡ take i xs ++ x ∷ []
take_next [] i x h = absurd cc
take_next (y ∷ ys) zero x h = ap (λ v. v ∷ []) (some_same h)
take_next (y ∷ ys) (suc i) x h = ap (λ l. y ∷ l) (take_next ys i x h)

set_get : {A : Type 0} (xs : List A) (i : ℕ) (a : A) → i < length xs → slice_get (set xs i a) i ≡ Some a
set_get [] i a lt = absurd (omega (arith, lt))
set_get (x ∷ xs) zero a lt = refl
set_get (x ∷ xs) (suc i) a lt = set_get xs i a (let less : i < length xs = omega (arith, lt) in less)

-- more room for buckets adds no number
pub within_kept : (list : List Item) (buckets buckets' : List ℕ) (base : ℕ)
    → ((b h : ℕ) → slice_get buckets' b ≡ Some h → 0 < h → slice_get buckets b ≡ Some h)
    → AreWithin list buckets base → AreWithin list buckets' base
within_kept list buckets buckets' base kept within b zero g = omega arith
within_kept list buckets buckets' base kept within b (suc h) g = within b (suc h) (kept b (suc h) g (omega arith))

-- buckets hold as much where there are more items
pub within_push : (list : List Item) (a : Item) (buckets : List ℕ) (base : ℕ) → AreWithin list buckets base
    → AreWithin (list ++ a ∷ []) buckets base
within_push list a buckets base within b h g =
    let le = within b h g in
    let size = length-append list (a ∷ []) in
    omega (arith, le, size)

pub within_more : (list : List Item) (buckets : List ℕ) (base : ℕ) → AreWithin [] buckets base
    → AreWithin list buckets base
within_more list buckets base within b h g = let le = within b h g in omega (arith, le)

-- from a base past all numbers in buckets, they hold nothing
pub within_none : (list : List Item) (buckets : List ℕ) (base next : ℕ) → next ≡ base + length list
    → AreWithin list buckets base → AreWithin [] buckets next
within_none list buckets base next is within b h g = let le = within b h g in omega (arith, is, le)

pub within_set : (list : List Item) (buckets : List ℕ) (base i v : ℕ) → v ≤ base + length list
    → AreWithin list buckets base
    → AreWithin list (set buckets i v) base
within_set list buckets base i v le within b h g = ⊎_elim (λ e. let same = e.1 in omega (arith, same, le))
    (λ e. within b h e.1) (set_cases buckets i b v h g)

module _ (bucket : Item → ℕ) where
  pub none_linked : (links buckets : List ℕ) (base : ℕ) → 0 < length buckets → AreWithin [] buckets base
      → AreLinked bucket [] links buckets base
  none_linked links buckets base some none = record {
    long = omega arith;
    some = some;
    before = λ i l a h g. absurd (let no = h in cc);
    last = λ b h g. let le = none b h g in record {
      within = omega (arith, le);
      here = λ pos. absurd (omega (arith, le, pos));
      after = λ j a ge lt e same. absurd (let no = e in cc);
    };
  }

  pub linked_within : (list : List Item) (links buckets : List ℕ) (base : ℕ) → AreLinked bucket list links buckets base
      → AreWithin list buckets base
  linked_within list links buckets base l b h g = let le = (l.last b h g).within in omega (arith, le)

  -- the last item of a bucket, by the bucket's number
  pub last_reported : (list : List Item) (links buckets : List ℕ) (base b d : ℕ)
      → AreLinked bucket list links buckets base
      → b < length buckets → IsLast bucket list (length list) b (slice_index_or buckets b d - base)
  last_reported list links buckets base b d l lt = l.last b (slice_index_or buckets b d) (get_index buckets b d lt)

  in_push : (list : List Item) (a : Item) (b j : ℕ) → IsIn bucket list b j → IsIn bucket (list ++ a ∷ []) b j
  in_push list a b j i = (i.0, keeps_get list (a ∷ []) j i.0 i.1, i.2)

  last_push : (list : List Item) (a : Item) (k b at : ℕ) → k ≤ length list → IsLast bucket list k b at
      → IsLast bucket (list ++ a ∷ []) k b at
  last_push list a k b at le l = record {
    within = l.within;
    here = λ h. in_push list a b (at - 1) (l.here h);
    after = λ j d ge lt e same. ⊎_elim (λ e'. l.after j d ge lt e' same)
        (λ m. absurd (let n = m.0 in omega (arith, n, lt, le))) (push_cases list a j d e);
  }

  -- an item of another bucket after them
  last_other : (list : List Item) (a : Item) (b at : ℕ) → (bucket a ≡ b → ⊥) → IsLast bucket list (length list) b at
      → IsLast bucket (list ++ a ∷ []) (length (list ++ a ∷ [])) b at
  last_other list a b at other l = record {
    within = let le = l.within in let size = length-append list (a ∷ []) in omega (arith, le, size);
    here = λ h. in_push list a b (at - 1) (l.here h);
    after = λ j d ge lt e same. ⊎_elim (λ e'. l.after j d ge (slice_get_within list j d e') e' same)
        (λ m. other (ap bucket m.1 ∙ same)) (push_cases list a j d e);
  }

  -- an item of that bucket after them
  last_new : (list : List Item) (a : Item) (b at : ℕ) → b ≡ bucket a → at ≡ length list + 1
      → IsLast bucket (list ++ a ∷ []) (length (list ++ a ∷ [])) b at
  last_new list a b at is here = record {
    within = let size = length-append list (a ∷ []) in omega (arith, here, size);
    here = λ pos. let one : at - 1 ≡ length list = omega (arith, here) in rw one (a, end_get list a, sym is);
    after = λ j d ge lt e same. let size = length-append list (a ∷ []) in absurd (omega (arith, here, size, ge, lt));
  }

  -- other links after those of the items
  pub linked_same : (list : List Item) (links links' buckets : List ℕ) (base : ℕ)
      → AreLinked bucket list links buckets base
      → length list ≤ length links' →
      ((i l : ℕ) → i < length list → slice_get links' i ≡ Some l → slice_get links i ≡ Some l)
      → AreLinked bucket list links' buckets base
  linked_same list links links' buckets base l long same = record {
    long = long;
    some = l.some;
    before = λ i k a h g. l.before i k a h (same i k (slice_get_within list i a h) g);
    last = l.last;
  }

  pub linked_push : (list : List Item) (links buckets : List ℕ) (base : ℕ) (a : Item) (last reported : ℕ)
      → AreLinked bucket list links buckets base → slice_get links (length list) ≡ Some last →
      IsLast bucket list (length list) (bucket a) last → reported ≡ base + (length list + 1) →
      AreLinked bucket (list ++ a ∷ []) links (set buckets (bucket a) reported) base
  linked_push list links buckets base a last reported l is at_last reports = record {
    long = let lt = slice_get_within links (length list) last is in let size = length-append list (a ∷ []) in
        omega (arith, lt, size);
    some = let n = length-set buckets (bucket a) reported in let some = l.some in omega (arith, some, n);
    before = λ i k d h g. by_link i k d g (push_cases list a i d h);
    last = λ b h g. by_bucket b h (set_cases buckets (bucket a) b reported h g);
  }
    where
      by_link : (i k : ℕ) (d : Item) → slice_get links i ≡ Some k → (slice_get list i ≡ Some d)
          ⊎ ((i ≡ length list) × (a ≡ d)) → IsLast bucket (list ++ a ∷ []) i (bucket d) k
      by_link i k d g (inl e) = let lt = slice_get_within list i d e in last_push list a i (bucket d) k (omega (
        arith,
        lt,
      ))
          (l.before i k d e g)
      by_link i k d g (inr m) =
          let k_is : last ≡ k = some_same (sym is ∙ (ap (λ n. slice_get links n) (sym m.0) ∙ g)) in
          rw (m.0, ← m.1, ← k_is) (last_push list a (length list) (bucket a) last (omega arith) at_last)

      by_bucket : (b h : ℕ) → ((b ≡ bucket a) × (reported ≡ h)) ⊎ ((b ≡ bucket a → ⊥) × (slice_get buckets b ≡ Some h))
          → IsLast bucket (list ++ a ∷ []) (length (list ++ a ∷ [])) b (h - base)
      by_bucket b h (inl m) = let n = m.1 in last_new list a b (h - base) m.0 (omega (arith, n, reports))
      by_bucket b h (inr m) = last_other list a b (h - base) (λ same. m.0 (sym same)) (l.last b h m.1)

  -- the next item of a list of which the first i are linked
  pub linked_next : (list : List Item) (links buckets : List ℕ) (base i last reported : ℕ) (a : Item)
      → slice_get list i ≡ Some a → length list ≤ length links →
      AreLinked bucket (take i list) links buckets base → IsLast bucket (take i list) (length (take i list)) (bucket
      a) last
      → reported ≡ base + (i + 1) →
      AreLinked bucket (take (i + 1) list) (set links i last) (set buckets (bucket a) reported) base
  linked_next list links buckets base i last reported a is long l at_last reports =
      let lt = slice_get_within list i a is in
      let count : length (take i list) ≡ i = length-take-le i list (omega (arith, lt)) in
      let size = length-set links i last in
      let kept = linked_same (take i list) links (set links i last) buckets base l
      (omega (arith, count, size, long, lt)) (λ j k less g. other j k less g count) in
      let here : slice_get (set links i last) (length (take i list)) ≡ Some last =
      rw count (set_get links i last (omega (arith, lt, long))) in
      let pushed = linked_push (take i list) (set links i last) buckets base a last reported kept here at_last
      (omega (arith, reports, count)) in
      rw (add-one i, take_next list i a is) pushed
    where
      other : (j k : ℕ) → j < length (take i list) → slice_get (set links i last) j ≡ Some k → length (take i list) ≡ i
          → slice_get links j ≡ Some k
      other j k less g count = ⊎_elim (λ e. absurd (let same = e.0 in omega (arith, same, less, count))) (λ e. e.1)
          (set_cases links i j last k g)

  -- no item is the one sought at `at` or later, and before it stands one of its bucket
  pub record IsSought (list : List Item) (item : Item) (at : ℕ) : Type 0 where
    pub within : at ≤ length list
    pub here : 0 < at → IsIn bucket list (bucket item) (at - 1)
    pub after : (j : ℕ) (a : Item) → at ≤ j → slice_get list j ≡ Some a → a ≡ item → ⊥

  pub sought_start : (list : List Item) (item : Item) (at : ℕ) → IsLast bucket list (length list) (bucket item) at
      → IsSought list item at
  sought_start list item at l = record {
    within = l.within;
    here = l.here;
    after = λ j a ge e same. l.after j a ge (slice_get_within list j a e) e (ap bucket same);
  }

  le_cases : (j at : ℕ) → 0 < at → (j < at - 1) ⊎ ((j ≡ at - 1) ⊎ (at ≤ j))
  le_cases j at h = grind arith

  pub sought_next : (list : List Item) (links buckets : List ℕ) (base : ℕ) (item a : Item) (at link : ℕ)
      → AreLinked bucket list links buckets base → IsSought list item at → 0 < at →
      slice_get list (at - 1) ≡ Some a → slice_get links (at - 1) ≡ Some link → (a ≡ item → ⊥) → (link < at)
      × IsSought list item link
  sought_next list links buckets base item a at link l s pos e g other =
      let i = s.here pos in
      let in_bucket : bucket a ≡ bucket item = ap bucket (some_same (sym e ∙ i.1)) ∙ i.2 in
      let last = l.before (at - 1) link a e g in
      let le : link ≤ at - 1 = last.within in
      let within = s.within in (
        omega (arith, le, pos),
        record {
          within = omega (arith, le, within);
          here = λ h. let k = last.here h in (k.0, k.1, k.2 ∙ in_bucket);
          after = λ j d ge f same. by j d ge f same (le_cases j at pos);
        },
      )
    where
      by : (j : ℕ) (d : Item) → link ≤ j → slice_get list j ≡ Some d → d ≡ item → (j < at - 1)
          ⊎ ((j ≡ at - 1) ⊎ (at ≤ j)) → ⊥
      by j d ge f same (inl m) =
          let i = s.here pos in
          let in_bucket : bucket a ≡ bucket item = ap bucket (some_same (sym e ∙ i.1)) ∙ i.2 in
          (l.before (at - 1) link a e g).after j d ge m f (ap bucket same ∙ sym in_bucket)
      by j d ge f same (inr (inl m)) = other (some_same (sym e ∙ (ap (λ n. slice_get list n) (sym m) ∙ f)) ∙ same)
      by j d ge f same (inr (inr m)) = s.after j d m f same

  -- one step of the walk, by indices
  pub sought_step : (list : List Item) (links : List ℕ) (item : Item) (at : ℕ) (d : Item) (e : ℕ) → (buckets : List ℕ)
      × ((base : ℕ) × (AreLinked bucket list links buckets base)) → IsSought list item at → 0 < at →
      (slice_index_or list (at - 1) d ≡ item → ⊥) → (slice_index_or links (at - 1) e < at)
      × IsSought list item (slice_index_or links (at - 1) e)
  sought_step list links item at d e l s pos other =
      let within = s.within in
      let long = l.1.1.long in
      let lt : at - 1 < length list = omega (arith, within, pos) in
      sought_next list links l.0 l.1.0 item (slice_index_or list (at - 1) d) at
      (slice_index_or links (at - 1) e) l.1.1 s
      pos
      (get_index list (at - 1) d lt) (get_index links (at - 1) e (omega (arith, lt, long))) other

  pub sought_none : (list : List Item) (item : Item) (at : ℕ) → at ≤ 0 → IsSought list item at → In item list → ⊥
  sought_none list item at le s h = let g = in_get item list h in s.after g.0 item (omega (arith, le)) g.1 refl
