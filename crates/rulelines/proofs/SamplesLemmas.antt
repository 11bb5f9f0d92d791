-- Samples of the classes of two grammars.
-- Serves: common_samples.
use Rattle.std.proofs.Common.{◌≡◌, ℕ, zero, suc, ◌+◌, ◌<◌, ◌≤◌, ◌^◌, Bool, true, false, List, [], ◌∷◌, ◌++◌}
use Rattle.std.proofs.Common.{length, map, refl, sym, ◌∙◌, ap, subst, arith, ◌⊎◌, inl, inr, eqb, get_or}
use Rattle.std.proofs.lemmas.Bool.{cases_eq, cases_lt}
use Rattle.std.proofs.lemmas.Bool.Decides.{nat_tests}
use Rattle.std.proofs.lemmas.List.Elements.{Contains-append_left, Contains-append_right, Contains-push}
use Rattle.std.proofs.lemmas.List.Elements.{Contains-push_cases}
use Rattle.std.proofs.lemmas.List.Filters.{dedup_is}
use Rattle.std.proofs.lemmas.List.Kept.{AllPairs-from_increasing, Contains-dedup_nat, Contains-from_dedup}
use Rattle.std.proofs.lemmas.List.Sorted.{Contains-permutation, IsPermutation-sym}
use Rattle.std.proofs.lemmas.Map.Keys.{IsStrictlyIncreasing-dedup}
use Rattle.std.proofs.lemmas.Option.{slice_get_within}
use Rattle.std.specs.List.Retain.{IsFiltered, DiffersFromLast}
use Rattle.std.specs.List.Sorted.{IsPermutation, IsSorted, IsStrictlyIncreasing}
use Rattle.std.specs.Ordering.{nat_cmp}
use Rattle.std.specs.Prelude.{slice_get, Some, Contains}
use Rattle.ruletable.specs.Letters.{has}
use Rattle.ruletable.specs.declared.alphabet.Alphabet.{Alphabet}
use Rattle.ruletable.specs.declared.alphabet.Alphabet.TheVariants.{Bytes, Utf8}
use Rattle.flatgrammar.specs.Flat.{Flat}
use Rattle.flatgrammar.proofs.CallOfLemmas.{get_map, get_unmap}
use Rattle.flatgrammar.specs.ClassBounds.{AreJoined, AreNodesSplit, IsFree}
use Rattle.flatgrammar.proofs.AreClassesLemmas.{joined_alike, more_nodes_split}
use Rattle.lazydfa.proofs.StateSetsLemmas.{contained_at, got_at}
use Rattle.rulelines.specs.FirstLines.{sort_key}
use Rattle.rulelines.specs.Samples.{AreCommonBounds, AreInLineOrder, AreKeysOf, cuts, IsKeyAdded, symbol_of}
use Rattle.rulelines.specs.StatePairs.{AreSamples}

-- the bounds of both
added_split : (flat : Flat) (old more new : List ℕ) → new ≡ old ++ more → AreNodesSplit old flat.nodes
    → AreNodesSplit new flat.nodes
added_split flat old more new is split =
    more_nodes_split old new flat.nodes (λ i free. record {
      none = λ h. free.none (subst (λ v. Contains v i) (sym is) (Contains-append_left old more i h));
    }) split

after_split : (flat : Flat) (old more new : List ℕ) → new ≡ old ++ more → AreNodesSplit more flat.nodes
    → AreNodesSplit new flat.nodes
after_split flat old more new is split =
    more_nodes_split more new flat.nodes (λ i free. record {
      none = λ h. free.none (subst (λ v. Contains v i) (sym is) (Contains-append_right old more i h));
    }) split

pub bounds_joined : (old new : Flat) (a b both all : List ℕ) → both ≡ a ++ b → all ≡ both ++ cuts
    → AreNodesSplit a old.nodes → AreNodesSplit b new.nodes → AreCommonBounds old new all
bounds_joined old new a b both all is more old_split new_split = record {
  old_split = added_split old both cuts all more (added_split old a b both is old_split);
  new_split = added_split new both cuts all more (after_split new a b both is new_split);
  cuts_are = λ c h. subst (λ v. Contains v c) (sym more) (Contains-append_right both cuts c h);
}

-- the last bound up to a number
pub contains_or : (xs : List ℕ) (x : ℕ) → Contains xs x ⊎ (Contains xs x → ⊥)
contains_or [] x = inr (λ h. let lt = h.1 in omega (arith, lt))
contains_or (y ∷ xs) x = by (cases_eq y x) (contains_or xs x)
  where
    by : (y ≡ x) ⊎ (y ≡ x → ⊥) → Contains xs x ⊎ (Contains xs x → ⊥)
        → Contains (y ∷ xs) x ⊎ (Contains (y ∷ xs) x → ⊥)
    by (inl same) rest = inl (0, omega arith, same)
    by (inr other) (inl h) = inl (suc h.0, (let lt = h.1 in omega (arith, lt)), h.2)
    by (inr other) (inr none) = inr (λ h. at h.0 h.1 h.2)
      where
        at : (k : ℕ) → k < length (y ∷ xs) → get_or (y ∷ xs) k x ≡ x → ⊥
        at zero lt is = other is
        at (suc k) lt is = none (k, omega (arith, lt), is)

record LastBound (bounds : List ℕ) (c : ℕ) : Type 0 where
  pub bound : ℕ
  pub is : Contains bounds bound
  pub joined : AreJoined bounds bound c

last_bound : (bounds : List ℕ) → Contains bounds 0 → (c : ℕ) → LastBound bounds c
last_bound bounds first zero = record {
  bound = 0;
  is = first;
  joined = (omega arith, λ i lo hi. absurd (omega (arith, lo, hi)));
}
last_bound bounds first (suc c) = by (contains_or bounds (suc c)) (last_bound bounds first c)
  where
    by : Contains bounds (suc c) ⊎ (Contains bounds (suc c) → ⊥) → LastBound bounds c → LastBound bounds (suc c)
    by (inl h) before = record {
      bound = suc c;
      is = h;
      joined = (omega arith, λ i lo hi. absurd (omega (arith, lo, hi)));
    }
    by (inr none) before = record {
      bound = before.bound;
      is = before.is;
      joined = (let le = before.joined.0 in omega (arith, le), λ i lo hi. free i lo hi (cases_lt i (suc c)));
    }
      where
        free : (i : ℕ) → before.bound < i → i ≤ suc c → (i < suc c) ⊎ (suc c ≤ i) → IsFree bounds i
        free i lo hi (inl less) = before.joined.1 i lo (omega (arith, less))
        free i lo hi (inr more) =
            let same : i ≡ suc c = omega (arith, hi, more) in
            record { none = λ h. none (subst (λ v. Contains bounds v) same h) }

-- no cut is between
module _ (bounds : List ℕ) (all_cuts : (c : ℕ) → Contains cuts c → Contains bounds c) (s c : ℕ)
    (joined : AreJoined bounds s c) where
  beside_bound : (k : ℕ) → Contains cuts k → (k ≤ s) ⊎ (c < k)
  beside_bound k h = by (cases_lt s k) (cases_lt c k)
    where
      by : (s < k) ⊎ (k ≤ s) → (c < k) ⊎ (k ≤ c) → (k ≤ s) ⊎ (c < k)
      by (inr le) _ = inl le
      by (inl lt) (inl less) = inr less
      by (inl lt) (inr more) = absurd ((joined.1 k lt more).none (all_cuts k h))

  key_first : sort_key s ≤ sort_key c
  key_first =
      by (beside_bound 32 (1, omega arith, refl)) (beside_bound 33 (2, omega arith, refl))
      (beside_bound 127 (3, omega arith, refl))
    where
      by : (32 ≤ s) ⊎ (c < 32) → (33 ≤ s) ⊎ (c < 33) → (127 ≤ s) ⊎ (c < 127) → sort_key s ≤ sort_key c
      by (inl a) (inl b) (inl d) = let le = joined.0 in grind (arith, nat_tests)
      by (inl a) (inl b) (inr d) = let le = joined.0 in grind (arith, nat_tests)
      by (inl a) (inr b) (inl d) = let le = joined.0 in grind (arith, nat_tests)
      by (inl a) (inr b) (inr d) = let le = joined.0 in grind (arith, nat_tests)
      by (inr a) (inl b) _ = absurd (let le = joined.0 in omega (arith, a, b, le))
      by (inr a) (inr b) (inl d) = absurd (let le = joined.0 in omega (arith, a, d, le))
      by (inr a) (inr b) (inr d) = let le = joined.0 in grind (arith, nat_tests)

  has_too : (alphabet : Alphabet) → has alphabet c ≡ true → has alphabet s ≡ true
  has_too Bytes is = let le = joined.0 in grind (arith, nat_tests)
  has_too Utf8 is = by (beside_bound 57344 (4, omega arith, refl))
    where
      by : (57344 ≤ s) ⊎ (c < 57344) → has Utf8 s ≡ true
      by (inl a) = let le = joined.0 in grind (arith, nat_tests)
      by (inr a) = let le = joined.0 in grind (arith, nat_tests)

pub symbol_small : (alphabet : Alphabet) (c : ℕ) → has alphabet c ≡ true → c < 2 ^ 21
symbol_small Bytes c is = grind (arith, nat_tests)
symbol_small Utf8 c is = grind (arith, nat_tests)

-- keys
pub key_symbol : (b : ℕ) → symbol_of (sort_key b) ≡ b
key_symbol b = grind (arith, nat_tests)

module _ (has : ℕ → Bool) where
  pub key_added : (b k : ℕ) (old new : List ℕ) → has b ≡ true → k ≡ sort_key b → new ≡ old ++ k ∷ []
      → IsKeyAdded has b old new
  key_added b k old new is key added = record {
    only = λ other h. by other (Contains-push_cases old k other (subst (λ v. Contains v other) added h));
    kept = λ other h. subst (λ v. Contains v other) (sym added) (Contains-append_left old (k ∷ []) other h);
    added = λ _. subst (λ v. Contains v (sort_key b)) (sym added)
        (subst (λ v. Contains (old ++ k ∷ []) v) key (Contains-push old k));
  }
    where
      by : (other : ℕ) → Contains old other ⊎ (k ≡ other) → Contains old other ⊎ ((has b ≡ true) × (other ≡ sort_key b))
      by other (inl h) = inl h
      by other (inr same) = inr (is, sym same ∙ key)

  pub none_added : (b : ℕ) (keys : List ℕ) → has b ≡ false → IsKeyAdded has b keys keys
  none_added b keys never = record {
    only = λ k h. inl h;
    kept = λ k h. h;
    added = λ is. absurd (cc (is, never));
  }

  -- the keys of the first n bounds
  pub record AreKeysTo (bounds : List ℕ) (n : ℕ) (keys : List ℕ) : Type 0 where
    pub only : (k : ℕ) → Contains keys k → (b : ℕ) × Contains bounds b × (has b ≡ true) × (k ≡ sort_key b)
    pub all : (i b : ℕ) → i < n → slice_get bounds i ≡ Some b → has b ≡ true → Contains keys (sort_key b)

  pub keys_none : (bounds keys : List ℕ) → keys ≡ [] → AreKeysTo bounds 0 keys
  keys_none bounds keys none = record {
    only = λ k h. absurd (let lt = h.1 in let e = ap length none in omega (arith, lt, e));
    all = λ i b lt. absurd (omega (arith, lt));
  }

  pub keys_next : (bounds : List ℕ) (n b : ℕ) (old new : List ℕ) → slice_get bounds n ≡ Some b
      → IsKeyAdded has b old new → AreKeysTo bounds n old → AreKeysTo bounds (n + 1) new
  keys_next bounds n b old new at_n added before = record {
    only = λ k h. from k (added.only k h);
    all = λ i other lt is symbol. by i other lt is symbol (cases_lt i n);
  }
    where
      from : (k : ℕ) → Contains old k ⊎ ((has b ≡ true) × (k ≡ sort_key b))
          → (b : ℕ) × Contains bounds b × (has b ≡ true) × (k ≡ sort_key b)
      from k (inl h) = before.only k h
      from k (inr h) = (b, contained_at bounds n b at_n, h.0, h.1)

      by : (i other : ℕ) → i < n + 1 → slice_get bounds i ≡ Some other → has other ≡ true → (i < n) ⊎ (n ≤ i)
          → Contains new (sort_key other)
      by i other lt is symbol (inl less) = added.kept (sort_key other) (before.all i other less is symbol)
      by i other lt is symbol (inr more) =
          let here : i ≡ n = omega (arith, lt, more) in
          let both : Some other ≡ Some b = sym is ∙ (ap (λ v. slice_get bounds v) here ∙ at_n) in
          let same : other ≡ b = cc both in
          subst (λ v. Contains new (sort_key v)) (sym same) (added.added (subst (λ v. has v ≡ true) same symbol))

  pub keys_all : (bounds : List ℕ) (n : ℕ) (keys : List ℕ) → length bounds ≤ n → AreKeysTo bounds n keys
      → AreKeysOf has bounds keys
  keys_all bounds n keys le k = record {
    only = k.only;
    all = λ b h. k.all h.0 b (let lt = h.1 in omega (arith, lt, le)) (got_at bounds b h);
  }

-- sorted keys, each once
module _ (mid new : List ℕ) (filtered : IsFiltered (DiffersFromLast eqb) [] mid new) where
  pub keys_rise : IsSorted nat_cmp mid → IsStrictlyIncreasing new
  keys_rise sorted =
      subst (λ v. IsStrictlyIncreasing v) (sym (dedup_is eqb mid new filtered)) (IsStrictlyIncreasing-dedup mid sorted)

  pub keys_kept : (has : ℕ → Bool) (bounds old : List ℕ) → IsPermutation old mid → AreKeysOf has bounds old
      → AreKeysOf has bounds new
  keys_kept has bounds old moved keys = record {
    only = λ k h. keys.only k (Contains-permutation mid old k (IsPermutation-sym old mid moved)
        (Contains-from_dedup eqb mid k (subst (λ v. Contains v k) (dedup_is eqb mid new filtered) h)));
    all = λ b h is. subst (λ v. Contains v (sort_key b)) (sym (dedup_is eqb mid new filtered))
        (Contains-dedup_nat mid (sort_key b)
        (Contains-permutation old mid (sort_key b) moved (keys.all b h is)));
  }

-- the symbols of the keys
module _ (alphabet : Alphabet) (old new : Flat) (bounds keys samples : List ℕ)
    (common : AreCommonBounds old new bounds) (are : AreKeysOf (has alphabet) bounds keys)
    (is : samples ≡ map symbol_of keys) where
  sample_of : (b : ℕ) → Contains keys (sort_key b) → Contains samples b
  sample_of b h =
      let there = contained_at (map symbol_of keys) h.0 (symbol_of (sort_key b))
      (get_map symbol_of keys h.0 (got_at keys (sort_key b) h)) in
      subst (λ v. Contains v b) (sym is) (subst (λ v. Contains (map symbol_of keys) v) (key_symbol b) there)

  pub each_class : AreSamples old new (has alphabet) samples
  each_class c symbol =
      let l = last_bound bounds (common.cuts_are 0 (0, omega arith, refl)) c in
      let fits : c < 2 ^ 32 = (let small = symbol_small alphabet c symbol in omega (arith, small)) in
      record {
        sample = l.bound;
        is = sample_of l.bound
            (are.all l.bound l.is (has_too bounds common.cuts_are l.bound c l.joined alphabet symbol));
        old_alike = joined_alike old bounds common.old_split c l.bound fits l.joined;
        new_alike = joined_alike new bounds common.new_split c l.bound fits l.joined;
        order = key_first bounds common.cuts_are l.bound c l.joined;
      }

  -- a sample is the symbol of a key
  key_at : (i c : ℕ) → slice_get samples i ≡ Some c → (slice_get keys i ≡ Some (sort_key c)) × (has alphabet c ≡ true)
  key_at i c at_i =
      let u = get_unmap symbol_of keys i c (subst (λ v. slice_get v i ≡ Some c) is at_i) in
      let k = are.only u.from (contained_at keys i u.from u.at) in
      let symbol : k.0 ≡ c = sym (key_symbol k.0) ∙ (ap symbol_of (sym k.3) ∙ u.is) in (
        u.at ∙ ap (λ v. Some v) (k.3 ∙ ap sort_key symbol),
        subst (λ v. has alphabet v ≡ true) symbol k.2,
      )

  pub in_order : IsStrictlyIncreasing keys → AreInLineOrder (has alphabet) samples
  in_order up = record {
    symbols = λ c h. (key_at h.0 c (got_at samples c h)).1;
    order = λ i j c d lt at_i at_j. rise i j (sort_key c) (sort_key d) lt (key_at i c at_i).0 (key_at j d at_j).0;
  }
    where
      value : (k x : ℕ) → slice_get keys k ≡ Some x → get_or keys k 0 ≡ x
      value k x at_k = or_get keys k x at_k
        where
          or_get : (xs : List ℕ) (k x : ℕ) → slice_get xs k ≡ Some x → get_or xs k 0 ≡ x
          or_get [] k x h = absurd (cc h)
          or_get (y ∷ xs) zero x h = cc h
          or_get (y ∷ xs) (suc k) x h = or_get xs k x h

      rise : (i j a b : ℕ) → i < j → slice_get keys i ≡ Some a → slice_get keys j ≡ Some b → a < b
      rise i j a b lt at_i at_j =
          let less = AllPairs-from_increasing keys up i j 0 lt (slice_get_within keys j b at_j) in
          let one = value i a at_i in
          let two = value j b at_j in
          omega (arith, less, one, two)

-- all of it
pub samples_are : (alphabet : Alphabet) (old new : Flat) (bounds first mid keys samples : List ℕ)
    → AreCommonBounds old new bounds → AreKeysOf (has alphabet) bounds first → IsPermutation first mid
    → IsSorted nat_cmp mid → IsFiltered (DiffersFromLast eqb) [] mid keys → samples ≡ map symbol_of keys
    → AreSamples old new (has alphabet) samples × AreInLineOrder (has alphabet) samples
samples_are alphabet old new bounds first mid keys samples common are moved sorted filtered is =
    let kept = keys_kept mid keys filtered (has alphabet) bounds first moved are in (
      each_class alphabet old new bounds keys samples common kept is,
      in_order alphabet old new bounds keys samples common kept is (keys_rise mid keys filtered sorted),
    )
