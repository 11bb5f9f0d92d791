-- Starts of classes of symbols.
-- Serves: find_starts, start_up_to
use Rattle.std.proofs.Common.{◌≡◌, ◌⊎◌, inl, inr, ℕ, zero, suc, ◌+◌, ◌-◌, ◌<◌, ◌≤◌, ◌^◌, Bool, true, false, List, []}
use Rattle.std.proofs.Common.{◌∷◌, ◌++◌}
use Rattle.std.proofs.Common.{length, refl, sym, ◌∙◌, ap, subst, arith, eqb, leb, leb-true, leb-false, get_or}
use Rattle.std.proofs.lemmas.Bool.{cases_lt}
use Rattle.std.proofs.lemmas.Bool.Decides.{nat_tests}
use Rattle.std.proofs.lemmas.List.Elements.{Contains-append_left, Contains-append_right, Contains-push}
use Rattle.std.proofs.lemmas.List.Filters.{dedup_is}
use Rattle.std.proofs.lemmas.List.Kept.{Contains-dedup_nat}
use Rattle.std.proofs.lemmas.List.Sorted.{Contains-permutation}
use Rattle.std.proofs.lemmas.Option.{slice_get-get_or}
use Rattle.std.proofs.lemmas.List.{get_or_default}
use Rattle.std.specs.List.Retain.{IsFiltered, DiffersFromLast}
use Rattle.std.specs.List.Sorted.{IsNonDecreasing, IsPartitionPoint, IsPermutation}
use Rattle.std.specs.Option.{SomeIff}
use Rattle.std.specs.Prelude.{slice_get, Option, None, Some, Contains, IfSome}
use Rattle.ruletable.specs.Letters.{has}
use Rattle.ruletable.specs.declared.alphabet.Alphabet.{Alphabet}
use Rattle.ruletable.specs.declared.alphabet.Alphabet.TheVariants.{Bytes, Utf8}
use Rattle.flatgrammar.specs.Flat.{Flat}
use Rattle.flatgrammar.specs.ClassBounds.{AreNodesSplit, IsFree}
use Rattle.flatgrammar.specs.Stacks.{AreAlike}
use Rattle.flatgrammar.proofs.AreClassesLemmas.{joined_alike, more_nodes_split}
use Rattle.lazydfa.proofs.StateSetsLemmas.{got_at}
use Rattle.rulelines.specs.FirstLines.{sort_key}
use Rattle.rulelines.specs.LineSets.{is_line_symbol}
use Rattle.rulelines.specs.Starts.{AreLineBounds, AreClassStarts, edges, HaveBothEnds, HaveBothKeys, HaveEnds}
use Rattle.rulelines.specs.Starts.{HaveKeys, IsJoinedOn, IsLastUpTo}
use Rattle.rulelines.proofs.SamplesLemmas.{contains_or}

pub bounds_made : (flat : Flat) (terminator : ℕ) (samples bounds : List ℕ) → AreNodesSplit samples flat.nodes
    → bounds ≡ samples ++ edges terminator → AreLineBounds flat terminator bounds
bounds_made flat terminator samples bounds split is = record {
  split = more_nodes_split samples bounds flat.nodes (λ i free. record {
    none = λ h. free.none (subst (λ v. Contains v i) (sym is)
        (Contains-append_left samples (edges terminator) i h));
  }) split;
  edges_are = λ c h. subst (λ v. Contains v c) (sym is) (Contains-append_right samples (edges terminator) c h);
}

inner_small : (alphabet : Alphabet) (terminator c : ℕ) → is_line_symbol alphabet terminator c ≡ true → c < 2 ^ 21
inner_small Bytes terminator c is = grind (arith, nat_tests)
inner_small Utf8 terminator c is = grind (arith, nat_tests)

inner_before : (alphabet : Alphabet) (terminator d : ℕ) → (suc d ≡ 57344 → ⊥) → (suc d ≡ terminator + 1 → ⊥)
    → is_line_symbol alphabet terminator (suc d) ≡ true → is_line_symbol alphabet terminator d ≡ true
inner_before Bytes terminator d points edge is = grind (arith, nat_tests)
inner_before Utf8 terminator d points edge is = grind (arith, nat_tests)

key_next : (d : ℕ) → (suc d ≡ 32 → ⊥) → (suc d ≡ 33 → ⊥) → (suc d ≡ 127 → ⊥) → sort_key (suc d) ≡ sort_key d + 1
key_next d a b c = grind (arith, nat_tests)

module _ (flat : Flat) (alphabet : Alphabet) (terminator : ℕ) (bounds : List ℕ)
    (are : AreLineBounds flat terminator bounds) where
  joined_on : (c : ℕ) → (Contains bounds c → ⊥) → is_line_symbol alphabet terminator c ≡ true
      → IsJoinedOn flat (is_line_symbol alphabet terminator) c
  joined_on zero none is = absurd (none (are.edges_are 0 (0, omega arith, refl)))
  joined_on (suc d) none is = record {
    before = d;
    symbol = inner_before alphabet terminator d (not_edge 4 57344 (omega arith) refl)
        (not_edge 6 (terminator + 1) (omega arith) refl) is;
    next = key_next d (not_edge 1 32 (omega arith) refl) (not_edge 2 33 (omega arith) refl)
        (not_edge 3 127 (omega arith) refl);
    alike = joined_alike flat bounds are.split (suc d) d
        (let small = inner_small alphabet terminator (suc d) is in omega (arith, small)) (
          omega arith,
          λ i lo hi. subst (λ v. IsFree bounds v) (omega (arith, lo, hi)) (record { none = none }),
        );
  }
    where
      not_edge : (k e : ℕ) → k < 7 → get_or (edges terminator) k e ≡ e → suc d ≡ e → ⊥
      not_edge k e lt is same = none (subst (λ v. Contains bounds v) (sym same) (are.edges_are e (k, lt, is)))

  pub starts_made : (starts : List ℕ) → HaveKeys (is_line_symbol alphabet terminator) bounds starts
      → AreClassStarts flat (is_line_symbol alphabet terminator) starts
  starts_made starts keys c is = by (contains_or bounds c)
    where
      by : Contains bounds c ⊎ (Contains bounds c → ⊥)
          → Contains starts (sort_key c) ⊎ IsJoinedOn flat (is_line_symbol alphabet terminator) c
      by (inl h) = inl (keys c h is)
      by (inr none) = inr (joined_on c none is)

-- with the numbers before bounds
module _ (flat : Flat) (alphabet : Alphabet) (terminator : ℕ) (bounds all : List ℕ)
    (are : AreLineBounds flat terminator bounds) (ends : HaveEnds bounds all) where
  pub bounds_kept : AreLineBounds flat terminator all
  bounds_kept = record {
    split = more_nodes_split bounds all flat.nodes (λ i free. record { none = λ h. free.none (ends.kept i h) })
        are.split;
    edges_are = λ c h. ends.kept c (are.edges_are c h);
  }

  pub both_ends : HaveBothEnds flat (is_line_symbol alphabet terminator) all
  both_ends c first next = by (contains_or bounds (c + 1))
    where
      by : Contains bounds (c + 1) ⊎ (Contains bounds (c + 1) → ⊥)
          → AreAlike flat (c + 1) c ⊎ (Contains all c × Contains all (c + 1))
      by (inl h) = inr (ends.before c h, ends.kept (c + 1) h)
      by (inr none) = inl (joined_alike flat bounds are.split (c + 1) c
          (let small = inner_small alphabet terminator (c + 1) next in omega (arith, small)) (
            omega arith,
            λ i lo hi. subst (λ v. IsFree bounds v) (omega (arith, lo, hi)) (record { none = none }),
          ))

pub both_keys : (flat : Flat) (has : ℕ → Bool) (bounds keys : List ℕ) → HaveBothEnds flat has bounds
    → HaveKeys has bounds keys → HaveBothKeys flat has keys
both_keys flat has bounds keys ends are c first next = by (ends c first next)
  where
    by : AreAlike flat (c + 1) c ⊎ (Contains bounds c × Contains bounds (c + 1))
        → AreAlike flat (c + 1) c ⊎ (Contains keys (sort_key c) × Contains keys (sort_key (c + 1)))
    by (inl alike) = inl alike
    by (inr h) = inr (are c h.0 first, are (c + 1) h.1 next)

-- the first n bounds, and the number before each
abbrev pub HaveEndsTo : List ℕ → ℕ → List ℕ → Type 0
HaveEndsTo bounds n all = (i b : ℕ) → i < n → slice_get bounds i ≡ Some b
    → Contains all b × ((c : ℕ) → b ≡ c + 1 → Contains all c)

pub ends_pushed : (bounds : List ℕ) (n b : ℕ) (old mid new : List ℕ) → slice_get bounds n ≡ Some b
    → HaveEndsTo bounds n old → mid ≡ old ++ b ∷ [] → new ≡ mid ++ (b - 1) ∷ [] → HaveEndsTo bounds (n + 1) new
ends_pushed bounds n b old mid new at_n before first then i a lt is = by (cases_lt i n)
  where
    kept : (c : ℕ) → Contains mid c → Contains new c
    kept c h = subst (λ v. Contains v c) (sym then) (Contains-append_left mid ((b - 1) ∷ []) c h)

    was : (c : ℕ) → Contains old c → Contains new c
    was c h = kept c (subst (λ v. Contains v c) (sym first) (Contains-append_left old (b ∷ []) c h))

    last : Contains new (b - 1)
    last = subst (λ v. Contains v (b - 1)) (sym then) (Contains-push mid (b - 1))

    here : Contains new b
    here = kept b (subst (λ v. Contains v b) (sym first) (Contains-push old b))

    by : (i < n) ⊎ (n ≤ i) → Contains new a × ((c : ℕ) → a ≡ c + 1 → Contains new c)
    by (inl less) = let g = before i a less is in (was a g.0, λ c next. was c (g.1 c next))
    by (inr more) =
        let at : i ≡ n = omega (arith, lt, more) in
        let both : Some a ≡ Some b = sym is ∙ (ap (λ v. slice_get bounds v) at ∙ at_n) in
        let same : a ≡ b = cc both in (
          subst (λ v. Contains new v) (sym same) here,
          λ c next. subst (λ v. Contains new v) (omega (arith, next, same)) last,
        )

pub ends_of_all : (bounds : List ℕ) (n : ℕ) (all : List ℕ) → length bounds ≤ n → HaveEndsTo bounds n all
    → HaveEnds bounds all
ends_of_all bounds n all le before = record {
  kept = λ b h. (before h.0 b (let lt = h.1 in omega (arith, lt, le)) (got_at bounds b h)).0;
  before = λ b h. (before h.0 (b + 1) (let lt = h.1 in omega (arith, lt, le)) (got_at bounds (b + 1) h)).1 b refl;
}

pub sorted_keys : (has : ℕ → Bool) (bounds old mid new : List ℕ) → HaveKeys has bounds old → IsPermutation old mid
    → IsFiltered (DiffersFromLast eqb) [] mid new → HaveKeys has bounds new
sorted_keys has bounds old mid new keys moved filtered b h is =
    subst (λ v. Contains v (sort_key b)) (sym (dedup_is eqb mid new filtered))
    (Contains-dedup_nat mid (sort_key b) (Contains-permutation old mid (sort_key b) moved (keys b h is)))

-- the keys of the first n bounds
abbrev pub HaveKeysTo : (ℕ → Bool) → List ℕ → ℕ → List ℕ → Type 0
HaveKeysTo has bounds n keys = (i b : ℕ) → i < n → slice_get bounds i ≡ Some b → has b ≡ true
    → Contains keys (sort_key b)

module _ (has : ℕ → Bool) (bounds : List ℕ) (n b : ℕ) (old new : List ℕ) (at_n : slice_get bounds n ≡ Some b)
    (before : HaveKeysTo has bounds n old) (kept : (k : ℕ) → Contains old k → Contains new k)
    (added : has b ≡ true → Contains new (sort_key b)) where
  keys_more : HaveKeysTo has bounds (n + 1) new
  keys_more i other lt is symbol = by (cases_lt i n)
    where
      by : (i < n) ⊎ (n ≤ i) → Contains new (sort_key other)
      by (inl less) = kept (sort_key other) (before i other less is symbol)
      by (inr more) =
          let here : i ≡ n = omega (arith, lt, more) in
          let both : Some other ≡ Some b = sym is ∙ (ap (λ v. slice_get bounds v) here ∙ at_n) in
          let same : other ≡ b = cc both in
          subst (λ v. Contains new (sort_key v)) (sym same) (added (subst (λ v. has v ≡ true) same symbol))

pub keys_pushed : (has : ℕ → Bool) (bounds : List ℕ) (n b key : ℕ) (old new : List ℕ) → slice_get bounds n ≡ Some b
    → HaveKeysTo has bounds n old → key ≡ sort_key b → new ≡ old ++ key ∷ [] → HaveKeysTo has bounds (n + 1) new
keys_pushed has bounds n b key old new at_n before is added =
    keys_more has bounds n b old new at_n before
    (λ k h. subst (λ v. Contains v k) (sym added) (Contains-append_left old (key ∷ []) k h))
    (λ _. subst (λ v. Contains v (sort_key b)) (sym added)
    (subst (λ v. Contains (old ++ key ∷ []) v) is (Contains-push old key)))

pub keys_passed : (has : ℕ → Bool) (bounds : List ℕ) (n b : ℕ) (keys : List ℕ) → slice_get bounds n ≡ Some b
    → HaveKeysTo has bounds n keys → has b ≡ false → HaveKeysTo has bounds (n + 1) keys
keys_passed has bounds n b keys at_n before never =
    keys_more has bounds n b keys keys at_n before (λ k h. h) (λ is. absurd (cc (is, never)))

pub keys_of_all : (has : ℕ → Bool) (bounds : List ℕ) (n : ℕ) (keys : List ℕ) → length bounds ≤ n
    → HaveKeysTo has bounds n keys → HaveKeys has bounds keys
keys_of_all has bounds n keys le before b h =
    before h.0 b (let lt = h.1 in omega (arith, lt, le)) (got_at bounds b h)

-- the last start up to a key
pub last_start : (starts : List ℕ) (key above j : ℕ) → above ≤ length starts
    → IsPartitionPoint (λ y. leb y key ≡ true) (λ y. leb y key ≡ false) starts above → j + 1 ≡ above
    → IsNonDecreasing starts → IsLastUpTo starts key j
last_start starts key above j within point next ordered = record {
  start = get_or starts j 0;
  is = slice_get-get_or starts j 0 (omega (arith, within, next));
  within = leb-true (get_or starts j 0) key (point.0 j 0 (omega arith) (omega (arith, next)));
  last = λ s h le. by s h le (cases_lt h.0 above);
}
  where
    by : (s : ℕ) (h : Contains starts s) → s ≤ key → (h.0 < above) ⊎ (above ≤ h.0) → s ≤ get_or starts j 0
    by s h le (inl less) =
        let up = ordered h.0 j 0 (omega (arith, less, next)) (omega (arith, within, next)) in
        let same = get_or_default starts h.0 s 0 h.1 in
        let is = h.2 in
        omega (arith, up, same, is)
    by s h le (inr more) =
        let beyond = leb-false (get_or starts h.0 s) key (point.1 h.0 s more h.1) in
        let is = h.2 in
        absurd (omega (arith, beyond, is, le))

pub start_reported : (starts : List ℕ) (key above : ℕ) (reported : Option ℕ) → above ≤ length starts
    → IsPartitionPoint (λ y. leb y key ≡ true) (λ y. leb y key ≡ false) starts above → IsNonDecreasing starts
    → SomeIff reported (1 ≤ above) (above - 1) → IfSome reported (IsLastUpTo starts key)
start_reported starts key above None within point ordered is = tt
start_reported starts key above (Some j) within point ordered is =
    let some = is.0 in
    let e = is.1 in
    last_start starts key above j within point (omega (arith, some, e)) ordered

-- the class of a symbol
pub alike_on : (flat : Flat) (c d b : ℕ) → AreAlike flat c d → AreAlike flat d b → AreAlike flat c b
alike_on flat c d b first then q r set rd = (
  λ h. (then q r set rd).0 ((first q r set rd).0 h),
  λ h. (first q r set rd).1 ((then q r set rd).1 h),
)

-- a symbol whose key is a start is in the same sets
abbrev pub HasStart : Flat → ℕ → ℕ → Type 0
HasStart flat start c = (b : ℕ) × (sort_key b ≡ start) × AreAlike flat c b

module _ (flat : Flat) (inner : ℕ → Bool) (starts : List ℕ) (are : AreClassStarts flat inner starts) (start : ℕ) where
  abbrev IsLast : ℕ → Type 0
  IsLast c = (s : ℕ) → Contains starts s → s ≤ sort_key c → s ≤ start

  start_on : (n c : ℕ) → IsLast c → sort_key c ≡ start + suc n
      → ((d : ℕ) → IsLast d → sort_key d ≡ start + n → inner d ≡ true → HasStart flat start d)
      → Contains starts (sort_key c) ⊎ IsJoinedOn flat inner c → HasStart flat start c
  start_on n c last is before (inl there) =
      absurd (let le = last (sort_key c) there (omega arith) in omega (arith, le, is))
  start_on n c last is before (inr j) =
      let e = j.next in
      let g = before j.before (λ s h le. last s h (omega (arith, le, e))) (omega (arith, is, e)) j.symbol in
      (g.0, g.1, alike_on flat c j.before g.0 j.alike g.2)

  pub class_of_symbol : (n c : ℕ) → IsLast c → sort_key c ≡ start + n → inner c ≡ true → HasStart flat start c
  class_of_symbol zero c last is symbol = (c, omega (arith, is), λ q r set rd. (λ h. h, λ h. h))
  class_of_symbol (suc n) c last is symbol =
      start_on n c last is (λ d last_d is_d symbol_d. class_of_symbol n d last_d is_d symbol_d) (are c symbol)
