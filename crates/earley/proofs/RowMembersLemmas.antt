-- Members of rows of bits.
-- Serves: BitRow::common, has_all, insert, join, last, len, merge, next
use Rattle.std.proofs.Common.{◌≡◌, ◌≢◌, ℕ, zero, suc, ◌+◌, ◌-◌, ◌*◌, ◌/◌, ◌%◌, ◌^◌, ◌<◌, ◌≤◌, ◌⊎◌, inl, inr, Bool, true}
use Rattle.std.proofs.Common.{false, ◌==◌, List, [], ◌∷◌, length, cond, Contains, refl, sym, ap}
use Rattle.std.proofs.Common.{subst, ◌∙◌, arith, ◌↔◌, bit_and, bit_or, max, min, nat_le, set, slice_index_or, Vec}
use Rattle.std.specs.Int.{bit_at, bit_not, w64}
use Rattle.std.specs.List.{filter, range_with_len}
use Rattle.std.specs.List.Sorted.{IsStrictlyIncreasing}
use Rattle.std.specs.Vec.{vec_len}
use Rattle.std.proofs.lemmas.List.Kept.{IsStrictlyIncreasing-filter}
use Rattle.std.proofs.lemmas.Bool.Decides.{Decides-eqb, eqb_tells, nat_tests}
use Rattle.std.proofs.lemmas.List.FromFn.{length-range_with_len, get_or-range_with_len}
use Rattle.std.proofs.lemmas.Nat.Bits.{bit_at-zero, bit_at-lt, bit_at_or, bit_at_and, bit_at_not, bit_at_set_same}
use Rattle.std.proofs.lemmas.Nat.Bits.{bit_at_set_other}
use Rattle.earley.specs.RowMembers.{word_in, has_bit, members}
use Rattle.earley.proofs.WordInLemmas.{word_cases, word_from, word_set_same, word_set_other}

-- what passes a test stands in the filtered list
kept_in : (p : ℕ → Bool) (xs : List ℕ) (x : ℕ) → Contains xs x → p x ≡ true → Contains (filter p xs) x
kept_in p [] x h t = absurd (omega (arith, h.1))
kept_in p (y ∷ ys) x (zero, lt, h) t =
    subst (λ b. Contains (cond b (y ∷ filter p ys) (filter p ys)) x) (sym (ap p h ∙ t)) (0, omega arith, h)
kept_in p (y ∷ ys) x (suc k, lt, h) t = later (p y) (kept_in p ys x (k, omega (arith, lt), h) t)
  where
    later : (b : Bool) → Contains (filter p ys) x → Contains (cond b (y ∷ filter p ys) (filter p ys)) x
    later true (i, below, is) = (suc i, omega (arith, below), is)
    later false rest = rest

-- what stands in the filtered list stands in the list and passes the test
kept_from : (p : ℕ → Bool) (xs : List ℕ) (x : ℕ) → Contains (filter p xs) x → Contains xs x × (p x ≡ true)
kept_from p [] x h = absurd (omega (arith, h.1))
kept_from p (y ∷ ys) x h = by (p y) refl h (λ rest. kept_from p ys x rest)
  where
    later : Contains ys x × (p x ≡ true) → Contains (y ∷ ys) x × (p x ≡ true)
    later ((i, below, is), t) = ((suc i, omega (arith, below), is), t)

    by : (b : Bool) → p y ≡ b → Contains (cond b (y ∷ filter p ys) (filter p ys)) x
        → (Contains (filter p ys) x → Contains ys x × (p x ≡ true)) → Contains (y ∷ ys) x × (p x ≡ true)
    by true is (zero, lt, at) rec = ((0, omega arith, at), subst (λ v. p v ≡ true) at is)
    by true is (suc k, lt, at) rec = later (rec (k, omega (arith, lt), at))
    by false is rest rec = later (rec rest)

in_range : (a n k : ℕ) → a ≤ k → k < a + n → Contains (range_with_len a n) k
in_range a n k le lt =
    let size = length-range_with_len a n in
    let below : k - a < n = omega (arith, le, lt) in
    let back : a + (k - a) ≡ k = omega (arith, le) in
    (k - a, omega (arith, size, below), get_or-range_with_len a n (k - a) k below ∙ back)

-- the bit of a number says whether it is a member
pub bit_of_member : (first : ℕ) (words : List ℕ) (k : ℕ) → Contains (members first words) k
    → bit_at (word_in first words (k / 64)) (k % 64) ≡ 1
unfolding members
bit_of_member first words k h = (Decides-eqb (bit_at (word_in first words (k / 64)) (k % 64)) 1).0
    (kept_from (has_bit first words) (range_with_len (first * 64) (length words * 64)) k h).1

pub member_of_bit : (first : ℕ) (words : List ℕ) (k : ℕ) → bit_at (word_in first words (k / 64)) (k % 64) ≡ 1
    → Contains (members first words) k
unfolding members
member_of_bit first words k h = by (word_cases first words (k / 64))
  where
    by : (word_in first words (k / 64) ≡ 0) ⊎ ((first ≤ k / 64) × (k / 64 < first + length words))
        → Contains (filter (has_bit first words) (range_with_len (first * 64) (length words * 64))) k
    by (inl none) =
        let zero_bit = bit_at-zero (k % 64) in
        absurd (omega (arith, sym (ap (λ w. bit_at w (k % 64)) none ∙ zero_bit) ∙ h))
    by (inr within) = kept_in (has_bit first words) (range_with_len (first * 64) (length words * 64)) k
        (in_range (first * 64) (length words * 64) k (omega (arith, within.0)) (omega (arith, within.1)))
        ((Decides-eqb (bit_at (word_in first words (k / 64)) (k % 64)) 1).1 h)

pub no_members : (first : ℕ) → members first [] ≡ []
unfolding members
no_members first = refl

-- windows of the same words have the same members
pub members_same : (f g : ℕ) (ws vs : List ℕ) → ((i : ℕ) → word_in f ws i ≡ word_in g vs i) → (k : ℕ)
    → Contains (members f ws) k → Contains (members g vs) k
members_same f g ws vs same k h =
    member_of_bit g vs k (ap (λ w. bit_at w (k % 64)) (sym (same (k / 64))) ∙ bit_of_member f ws k h)

-- a set bit of two words, and one that the second lacks
or_cases : (u v r : ℕ) → bit_at (bit_or u v) r ≡ 1 → (bit_at u r ≡ 1) ⊎ (bit_at v r ≡ 1)
or_cases u v r h = by (eqb_tells (bit_at u r) 1)
  where
    by : (((bit_at u r == 1) ≡ true) × (bit_at u r ≡ 1)) ⊎ (((bit_at u r == 1) ≡ false) × (bit_at u r ≢ 1))
        → (bit_at u r ≡ 1) ⊎ (bit_at v r ≡ 1)
    by (inl is) = inl is.1
    by (inr is_not) =
        let is = bit_at_or u v r in let a = bit_at-lt u r in let other = is_not.1 in inr (omega (
          arith,
          is,
          a,
          other,
          h,
        ))

or_left : (u v r : ℕ) → bit_at u r ≡ 1 → bit_at (bit_or u v) r ≡ 1
or_left u v r h = let is = bit_at_or u v r in let b = bit_at-lt v r in omega (arith, is, b, h)

or_right : (u v r : ℕ) → bit_at v r ≡ 1 → bit_at (bit_or u v) r ≡ 1
or_right u v r h = let is = bit_at_or u v r in let b = bit_at-lt u r in omega (arith, is, b, h)

missing_is : (u v r : ℕ) → v < 2 ^ 64 → r < 64 → bit_at (bit_and u (bit_not w64 v)) r ≡ min (bit_at u r) (1 - bit_at v
    r)
missing_is u v r small lt = bit_at_and u (bit_not w64 v) r ∙ ap (λ n. min (bit_at u r) n) (bit_at_not w64 v r small lt)

missing_of : (u v r : ℕ) → v < 2 ^ 64 → r < 64 → bit_at (bit_and u (bit_not w64 v)) r ≡ 1
    → (bit_at u r ≡ 1) × (bit_at v r ≡ 1 → ⊥)
missing_of u v r small lt h =
    let is = missing_is u v r small lt in
    let a = bit_at-lt u r in
    (omega (arith, is, a, h), λ set. absurd (omega (arith, is, h, set)))

missing_to : (u v r : ℕ) → v < 2 ^ 64 → r < 64 → bit_at u r ≡ 1 → (bit_at v r ≡ 1 → ⊥)
    → bit_at (bit_and u (bit_not w64 v)) r ≡ 1
missing_to u v r small lt h not =
    let is = missing_is u v r small lt in let b = bit_at-lt v r in omega (arith, is, b, h, not)

rest_lt : (x : ℕ) → x % 64 < 64
rest_lt x = omega arith

-- rows whose words are those of two rows together
pub members_or : (f' f a : ℕ) (words' words more : List ℕ)
    → ((q : ℕ) → word_in f' words' q ≡ bit_or (word_in f words q) (word_in a more q)) → (x : ℕ)
    → Contains (members f' words') x ↔ (Contains (members f words) x ⊎ Contains (members a more) x)
members_or f' f a words' words more each x = (λ h. from (or_cases u v r (sym (bits) ∙ bit_of_member f' words' x h)), to)
  where
    r : ℕ
    r = x % 64

    u : ℕ
    u = word_in f words (x / 64)

    v : ℕ
    v = word_in a more (x / 64)

    bits : bit_at (word_in f' words' (x / 64)) r ≡ bit_at (bit_or u v) r
    bits = ap (λ w. bit_at w r) (each (x / 64))

    from : (bit_at u r ≡ 1) ⊎ (bit_at v r ≡ 1) → Contains (members f words) x ⊎ Contains (members a more) x
    from (inl h) = inl (member_of_bit f words x h)
    from (inr h) = inr (member_of_bit a more x h)

    to : Contains (members f words) x ⊎ Contains (members a more) x → Contains (members f' words') x
    to (inl h) = member_of_bit f' words' x (bits ∙ or_left u v r (bit_of_member f words x h))
    to (inr h) = member_of_bit f' words' x (bits ∙ or_right u v r (bit_of_member a more x h))

-- rows whose words are those of one row, and those of another that a third lacks
pub members_missing : (f' f a g : ℕ) (words' words more known : List ℕ) → ((q : ℕ) → word_in g known q < 2 ^ 64)
    → ((q : ℕ) → word_in f' words' q ≡ bit_or (word_in f words q)
    (bit_and (word_in a more q) (bit_not w64 (word_in g known q)))) → (x : ℕ)
    → Contains (members f' words') x ↔ (Contains (members f words) x
    ⊎ (Contains (members a more) x × (Contains (members g known) x → ⊥)))
members_missing f' f a g words' words more known small each x =
    (λ h. from (or_cases u (bit_and v (bit_not w64 k)) r (sym bits ∙ bit_of_member f' words' x h)), to)
  where
    r : ℕ
    r = x % 64

    u : ℕ
    u = word_in f words (x / 64)

    v : ℕ
    v = word_in a more (x / 64)

    k : ℕ
    k = word_in g known (x / 64)

    bits : bit_at (word_in f' words' (x / 64)) r ≡ bit_at (bit_or u (bit_and v (bit_not w64 k))) r
    bits = ap (λ w. bit_at w r) (each (x / 64))

    from : (bit_at u r ≡ 1) ⊎ (bit_at (bit_and v (bit_not w64 k)) r ≡ 1)
        → Contains (members f words) x ⊎ (Contains (members a more) x × (Contains (members g known) x → ⊥))
    from (inl h) = inl (member_of_bit f words x h)
    from (inr h) =
        let two = missing_of v k r (small (x / 64)) (rest_lt x) h in
        inr (member_of_bit a more x two.0, λ in_known. two.1 (bit_of_member g known x in_known))

    to : Contains (members f words) x ⊎ (Contains (members a more) x × (Contains (members g known) x → ⊥))
        → Contains (members f' words') x
    to (inl h) =
        member_of_bit f' words' x (bits ∙ or_left u (bit_and v (bit_not w64 k)) r (bit_of_member f words x h))
    to (inr (h, not)) = member_of_bit f' words' x (bits ∙ or_right u (bit_and v (bit_not w64 k)) r
        (missing_to v k r (small (x / 64)) (rest_lt x) (bit_of_member a more x h)
        (λ set. not (member_of_bit g known x set))))

-- a bit of a word of another row that the row's own word lacks, and a word that lacks none
module _ (f a : ℕ) (words more : List ℕ) (s u v : ℕ) (more_is : u ≡ word_in a more s) (is : v ≡ word_in f words s)
    (small : v < 2 ^ 64) where
  pub word_missing : (bit : ℕ) → bit < 64 → bit_at (bit_and u (bit_not w64 v)) bit ≡ 1
      → Contains (members a more) (s * 64 + bit) × (Contains (members f words) (s * 64 + bit) → ⊥)
  word_missing bit lt h =
      let two = missing_of u v bit small lt h in
      let word : (s * 64 + bit) / 64 ≡ s = omega (arith, lt) in
      let rest : (s * 64 + bit) % 64 ≡ bit = omega (arith, lt) in (
        member_of_bit a more (s * 64 + bit) (ap (λ q. bit_at (word_in a more q) ((s * 64 + bit) % 64)) word
            ∙ ap (λ i. bit_at (word_in a more s) i) rest ∙ sym (ap (λ w. bit_at w bit) more_is) ∙ two.0),
        λ m. two.1 (ap (λ w. bit_at w bit) is ∙ sym (ap (λ q. bit_at (word_in f words q) ((s * 64 + bit) % 64)) word
            ∙ ap (λ i. bit_at (word_in f words s) i) rest) ∙ bit_of_member f words (s * 64 + bit) m),
      )

  pub word_covered : ((i : ℕ) → bit_at (bit_and u (bit_not w64 v)) i ≡ 0) → (x : ℕ) → x / 64 ≡ s
      → Contains (members a more) x → Contains (members f words) x
  word_covered none x word h = by (eqb_tells (bit_at v (x % 64)) 1)
    where
      found : bit_at u (x % 64) ≡ 1
      found = ap (λ w. bit_at w (x % 64)) more_is
          ∙ sym (ap (λ q. bit_at (word_in a more q) (x % 64)) word) ∙ bit_of_member a more x h

      by : (((bit_at v (x % 64) == 1) ≡ true) × (bit_at v (x % 64) ≡ 1))
          ⊎ (((bit_at v (x % 64) == 1) ≡ false) × (bit_at v (x % 64) ≢ 1)) → Contains (members f words) x
      by (inl is_set) = member_of_bit f words x (ap (λ q. bit_at (word_in f words q) (x % 64)) word
          ∙ sym (ap (λ w. bit_at w (x % 64)) is) ∙ is_set.1)
      by (inr is_not) =
          let there = missing_to u v (x % 64) small (rest_lt x) found is_not.1 in
          absurd (omega (arith, sym (none (x % 64)) ∙ there))

-- a bit of both
both_bits : (u v r : ℕ) → bit_at (bit_and u v) r ≡ 1 → (bit_at u r ≡ 1) × (bit_at v r ≡ 1)
both_bits u v r h =
    let is = bit_at_and u v r in let a = bit_at-lt u r in let b = bit_at-lt v r in
    (omega (arith, is, a, b, h), omega (arith, is, a, b, h))

-- a row whose words are those that two windows hold, with the bits of both
pub members_common : (f a low : ℕ) (words more both : List ℕ) → low ≡ max f a
    → min (f + length words) (a + length more) ≤ low + length both
    → ((n : ℕ) → n < length both → slice_index_or both n 0
    ≡ bit_and (word_in f words (low + n)) (word_in a more (low + n)))
    → (x : ℕ) → Contains (members low both) x ↔ (Contains (members f words) x × Contains (members a more) x)
members_common f a low words more both first last same x =
    (λ h. from (word_cases low both (x / 64)) (bit_of_member low both x h), to)
  where
    r : ℕ
    r = x % 64

    u : ℕ
    u = word_in f words (x / 64)

    v : ℕ
    v = word_in a more (x / 64)

    word_is : low ≤ x / 64 → x / 64 < low + length both → word_in low both (x / 64) ≡ bit_and u v
    word_is le lt =
        let back : low + (x / 64 - low) ≡ x / 64 = omega (arith, le) in
        word_from low both (x / 64) le ∙ same (x / 64 - low) (omega (arith, le, lt))
        ∙ ap (λ q. bit_and (word_in f words q) (word_in a more q)) back

    from : (word_in low both (x / 64) ≡ 0) ⊎ ((low ≤ x / 64) × (x / 64 < low + length both))
        → bit_at (word_in low both (x / 64)) r ≡ 1 → Contains (members f words) x × Contains (members a more) x
    from (inl zero_word) set =
        let zero_bit = bit_at-zero r in
        absurd (omega (arith, sym (ap (λ w. bit_at w r) zero_word ∙ zero_bit) ∙ set))
    from (inr (le, lt)) set =
        let two = both_bits u v r (sym (ap (λ w. bit_at w r) (word_is le lt)) ∙ set) in
        (member_of_bit f words x two.0, member_of_bit a more x two.1)

    within : (g : ℕ) (ws : List ℕ) → Contains (members g ws) x → (g ≤ x / 64) × (x / 64 < g + length ws)
    within g ws h = there (word_cases g ws (x / 64))
      where
        there : (word_in g ws (x / 64) ≡ 0) ⊎ ((g ≤ x / 64) × (x / 64 < g + length ws))
            → (g ≤ x / 64) × (x / 64 < g + length ws)
        there (inl zero_word) =
            let zero_bit = bit_at-zero r in
            absurd (omega (arith, sym (ap (λ w. bit_at w r) zero_word ∙ zero_bit) ∙ bit_of_member g ws x h))
        there (inr is) = is

    to : Contains (members f words) x × Contains (members a more) x → Contains (members low both) x
    to (p, q) =
        let one = within f words p in
        let two = within a more q in
        let one_low = one.0 in let one_short = one.1 in let two_low = two.0 in let two_short = two.1 in
        let le : low ≤ x / 64 = omega (arith, first, one_low, two_low) in
        let lt : x / 64 < low + length both = omega (arith, last, one_short, two_short) in
        let is = bit_at_and u v r in
        let set_one = bit_of_member f words x p in
        let set_two = bit_of_member a more x q in
        member_of_bit low both x (ap (λ w. bit_at w r) (word_is le lt) ∙ omega (arith, is, set_one, set_two))

-- a row with one more bit
module _ (f : ℕ) (words : List ℕ) (k : ℕ) (from : f ≤ k / 64) (short : k / 64 < f + length words) (w : ℕ)
    (here : w ≡ word_in f words (k / 64)) where
  abbrev new : List ℕ
  new = set words (k / 64 - f) (bit_or w (1 * 2 ^ (k % 64) % 2 ^ 64))

  bit_there : (x : ℕ) → x / 64 ≡ k / 64 → x % 64 ≢ k % 64
      → bit_at (word_in f new (x / 64)) (x % 64) ≡ bit_at (word_in f words (x / 64)) (x % 64)
  bit_there x same other =
      ap (λ q. bit_at (word_in f new q) (x % 64)) same
      ∙ ap (λ v. bit_at v (x % 64)) (word_set_same f words (k / 64) (bit_or w (1 * 2 ^ (k % 64) % 2 ^ 64)) from short)
      ∙ bit_at_set_other w64 w (k % 64) (rest_lt k) (x % 64) other
      ∙ ap (λ v. bit_at v (x % 64)) here ∙ ap (λ q. bit_at (word_in f words q) (x % 64)) (sym same)

  bit_new : bit_at (word_in f new (k / 64)) (k % 64) ≡ 1
  bit_new =
      ap (λ v. bit_at v (k % 64)) (word_set_same f words (k / 64) (bit_or w (1 * 2 ^ (k % 64) % 2 ^ 64)) from short)
      ∙ bit_at_set_same w64 w (k % 64) (rest_lt k)

  -- every number but k keeps its bit
  bit_kept : (x : ℕ) → x ≢ k
      → bit_at (word_in f new (x / 64)) (x % 64) ≡ bit_at (word_in f words (x / 64)) (x % 64)
  bit_kept x other = by (eqb_tells (x / 64) (k / 64))
    where
      by : (((x / 64 == k / 64) ≡ true) × (x / 64 ≡ k / 64)) ⊎ (((x / 64 == k / 64) ≡ false) × (x / 64 ≢ k / 64))
          → bit_at (word_in f new (x / 64)) (x % 64) ≡ bit_at (word_in f words (x / 64)) (x % 64)
      by (inl is) = bit_there x is.1 (λ same. let word = is.1 in other (omega (arith, word, same)))
      by (inr is_not) = ap (λ v. bit_at v (x % 64))
          (word_set_other f words (k / 64) (bit_or w (1 * 2 ^ (k % 64) % 2 ^ 64)) from (x / 64) is_not.1)

  pub members_set : (x : ℕ) → Contains (members f new) x ↔ (Contains (members f words) x ⊎ (x ≡ k))
  members_set x = by (eqb_tells x k)
    where
      by : (((x == k) ≡ true) × (x ≡ k)) ⊎ (((x == k) ≡ false) × (x ≢ k))
          → Contains (members f new) x ↔ (Contains (members f words) x ⊎ (x ≡ k))
      by (inl is) = (
        (λ h. inr is.1),
        (λ h. subst (λ v. Contains (members f new) v) (sym is.1) (member_of_bit f new k bit_new)),
      )
      by (inr is_not) = (
        (λ h. inl (member_of_bit f words x (sym (bit_kept x is_not.1) ∙ bit_of_member f new x h))),
        (λ h. old h),
      )
        where
          old : Contains (members f words) x ⊎ (x ≡ k) → Contains (members f new) x
          old (inl h) = member_of_bit f new x (bit_kept x is_not.1 ∙ bit_of_member f words x h)
          old (inr h) = absurd (is_not.1 h)

-- a member from a word's bit on stands at its lowest bit from there on, or later
pub lowest_first : (f : ℕ) (words : List ℕ) (s low bit x : ℕ)
    → ((i : ℕ) → low ≤ i → i < bit → bit_at (word_in f words s) i ≡ 0) → bit < 64 → Contains (members f words) x
    → s * 64 + low ≤ x → s * 64 + bit ≤ x
lowest_first f words s low bit x none small h le = by (nat_le (s * 64 + bit) x) refl
  where
    by : (b : Bool) → nat_le (s * 64 + bit) x ≡ b → s * 64 + bit ≤ x
    by true is = grind (arith, nat_tests)
    by false is =
        let lt : x < s * 64 + bit = grind (arith, nat_tests) in
        let word : x / 64 ≡ s = omega (arith, le, lt, small) in
        let set = bit_of_member f words x h in
        let zero_bit = none (x % 64) (omega (arith, le, word)) (omega (arith, lt, word)) in
        absurd (omega (arith, sym zero_bit ∙ sym (ap (λ q. bit_at (word_in f words q) (x % 64)) word) ∙ set))

-- a member from a word's bit on stands in a later word, if the word has no bit from there on
pub none_lowest : (f : ℕ) (words : List ℕ) (s low x : ℕ)
    → ((i : ℕ) → low ≤ i → bit_at (word_in f words s) i ≡ 0) → Contains (members f words) x
    → s * 64 + low ≤ x → (s + 1) * 64 ≤ x
none_lowest f words s low x none h le = by (nat_le ((s + 1) * 64) x) refl
  where
    by : (b : Bool) → nat_le ((s + 1) * 64) x ≡ b → (s + 1) * 64 ≤ x
    by true is = grind (arith, nat_tests)
    by false is =
        let lt : x < (s + 1) * 64 = grind (arith, nat_tests) in
        let word : x / 64 ≡ s = omega (arith, le, lt) in
        let set = bit_of_member f words x h in
        let zero_bit = none (x % 64) (omega (arith, le, word)) in
        absurd (omega (arith, sym zero_bit ∙ sym (ap (λ q. bit_at (word_in f words q) (x % 64)) word) ∙ set))

pub lowest_is : (f : ℕ) (words : List ℕ) (s bit : ℕ) → bit < 64 → bit_at (word_in f words s) bit ≡ 1
    → Contains (members f words) (s * 64 + bit)
lowest_is f words s bit small set =
    let word : (s * 64 + bit) / 64 ≡ s = omega (arith, small) in
    let rest : (s * 64 + bit) % 64 ≡ bit = omega (arith, small) in
    member_of_bit f words (s * 64 + bit) (ap (λ q. bit_at (word_in f words q) ((s * 64 + bit) % 64)) word
    ∙ ap (λ i. bit_at (word_in f words s) i) rest ∙ set)

-- a member before the end of a word stands at its highest bit, or earlier
pub highest_last : (f : ℕ) (words : List ℕ) (s bit x : ℕ) → ((i : ℕ) → bit < i → bit_at (word_in f words s) i ≡ 0)
    → Contains (members f words) x → x < (s + 1) * 64 → x ≤ s * 64 + bit
highest_last f words s bit x none h lt = by (nat_le x (s * 64 + bit)) refl
  where
    by : (b : Bool) → nat_le x (s * 64 + bit) ≡ b → x ≤ s * 64 + bit
    by true is = grind (arith, nat_tests)
    by false is =
        let past : s * 64 + bit < x = grind (arith, nat_tests) in
        let word : x / 64 ≡ s = omega (arith, lt, past) in
        let set = bit_of_member f words x h in
        let zero_bit = none (x % 64) (omega (arith, past, word)) in
        absurd (omega (arith, sym zero_bit ∙ sym (ap (λ q. bit_at (word_in f words q) (x % 64)) word) ∙ set))

-- a member before the end of a word stands in an earlier word, if the word has no bit
pub none_highest : (f : ℕ) (words : List ℕ) (s x : ℕ) → ((i : ℕ) → bit_at (word_in f words s) i ≡ 0)
    → Contains (members f words) x → x < (s + 1) * 64 → x < s * 64
none_highest f words s x none h lt = by (nat_le (s * 64) x) refl
  where
    by : (b : Bool) → nat_le (s * 64) x ≡ b → x < s * 64
    by false is = grind (arith, nat_tests)
    by true is =
        let le : s * 64 ≤ x = grind (arith, nat_tests) in
        let word : x / 64 ≡ s = omega (arith, le, lt) in
        let set = bit_of_member f words x h in
        let zero_bit = none (x % 64) in
        absurd (omega (arith, sym zero_bit ∙ sym (ap (λ q. bit_at (word_in f words q) (x % 64)) word) ∙ set))

-- no member stands past the window
pub members_within : (f : ℕ) (words : List ℕ) (x : ℕ) → Contains (members f words) x → x < (f + length words) * 64
members_within f words x h = by (word_cases f words (x / 64))
  where
    by : (word_in f words (x / 64) ≡ 0) ⊎ ((f ≤ x / 64) × (x / 64 < f + length words)) → x < (f + length words) * 64
    by (inl none) = let zero_bit = bit_at-zero (x % 64) in
        absurd (omega (arith, sym (ap (λ w. bit_at w (x % 64)) none ∙ zero_bit) ∙ bit_of_member f words x h))
    by (inr within) = let short = within.1 in omega (arith, short)

-- no member stands before the window
pub members_from : (f : ℕ) (words : List ℕ) (x : ℕ) → Contains (members f words) x → f * 64 ≤ x
members_from f words x h = by (word_cases f words (x / 64))
  where
    by : (word_in f words (x / 64) ≡ 0) ⊎ ((f ≤ x / 64) × (x / 64 < f + length words)) → f * 64 ≤ x
    by (inl none) = let zero_bit = bit_at-zero (x % 64) in
        absurd (omega (arith, sym (ap (λ w. bit_at w (x % 64)) none ∙ zero_bit) ∙ bit_of_member f words x h))
    by (inr within) = let low = within.0 in omega (arith, low)

-- a vector that says that it is empty has no item
pub no_length : {Z : Type 0} (words : Vec ℕ Z) (r : Bool) → r ≡ true → r ≡ (vec_len words == 0)
    → length words.items ≡ 0
no_length words r held is =
    let size : vec_len words ≡ 0 = (Decides-eqb (vec_len words) 0).0 (sym is ∙ held) in
    sym words.ok.0 ∙ size

-- an empty window has no member
pub none_found : (f : ℕ) (words row : List ℕ) → members f words ≡ row → length words ≡ 0 → (x : ℕ) → Contains row x → ⊥
none_found f words row is none x h =
    let there = subst (λ v. Contains v x) (sym is) h in
    let set = bit_of_member f words x there in
    by (word_cases f words (x / 64)) set
  where
    by : (word_in f words (x / 64) ≡ 0) ⊎ ((f ≤ x / 64) × (x / 64 < f + length words))
        → bit_at (word_in f words (x / 64)) (x % 64) ≡ 1 → ⊥
    by (inl zero_word) set = let zero_bit = bit_at-zero (x % 64) in
        absurd (omega (arith, sym (ap (λ w. bit_at w (x % 64)) zero_word ∙ zero_bit) ∙ set))
    by (inr within) set = let low = within.0 in let short = within.1 in absurd (omega (arith, low, short, none))

range_ascends : (a n : ℕ) → IsStrictlyIncreasing (range_with_len a n)
range_ascends a n k lt =
    let size = length-range_with_len a n in
    let here = get_or-range_with_len a n k 0 (omega (arith, lt, size)) in
    let next = get_or-range_with_len a n (k + 1) 0 (omega (arith, lt, size)) in
    omega (arith, here, next)

pub members_ascend : (first : ℕ) (words : List ℕ) → IsStrictlyIncreasing (members first words)
unfolding members
members_ascend first words = IsStrictlyIncreasing-filter (has_bit first words)
    (range_with_len (first * 64) (length words * 64)) (range_ascends (first * 64) (length words * 64))
