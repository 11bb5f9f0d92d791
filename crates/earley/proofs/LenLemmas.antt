-- The number of members of a row.
-- Serves: BitRow::len
use Rattle.std.proofs.Common.{◌≡◌, ℕ, zero, suc, ◌+◌, ◌-◌, ◌*◌, ◌/◌, ◌%◌, ◌^◌, ◌<◌, ◌≤◌, Bool, true}
use Rattle.std.proofs.Common.{false, ◌==◌, List, [], ◌∷◌, ◌++◌, length, cond, slice_index_or, refl, sym, ap, ◌∙◌}
use Rattle.std.proofs.Common.{arith, length-append}
use Rattle.std.specs.Int.{bit_at}
use Rattle.std.specs.Prelude.{count_ones}
use Rattle.std.specs.Int.Count.{ones, ones_in}
use Rattle.std.specs.List.{filter, range_with_len, sum_by}
use Rattle.std.proofs.lemmas.List.Elements.{filter-append}
use Rattle.std.proofs.lemmas.List.Sums.{sum_by-append}
use Rattle.std.proofs.lemmas.Nat.{mod-pow-add, ones_cat, pow_pos}
use Rattle.std.proofs.Math.Nat.{mod-lt}
use Rattle.std.proofs.lemmas.Nat.Bits.{bit_at-lt}
use Rattle.earley.specs.RowMembers.{word_in, has_bit, members}
use Rattle.earley.proofs.WordInLemmas.{word_from}

-- tests that agree on a range keep the same of it
filter_same : (p q : ℕ → Bool) (a n : ℕ) → ((k : ℕ) → a ≤ k → k < a + n → p k ≡ q k)
    → filter p (range_with_len a n) ≡ filter q (range_with_len a n)
filter_same p q a zero same = refl
filter_same p q a (suc n) same =
    let rest = filter_same p q (a + 1) n (λ k le lt. same k (omega (arith, le)) (omega (arith, lt))) in
    ap (λ b. cond b (a ∷ filter p (range_with_len (a + 1) n)) (filter p (range_with_len (a + 1) n)))
    (same a (omega arith) (omega arith))
    ∙ ap (λ r. cond (q a) (a ∷ r) r) rest

range_split : (a m n : ℕ) → range_with_len a (m + n) ≡ range_with_len a m ++ range_with_len (a + m) n
range_split a zero n =
    let same : a ≡ a + 0 = omega arith in
    ap (λ v. range_with_len a v) none ∙ ap (λ v. range_with_len v n) same
  where
    none : 0 + n ≡ n
    none = omega arith
range_split a (suc m) n =
    let more : suc m + n ≡ suc (m + n) = omega arith in
    let at : a + 1 + m ≡ a + suc m = omega arith in
    ap (λ v. range_with_len a v) more ∙ ap (λ r. a ∷ r) (range_split (a + 1) m n)
    ∙ ap (λ v. a ∷ (range_with_len (a + 1) m ++ range_with_len v n)) at

-- how many the first element of a list adds to those that pass
one_if : Bool → ℕ
one_if b = cond b 1 0

one_kept : (b : Bool) (a : ℕ) → length (cond b (a ∷ []) []) ≡ one_if b
unfolding one_if
one_kept true a = refl
one_kept false a = refl

ones_one : (b : ℕ) → b < 2 → one_if (b == 1) ≡ count_ones b
unfolding one_if ones ones_in
ones_one zero lt = refl
ones_one (suc zero) lt = refl
ones_one (suc (suc b)) lt = absurd (omega (arith, lt))

ones_zero : count_ones 0 ≡ 0
unfolding ones ones_in
ones_zero = refl

ones_none : (w : ℕ) → count_ones (w % 2 ^ 0) ≡ 0
ones_none w = let none : w % 2 ^ 0 ≡ 0 = omega arith in ap (λ v. count_ones v) none ∙ ones_zero

-- the bits of a word below m
ones_below : (p : ℕ → Bool) (a w : ℕ) (m : ℕ) → ((i : ℕ) → i < m → p (a + i) ≡ (bit_at w i == 1))
    → length (filter p (range_with_len a m)) ≡ count_ones (w % 2 ^ m)
ones_below p a w zero same = sym (ones_none w)
ones_below p a w (suc m) same =
    let rec = ones_below p a w m (λ i lt. same i (omega (arith, lt))) in
    let more : suc m ≡ m + 1 = omega arith in
    ap (λ v. length (filter p (range_with_len a v))) more
    ∙ ap (λ r. length (filter p r)) (range_split a m 1)
    ∙ ap (λ r. length r) (filter-append p (range_with_len a m) (range_with_len (a + m) 1))
    ∙ length-append (filter p (range_with_len a m)) (filter p (range_with_len (a + m) 1))
    ∙ ap (λ v. v + length (filter p (range_with_len (a + m) 1))) rec
    ∙ ap (λ v. count_ones (w % 2 ^ m) + v) last
    ∙ whole
  where
    last : length (filter p (range_with_len (a + m) 1)) ≡ count_ones (bit_at w m)
    last = one_kept (p (a + m)) (a + m) ∙ ap one_if (same m (omega arith)) ∙ ones_one (bit_at w m) (bit_at-lt w m)

    rest_lt : w % 2 ^ m < 2 ^ m
    rest_lt = mod-lt w (pow_pos m)

    whole : count_ones (w % 2 ^ m) + count_ones (bit_at w m) ≡ count_ones (w % 2 ^ suc m)
    whole =
        let turned : count_ones (w % 2 ^ m) + count_ones (bit_at w m)
        ≡ count_ones (bit_at w m) + count_ones (w % 2 ^ m) = omega arith in
        let more : 1 + m ≡ suc m = omega arith in
        turned ∙ sym (ones_cat m (bit_at w m) (w % 2 ^ m) rest_lt)
        ∙ sym (ap (λ v. count_ones v) (mod-pow-add w 1 m)) ∙ ap (λ v. count_ones (w % 2 ^ v)) more

-- the bit of a number in the first word, and of one in a later word
first_bit : (first w : ℕ) (ws : List ℕ) (i : ℕ) → i < 64 → has_bit first (w ∷ ws) (first * 64 + i) ≡ (bit_at w i == 1)
first_bit first w ws i lt =
    let word : (first * 64 + i) / 64 ≡ first = omega (arith, lt) in
    let rest : (first * 64 + i) % 64 ≡ i = omega (arith, lt) in
    let none : first - first ≡ 0 = omega arith in
    ap (λ q. bit_at (word_in first (w ∷ ws) q) ((first * 64 + i) % 64) == 1) word
    ∙ ap (λ v. bit_at v ((first * 64 + i) % 64) == 1)
    (word_from first (w ∷ ws) first (omega arith) ∙ ap (λ n. slice_index_or (w ∷ ws) n 0) none)
    ∙ ap (λ v. bit_at w v == 1) rest

later_bit : (first w : ℕ) (ws : List ℕ) (k : ℕ) → first * 64 + 64 ≤ k
    → has_bit first (w ∷ ws) k ≡ has_bit (first + 1) ws k
later_bit first w ws k le =
    let from : first + 1 ≤ k / 64 = omega (arith, le) in
    let at : k / 64 - first ≡ suc (k / 64 - (first + 1)) = omega (arith, from) in
    ap (λ v. bit_at v (k % 64) == 1)
    (word_from first (w ∷ ws) (k / 64) (omega (arith, from)) ∙ ap (λ n. slice_index_or (w ∷ ws) n 0) at
    ∙ sym (word_from (first + 1) ws (k / 64) from))

first_word : (first w : ℕ) (ws : List ℕ) → w < 2 ^ 64
    → length (filter (has_bit first (w ∷ ws)) (range_with_len (first * 64) 64)) ≡ count_ones w
first_word first w ws small =
    let whole : w % 2 ^ 64 ≡ w = omega (arith, small) in
    ones_below (has_bit first (w ∷ ws)) (first * 64) w 64 (first_bit first w ws) ∙ ap (λ v. count_ones v) whole

later_words : (first w : ℕ) (ws : List ℕ) (n : ℕ) → filter (has_bit first (w ∷ ws)) (range_with_len (first * 64 + 64) n)
    ≡ filter (has_bit (first + 1) ws) (range_with_len ((first + 1) * 64) n)
later_words first w ws n =
    let at : first * 64 + 64 ≡ (first + 1) * 64 = omega arith in
    filter_same (has_bit first (w ∷ ws)) (has_bit (first + 1) ws) (first * 64 + 64) n
    (λ k le lt. later_bit first w ws k le)
    ∙ ap (λ v. filter (has_bit (first + 1) ws) (range_with_len v n)) at

-- the members of a row are as many as the bits of its words
pub members_count : (first : ℕ) (words : List ℕ) → ((i : ℕ) → slice_index_or words i 0 < 2 ^ 64)
    → length (members first words) ≡ sum_by count_ones words
unfolding members
members_count first [] small = refl
members_count first (w ∷ ws) small =
    let size : suc (length ws) * 64 ≡ 64 + length ws * 64 = omega arith in
    let one_word : count_ones w ≡ sum_by count_ones (w ∷ []) = omega arith in
    ap (λ v. length (filter (has_bit first (w ∷ ws)) (range_with_len (first * 64) v))) size
    ∙ ap (λ r. length (filter (has_bit first (w ∷ ws)) r)) (range_split (first * 64) 64 (length ws * 64))
    ∙ ap (λ r. length r) (filter-append (has_bit first (w ∷ ws)) (range_with_len (first * 64) 64)
    (range_with_len (first * 64 + 64) (length ws * 64)))
    ∙ length-append (filter (has_bit first (w ∷ ws)) (range_with_len (first * 64) 64))
    (filter (has_bit first (w ∷ ws)) (range_with_len (first * 64 + 64) (length ws * 64)))
    ∙ ap (λ v. v + length (filter (has_bit first (w ∷ ws)) (range_with_len (first * 64 + 64) (length ws * 64))))
    (first_word first w ws (small 0))
    ∙ ap (λ r. count_ones w + length r) (later_words first w ws (length ws * 64))
    ∙ ap (λ v. count_ones w + v) (members_count (first + 1) ws (λ i. small (suc i)))
    ∙ ap (λ v. v + sum_by count_ones ws) one_word ∙ sym (sum_by-append count_ones (w ∷ []) ws)
