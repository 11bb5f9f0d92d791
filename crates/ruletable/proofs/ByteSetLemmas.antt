-- A set of bytes, bit by bit.
-- Serves: ByteSet::add_range, ByteSet::complement, ByteSet::has, ByteSet::new
use Rattle.std.proofs.Common.{◌≡◌, ◌≢◌, ℕ, zero, suc, ◌+◌, ◌*◌, ◌<◌, ◌≤◌, ◌/◌, ◌%◌, ◌^◌, ◌==◌, ◌||◌, not, false, List}
use Rattle.std.proofs.Common.{[], ◌∷◌, length, get_or, set, refl, sym, ap, subst, ◌⊎◌, ◌&&◌, ◌-◌, nat_le, nat_lt, ◌∙◌}
use Rattle.std.proofs.Common.{inl, inr, arith, bit_and, bit_or, bit_xor, ltb, w64}
use Rattle.std.proofs.lemmas.Bool.{cases_Bool, cases_eq, or_right, or_from}
use Rattle.std.proofs.Math.Bool.{or-false}
use Rattle.std.proofs.lemmas.Bool.Decides.{nat_tests, Decides-ltb, Decides-eqb}
use Rattle.std.proofs.lemmas.List.{get_or_past, get_or-set_same, get_or-set_other}
use Rattle.std.proofs.lemmas.Nat.Bits.{shr_and_one, bit_at-zero, bit_at_set_same, bit_at_set_other, bit_at_xor}
use Rattle.std.proofs.lemmas.Nat.Bits.{bit_at_ones, bit_at-lt}
use Rattle.std.specs.Int.{bit_at}
use Rattle.std.proofs.lemmas.List.FromFn.{length-map-range_with_len, get_or-map-range_with_len}
use Rattle.ruletable.specs.Members.{is_member, members_of}

pub length-members_of : (words : List ℕ) → length (members_of words) ≡ 256
unfolding members_of
length-members_of words = length-map-range_with_len (is_member words) 0 256

pub get_or-members_of : (words : List ℕ) (k : ℕ) → k < 256 → get_or (members_of words) k false ≡ is_member words k
unfolding members_of
get_or-members_of words k h = get_or-map-range_with_len (is_member words) 0 256 k k false h (omega arith)

pub get_or-members_of-past : (words : List ℕ) (k : ℕ) → 256 ≤ k → get_or (members_of words) k false ≡ false
get_or-members_of-past words k h = get_or_past (members_of words) k false (omega (arith, length-members_of words))

-- the empty set
is_member-none : (q i : ℕ) → bit_at (get_or (0 ∷ 0 ∷ 0 ∷ 0 ∷ []) q 0) i ≡ 0
is_member-none zero i = bit_at-zero i
is_member-none (suc zero) i = bit_at-zero i
is_member-none (suc (suc zero)) i = bit_at-zero i
is_member-none (suc (suc (suc zero))) i = bit_at-zero i
is_member-none (suc (suc (suc (suc q)))) i = bit_at-zero i

-- a fact at the bytes, and past them
at_each : (P : ℕ → Type 0) → ((k : ℕ) → k < 256 → P k) → ((k : ℕ) → 256 ≤ k → P k) → (k : ℕ) → P k
at_each P within past k =
    elim (cases_Bool (ltb k 256)) [
      | inl e ↦ within k ((Decides-ltb k 256).0 e)
      | inr e ↦ past k (grind (arith, nat_tests))
    ]

pub members-none : (k : ℕ) → get_or (members_of (0 ∷ 0 ∷ 0 ∷ 0 ∷ [])) k false ≡ false
members-none = at_each (λ k. get_or (members_of (0 ∷ 0 ∷ 0 ∷ 0 ∷ [])) k false ≡ false)
    (λ k h. get_or-members_of (0 ∷ 0 ∷ 0 ∷ 0 ∷ []) k h ∙ ap (λ n. n == 1) (is_member-none (k / 64) (k % 64)))
    (get_or-members_of-past (0 ∷ 0 ∷ 0 ∷ 0 ∷ []))

-- the test of a bit in the code
pub members-has : (words : List ℕ) (b : ℕ) → b < 256 → (bit_and (get_or words (b / 64) 0 / 2 ^ (b % 64)) 1 == 1)
    ≡ get_or (members_of words) b false
members-has words b h = ap (λ n. n == 1) (shr_and_one (get_or words (b / 64) 0) (b % 64))
    ∙ sym (get_or-members_of words b h)

-- a bit that is set, and the others
module _ (words : List ℕ) (j i : ℕ) (inside : j < length words) (bit : i < 64) where
  abbrev word_with : ℕ
  word_with = bit_or (get_or words j 0) (1 * 2 ^ i % 2 ^ 64)

  bit_set : bit_at (get_or (set words j word_with) j 0) i ≡ 1
  bit_set = ap (λ w. bit_at w i) (get_or-set_same words j word_with 0 inside)
      ∙ bit_at_set_same w64 (get_or words j 0) i bit

  bit_kept : (q : ℕ) → q ≢ i → bit_at (get_or (set words j word_with) j 0) q ≡ bit_at (get_or words j 0) q
  bit_kept q n = ap (λ w. bit_at w q) (get_or-set_same words j word_with 0 inside)
      ∙ bit_at_set_other w64 (get_or words j 0) i bit q n

  word_kept : (p : ℕ) → p ≢ j → get_or (set words j word_with) p 0 ≡ get_or words p 0
  word_kept p n = get_or-set_other words j p word_with 0 n

-- the set with one more byte
pub members-put : (words : List ℕ) (b : ℕ) → length words ≡ 4 → b < 256 → (k : ℕ) →
    get_or (members_of (set words (b / 64) (bit_or (get_or words (b / 64) 0) (1 * 2 ^ (b % 64) % 2 ^ 64)))) k false
    ≡ (get_or (members_of words) k false || (k == b))
members-put words b four h =
    at_each (λ k. get_or (members_of new) k false ≡ (get_or (members_of words) k false || (k == b))) within past
  where
    new : List ℕ
    new = set words (b / 64) (bit_or (get_or words (b / 64) 0) (1 * 2 ^ (b % 64) % 2 ^ 64))

    at : b / 64 < length words
    at = omega arith

    bit : b % 64 < 64
    bit = omega arith

    same : (k : ℕ) → k ≡ b → is_member new k ≡ (is_member words k || (k == b))
    same k e =
        subst (λ j. is_member new j ≡ (is_member words j || (j == b))) (sym e)
        (ap (λ n. n == 1) (bit_set words (b / 64) (b % 64) at bit)
        ∙ sym (or_right (is_member words b) (b == b) ((Decides-eqb b b).1 refl)))

    apart : (k : ℕ) → k ≢ b → (k == b) ≡ false
    apart k n = grind (arith, nat_tests)

    kept : (k : ℕ) → k ≢ b → is_member new k ≡ is_member words k
    kept k n =
        elim (cases_eq (k / 64) (b / 64)) [
          | inl e ↦
              let d : k % 64 ≢ b % 64 = omega arith in
              ap (λ p. bit_at (get_or new p 0) (k % 64) == 1) e
              ∙ ap (λ n. n == 1) (bit_kept words (b / 64) (b % 64) at bit (k % 64) d)
              ∙ sym (ap (λ p. bit_at (get_or words p 0) (k % 64) == 1) e)
          | inr d ↦ ap (λ w. bit_at w (k % 64) == 1) (word_kept words (b / 64) (b % 64) at bit (k / 64) d)
        ]

    other : (k : ℕ) → k ≢ b → is_member new k ≡ (is_member words k || (k == b))
    other k n = kept k n ∙ sym (or-false (is_member words k)) ∙ ap (λ t. is_member words k || t) (sym (apart k n))

    each : (k : ℕ) → is_member new k ≡ (is_member words k || (k == b))
    each k = elim (cases_eq k b) [ inl e ↦ same k e | inr n ↦ other k n ]

    within : (k : ℕ) → k < 256 → get_or (members_of new) k false ≡ (get_or (members_of words) k false || (k == b))
    within k lt = get_or-members_of new k lt ∙ each k ∙ ap (λ x. x || (k == b)) (sym (get_or-members_of words k lt))

    past : (k : ℕ) → 256 ≤ k → get_or (members_of new) k false ≡ (get_or (members_of words) k false || (k == b))
    past k ge =
        let n : k ≢ b = omega arith in
        get_or-members_of-past new k ge ∙ sym (or_from (get_or (members_of words) k false) (k == b)
        (get_or-members_of-past words k ge) (apart k n))

-- the bytes of a range before one of them, and that one
pub range-none : (first k : ℕ) → (nat_le first k && nat_lt k first) ≡ false
range-none first k = grind (arith, nat_tests)

pub range-more : (first b k : ℕ) → first ≤ b → ((nat_le first k && nat_lt k b) || (k == b))
    ≡ (nat_le first k && nat_le k b)
range-more first b k h = grind (arith, nat_tests)

pub range-past : (first last b k : ℕ) → (b ≤ last) ⊎ (b ≡ first) → last < b → (nat_le first k && nat_lt k b)
    ≡ (nat_le first k && nat_le k last)
range-past first last b k (inl h) past = absurd (omega arith)
range-past first last b k (inr e) past = grind (arith, nat_tests)

-- each bit turned
next-is_odd : (x : ℕ) → x < 2 → ((1 + x) % 2 == 1) ≡ not (x == 1)
next-is_odd zero h = refl
next-is_odd (suc zero) h = refl
next-is_odd (suc (suc x)) h = absurd (omega arith)

module _ (words : List ℕ) where
  abbrev other : ℕ → ℕ
  other q = bit_xor (2 ^ 64 - 1) (get_or words q 0)

  abbrev others : List ℕ
  others = other 0 ∷ other 1 ∷ other 2 ∷ other 3 ∷ []

  get_or-others : (q : ℕ) → q < 4 → get_or others q 0 ≡ other q
  get_or-others zero h = refl
  get_or-others (suc zero) h = refl
  get_or-others (suc (suc zero)) h = refl
  get_or-others (suc (suc (suc zero))) h = refl
  get_or-others (suc (suc (suc (suc q)))) h = absurd (omega arith)

  pub members-turned : (k : ℕ) → k < 256 → get_or (members_of others) k false ≡ not (get_or (members_of words) k false)
  members-turned k h =
      let q : k / 64 < 4 = omega arith in
      let i : k % 64 < 64 = omega arith in
      let x = bit_at (get_or words (k / 64) 0) (k % 64) in
      get_or-members_of others k h
      ∙ ap (λ w. bit_at w (k % 64) == 1) (get_or-others (k / 64) q)
      ∙ ap (λ n. n == 1) (bit_at_xor (2 ^ 64 - 1) (get_or words (k / 64) 0) (k % 64)
      ∙ ap (λ n. (n + x) % 2) (bit_at_ones 64 (k % 64) i))
      ∙ next-is_odd x (bit_at-lt (get_or words (k / 64) 0) (k % 64))
      ∙ ap not (sym (get_or-members_of words k h))
