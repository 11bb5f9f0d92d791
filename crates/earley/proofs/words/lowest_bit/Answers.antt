-- The bits from `from` on, moved down.
use Rattle.std.proofs.Common.{◌≡◌, ℕ, ◌+◌, ◌-◌, ◌/◌, ◌%◌, ◌^◌, ◌<◌, ◌≤◌, ap, sym, ◌∙◌, arith, refl, zero, suc}
use Rattle.std.proofs.Common.{Bool, true, false, nat_le}
use Rattle.std.proofs.lemmas.Bool.Decides.{nat_tests}
use Rattle.std.specs.Int.{bit_at, trailing_zeros, w64}
use Rattle.std.proofs.lemmas.Nat.{shr-shr, shr_le}
use Rattle.std.proofs.lemmas.Nat.Bits.{bit_at-zero, bit_at-trailing_zeros, bit_at_above}
use Rattle.earley.proofs.words.lowest_bit.Goals as goal

positive : (n : ℕ) → (n ≡ 0 → ⊥) → 0 < n
positive zero not = absurd (not refl)
positive (suc n) not = omega arith

moved : (w f d : ℕ) → bit_at (w / 2 ^ f) d ≡ bit_at w (f + d)
moved w f d = ap (λ v. v % 2) (shr-shr w f d)

none_above : (w f : ℕ) → w / 2 ^ f ≡ 0 → (i : ℕ) → f ≤ i → bit_at w i ≡ 0
none_above w f none i le =
    let back : f + (i - f) ≡ i = omega (arith, le) in
    ap (λ v. bit_at w v) (sym back) ∙ sym (moved w f (i - f)) ∙ ap (λ v. bit_at v (i - f)) none ∙ bit_at-zero (i - f)

record Found (w f t : ℕ) : Type 0 where
  below : f + t < 64
  set : bit_at w (f + t) ≡ 1
  first : (i : ℕ) → f ≤ i → i < f + t → bit_at w i ≡ 0

found_at : (w f : ℕ) → w < 2 ^ 64 → 0 < w / 2 ^ f → Found w f (trailing_zeros w64 (w / 2 ^ f))
found_at w f small some = record {
  below = within (f + trailing_zeros w64 (w / 2 ^ f)) is_set;
  set = is_set;
  first = λ i le lt. let back : f + (i - f) ≡ i = omega (arith, le) in
      ap (λ v. bit_at w v) (sym back) ∙ sym (moved w f (i - f)) ∙ at.2 (i - f) (omega (arith, le, lt));
}
  where
    at : (trailing_zeros w64 (w / 2 ^ f) < 64) × (bit_at (w / 2 ^ f) (trailing_zeros w64 (w / 2 ^ f)) ≡ 1)
        × ((i : ℕ) → i < trailing_zeros w64 (w / 2 ^ f) → bit_at (w / 2 ^ f) i ≡ 0)
    at = bit_at-trailing_zeros w64 (w / 2 ^ f) some (omega (arith, small, shr_le w f))

    is_set : bit_at w (f + trailing_zeros w64 (w / 2 ^ f)) ≡ 1
    is_set = sym (moved w f (trailing_zeros w64 (w / 2 ^ f))) ∙ at.1

    within : (n : ℕ) → bit_at w n ≡ 1 → n < 64
    within n is = by (nat_le 64 n) refl
      where
        by : (b : Bool) → nat_le 64 n ≡ b → n < 64
        by true le =
            let there : 64 ≤ n = grind (arith, nat_tests) in
            let none = bit_at_above w 64 n small there in
            absurd (omega (arith, sym none ∙ is))
        by false le = grind (arith, nat_tests)

pub returns-then-high-eq0-clause-none : goal.returns-then-high-eq0-clause-none
returns-then-high-eq0-clause-none c = none_above c.args.word c.args.from c.if-high-eq0.true

pub returns-clause-found : goal.returns-clause-found
returns-clause-found c =
    let some : 0 < c.args.word / 2 ^ c.args.from = positive (c.args.word / 2 ^ c.args.from) c.if-high-eq0.false in
    let at = found_at c.args.word c.args.from c.ranges.word.fits some in
    (omega arith, at.below, at.set)

pub returns-clause-first : goal.returns-clause-first
returns-clause-first c =
    let some : 0 < c.args.word / 2 ^ c.args.from = positive (c.args.word / 2 ^ c.args.from) c.if-high-eq0.false in
    let at = found_at c.args.word c.args.from c.ranges.word.fits some in
    at.first
