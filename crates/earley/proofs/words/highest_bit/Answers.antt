-- The bit after the zeros that lead.
use Rattle.std.proofs.Common.{◌≡◌, ℕ, zero, suc, ◌-◌, ◌*◌, ◌/◌, ◌%◌, ◌^◌, ◌<◌, ◌≤◌, ap, subst, arith, refl}
use Rattle.std.specs.Int.{bit_at}
use Rattle.std.specs.Int.Count.{count_leading_zeros}
use Rattle.std.proofs.Math.Nat.{div-eq_of_lt-le, pow-suc}
use Rattle.std.proofs.lemmas.Nat.{leading_top}
use Rattle.std.proofs.lemmas.Nat.Bits.{bit_at_above}
use Rattle.earley.proofs.words.highest_bit.Goals as goal

positive : (n : ℕ) → (n ≡ 0 → ⊥) → 0 < n
positive zero not = absurd (not refl)
positive (suc n) not = omega arith

record Top (w t : ℕ) : Type 0 where
  below : t < 64
  set : bit_at w t ≡ 1
  last : (i : ℕ) → t < i → bit_at w i ≡ 0

top_at : (w j : ℕ) → j < 64 → 2 ^ j ≤ w → w < 2 ^ suc j → Top w j
top_at w j below low high = record {
  below = below;
  set = ap (λ v. v % 2) one;
  last = λ i lt. bit_at_above w (suc j) i high (omega (arith, lt));
}
  where
    twice : 2 ^ suc j ≡ 2 ^ j * 2
    twice = pow-suc 2 j

    one : w / 2 ^ j ≡ 1
    one = div-eq_of_lt-le (2 ^ j) (omega (arith, low)) (omega (arith, high, twice))

top_of : (w : ℕ) → w < 2 ^ 64 → 0 < w → Top w (63 - count_leading_zeros 64 w)
top_of w small some =
    let top = leading_top 64 w some small in
    let sum = top.1 in
    let same : top.0 ≡ 63 - count_leading_zeros 64 w = omega (arith, sum) in
    subst (λ j. Top w j) same (top_at w top.0 (omega (arith, sum)) top.2 top.3)

pub returns-clause-found : goal.returns-clause-found
returns-clause-found c =
    let at = top_of c.args.word c.ranges.word.fits (positive c.args.word c.if-word-eq0.false) in
    (at.below, at.set)

pub returns-clause-last : goal.returns-clause-last
returns-clause-last c = (top_of c.args.word c.ranges.word.fits (positive c.args.word c.if-word-eq0.false)).last
