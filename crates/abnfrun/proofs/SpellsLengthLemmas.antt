-- A line has no more code points than bytes, and those of a line of ASCII are the bytes.
-- Serves: run_abnf (right)
use Rattle.std.proofs.Common.{ℕ, suc, ◌<◌, ◌≤◌, List, [], ◌∷◌, length, arith, length-append, inl}
use Rattle.std.specs.Str.{IsAscii}
use Rattle.abnfcheck.specs.Derivable.{AreLetters}
use Rattle.ruletable.specs.Letters.{has}
use Rattle.ruletable.specs.Utf8Text.{Spells, end, next, Writes}
use Rattle.ruletable.specs.declared.alphabet.Alphabet.TheVariants.{Utf8}

writes_some : {c : ℕ} {bytes : List ℕ} → Writes c bytes → 0 < length bytes
writes_some (Writes.one below) = omega arith
writes_some (Writes.two a b is lb from below) = omega arith
writes_some (Writes.three a b d is lb ld from below) = omega arith
writes_some (Writes.four a b d e is lb ld le from below) = omega arith

-- a code point has a byte at least
pub points_at_most : {points line : List ℕ} → Spells points line → length points ≤ length line
points_at_most end = omega arith
points_at_most (next {bytes = bytes} {rest = rest} point writes spells) =
    let some = writes_some writes in
    let rec = points_at_most spells in
    let size = length-append bytes rest in
    omega (arith, some, rec, size)

-- a line of ASCII
pub ascii_spelled : (line : List ℕ) → IsAscii line → Spells line line
ascii_spelled [] ascii = end
ascii_spelled (b ∷ bs) ascii =
    let low : b < 128 = ascii 0 in
    next (inl (omega (arith, low))) (Writes.one low) (ascii_spelled bs (λ i. ascii (suc i)))

pub ascii_letters : (line : List ℕ) → IsAscii line → AreLetters (has Utf8) line
ascii_letters [] ascii = _
ascii_letters (b ∷ bs) ascii =
    let low : b < 128 = ascii 0 in
    (grind (arith, low), ascii_letters bs (λ i. ascii (suc i)))
