-- Each value is that of a letter, so those up to it are.
use Rattle.std.proofs.Common.{◌≡◌, ℕ, zero, suc, ◌+◌, ◌<◌, Bool, true, List, [], ◌∷◌, length, take, map, get_or}
use Rattle.std.proofs.Common.{add-one, arith, subst}
use Rattle.abnfcheck.specs.Derivable.{AreLetters}
use Rattle.ruletable.specs.Letters.{has}
use Rattle.lowering.proofs.letter_law.values_are_letters.Goals as goal

module _ {A : Type 0} (test : ℕ → Bool) (f : A → ℕ) where
  next_of : (xs : List A) (i : ℕ) (d : A) → i < length xs → AreLetters test (map f (take i xs))
      → test (f (get_or xs i d)) ≡ true →
      AreLetters test (map f (take (suc i) xs))
  next_of [] i d lt all is = absurd (omega (arith, lt))
  next_of (x ∷ xs) zero d lt all is = (is, tt)
  next_of (x ∷ xs) (suc i) d lt all is = (all.0, next_of xs i d (omega (arith, lt)) all.1 is)

  next_letter : (xs : List A) (i : ℕ) (v : A) → i < length xs → v ≡ get_or xs i v → AreLetters test (map f (take i xs))
      → test (f v) ≡ true →
      AreLetters test (map f (take (i + 1) xs))
  next_letter xs i v lt is all good = rw (add-one i) (next_of xs i v lt all (subst (λ u. test (f u) ≡ true) is good))

pub loop-letter-preserved : goal.loop-letter-preserved
loop-letter-preserved g c =
    next_letter (has g.L.Letter.ALPHABET) g.L.Letter.number c.args.line.now c.loop-letter.letter-index
    c.letter-item.result c.loop-letter-test.true c.letter-item.is c.loop-letter.invariant
    (subst (λ v. has g.L.Letter.ALPHABET v ≡ true) c.value.ensures.number c.value.ensures.letter)
