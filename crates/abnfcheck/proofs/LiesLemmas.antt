-- Where a list of letters lies in the line.
-- Serves: derivation_is_decided, furthest_is_found, lower_viable
use Rattle.std.proofs.Common.{◌≡◌, ℕ, zero, suc, ◌+◌, ◌≤◌, Bool, true, List, [], ◌∷◌, length, refl, subst, arith}
use Rattle.std.specs.Prelude.{slice_get, Some}
use Rattle.abnfcheck.specs.Derivable.{AreLetters}
use Rattle.abnfcheck.proofs.IsPathLemmas.{IsPath, here, step}

-- the letter c stands at i, and k is the position after it
abbrev pub OnLine : List ℕ → ℕ → ℕ → ℕ → Type 0
OnLine x i c k = (slice_get x i ≡ Some c) × (i + 1 ≡ k)

-- the letters from i to j are w
abbrev pub Lies : List ℕ → ℕ → List ℕ → ℕ → Type 0
Lies x i w j = IsPath (OnLine x) i w j

module _ (x : List ℕ) where
  lies_ahead : {i j : ℕ} {w : List ℕ} → Lies x i w j → i ≤ j
  lies_ahead here = omega arith
  lies_ahead (step is l) = omega (arith, is.1, lies_ahead l)

  same_span : {i j m k : ℕ} {w v : List ℕ} → Lies x i w j → Lies x m v k → i ≡ m → j ≡ k → w ≡ v
  same_span here here s e = refl
  same_span here (step is l) s e = absurd (omega (arith, is.1, lies_ahead l))
  same_span (step is l) here s e = absurd (omega (arith, is.1, lies_ahead l))
  same_span (step {c = c} {w = w} is l) (step {c = d} {w = v} at m) s e =
      let same : c ≡ d = cc (is.0, at.0) in let rest = same_span l m (omega (arith, is.1, at.1)) e in cc

  pub lies_one_word : {i j : ℕ} {w v : List ℕ} → Lies x i w j → Lies x i v j → w ≡ v
  lies_one_word l m = same_span l m refl refl

  letter_at : (has : ℕ → Bool) (x : List ℕ) (i c : ℕ) → AreLetters has x → slice_get x i ≡ Some c → has c ≡ true
  letter_at has [] i c all is = absurd cc
  letter_at has (b ∷ x) zero c all is = let same : b ≡ c = cc in subst (λ v. has v ≡ true) same all.0
  letter_at has (b ∷ x) (suc i) c all is = letter_at has x i c all.1 is

  pub are_letters : {i j : ℕ} {w : List ℕ} (has : ℕ → Bool) → AreLetters has x → Lies x i w j → AreLetters has w
  are_letters has all here = tt
  are_letters has all (step {i = i} {c = c} is l) = (letter_at has x i c all is.0, are_letters has all l)

lies_shifted : (b : ℕ) (x : List ℕ) {i j : ℕ} {w : List ℕ} → Lies x i w j → Lies (b ∷ x) (suc i) w (suc j)
lies_shifted b x here = here
lies_shifted b x (step {i = i} {k = k} is l) = step (is.0, omega (arith, is.1)) (lies_shifted b x l)

pub all_of : (x : List ℕ) → Lies x 0 x (length x)
all_of [] = here
all_of (b ∷ x) = step (refl, omega arith) (lies_shifted b x (all_of x))
