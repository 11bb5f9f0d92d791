-- Comparing a literal with a text, byte by byte.
-- Serves: match_bytes
use Rattle.std.proofs.Common.{◌≡◌, ◌≢◌, ℕ, suc, ◌+◌, ◌<◌, ◌≤◌, true, false, List, [], ◌∷◌, length, get_or, drop, refl}
use Rattle.std.proofs.Common.{arith, add-one, drop-cons}
use Rattle.std.proofs.lemmas.Grind.{common_steps}
use Rattle.gramcheck.specs.Outcome.{begins_with, compared}

same_head : (a b : ℕ) (t l : List ℕ) → a ≡ b → (begins_with (a ∷ t) (b ∷ l) ≡ begins_with t l)
    × (compared (a ∷ t) (b ∷ l) ≡ compared t l + 1)
same_head a b t l h = (grind (arith, common_steps), grind (arith, common_steps))

other_head : (a b : ℕ) (t l : List ℕ) → a ≢ b → (begins_with (a ∷ t) (b ∷ l) ≡ false) × (compared (a ∷ t) (b ∷ l) ≡ 1)
other_head a b t l h = (grind (arith, common_steps), grind (arith, common_steps))

pub equal_byte : (t l : List ℕ) (i : ℕ) → i < length t → i < length l → get_or t i 0 ≡ get_or l i 0 →
    (begins_with (drop i t) (drop i l) ≡ begins_with (drop (i + 1) t) (drop (i + 1) l))
    × (compared (drop i t) (drop i l) ≡ compared (drop (i + 1) t) (drop (i + 1) l) + 1)
equal_byte t l i ht hl h =
    rw (drop-cons t i 0, drop-cons l i 0, add-one i) (same_head _ _ (drop (suc i) t) (drop (suc i) l) h)

pub other_byte : (t l : List ℕ) (i : ℕ) → i < length t → i < length l → get_or t i 0 ≢ get_or l i 0 →
    (begins_with (drop i t) (drop i l) ≡ false) × (compared (drop i t) (drop i l) ≡ 1)
other_byte t l i ht hl h = rw (drop-cons t i 0, drop-cons l i 0) (other_head _ _ (drop (suc i) t) (drop (suc i) l) h)

pub text_ends : (t l : List ℕ) (i : ℕ) → length t ≤ i → i < length l →
    (begins_with (drop i t) (drop i l) ≡ false) × (compared (drop i t) (drop i l) ≡ 0)
text_ends t l i ht hl = let none : drop i t ≡ [] = grind (arith, common_steps) in
    rw (none, drop-cons l i 0) (refl, refl)

pub literal_ends : (t l : List ℕ) (i : ℕ) → length l ≤ i →
    (begins_with (drop i t) (drop i l) ≡ true) × (compared (drop i t) (drop i l) ≡ 0)
literal_ends t l i h = let none : drop i l ≡ [] = grind (arith, common_steps) in rw none (ends (drop i t))
  where
    ends : (t : List ℕ) → (begins_with t [] ≡ true) × (compared t [] ≡ 0)
    ends [] = (refl, refl)
    ends (b ∷ t) = (refl, refl)
