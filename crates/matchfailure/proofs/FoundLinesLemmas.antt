-- What is seen of an input after its front.
-- Serves: explain_no_match
use Rattle.std.proofs.Common.{◌≡◌, ℕ, ◌+◌, List, ◌++◌, length, take, drop, sym, ap, ◌∙◌, arith, ◌-◌, length-drop}
use Rattle.std.proofs.Common.{◌==◌, true, false, [], ◌∷◌, refl}
use Rattle.std.proofs.lemmas.Bool.{eqb-true}
use Rattle.std.proofs.Math.Seq.{drop-append-add, take-append-add, take-length}
use Rattle.matchfailure.specs.NoMatchLines.{nothing_failed, opening}
use Rattle.matchfailure.specs.InputPositions.{position_after}
use Rattle.matchfailure.specs.declared.explain.position.TextPosition.{TextPosition}

-- a slice from a position on
pub slice-from : (seen : List ℕ) (n : ℕ) → take (length seen - n) (drop n seen) ≡ drop n seen
slice-from seen n =
    ap (λ (k : ℕ). take k (drop n seen)) (sym (length-drop n seen)) ∙ take-length (drop n seen)

pub byte-is : (front : List ℕ) (at : TextPosition) → at ≡ position_after front → at.byte ≡ length front
byte-is front at e = ap (λ (a : TextPosition). a.byte) e

pub seen-from : (front seen : List ℕ) (at : TextPosition) (offset : ℕ) → at ≡ position_after front
    → drop (at.byte + offset) (front ++ seen) ≡ drop offset seen
seen-from front seen at offset e =
    ap (λ (n : ℕ). drop (n + offset) (front ++ seen)) (byte-is front at e) ∙ drop-append-add front seen offset

taken-to : (front seen : List ℕ) (at : TextPosition) (offset position : ℕ) → at ≡ position_after front
    → take ((at.byte + offset) + position) (front ++ seen) ≡ front ++ take (offset + position) seen
taken-to front seen at offset position e =
    let byte = byte-is front at e in
    let sum : (at.byte + offset) + position ≡ length front + (offset + position) = omega (arith, byte) in
    ap (λ (n : ℕ). take n (front ++ seen)) sum ∙ take-append-add front seen (offset + position)

-- what holds of what is seen of a unit, and of a position of that, holds of the input
pub reported-of-input : (reported : List ℕ → TextPosition → List ℕ) (front seen : List ℕ) (at failing : TextPosition)
    (offset position : ℕ) → at ≡ position_after front → failing
    ≡ position_after (front ++ take (offset + position) seen)
    → reported (drop offset seen) failing ≡ reported (drop (at.byte + offset) (front ++ seen))
    (position_after (take ((at.byte + offset) + position) (front ++ seen)))
reported-of-input reported front seen at failing offset position e f =
    ap (λ (w : List ℕ). reported w failing) (sym (seen-from front seen at offset e))
    ∙ ap (reported (drop (at.byte + offset) (front ++ seen)))
    (f ∙ ap position_after (sym (taken-to front seen at offset position e)))

-- the first line where there are no others
pub quiet-opening : (name lines : List ℕ) → (length lines == 0) ≡ true → opening false name lines ≡ nothing_failed
quiet-opening name [] e = refl
quiet-opening name (b ∷ lines) e = let none = eqb-true (length (b ∷ lines)) 0 e in absurd (omega (arith, none))
