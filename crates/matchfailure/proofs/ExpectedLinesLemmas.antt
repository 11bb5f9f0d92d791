-- The lines of what was expected, of the first ones that are reported.
-- Serves: explain_no_match
use Rattle.std.proofs.Common.{◌≡◌, ℕ, zero, suc, ◌+◌, ◌-◌, ◌<◌, min, List, [], ◌∷◌, ◌++◌, length, take, ap}
use Rattle.std.proofs.Common.{append_assoc, arith, slice_get, Some, ◌∙◌, get_or, add-one}
use Rattle.std.proofs.Math.Seq.{take-suc}
use Rattle.std.proofs.lemmas.Grind.{flat_map-append}
use Rattle.std.proofs.lemmas.List.{append-nil, take_min}
use Rattle.std.specs.List.{flat_map}
use Rattle.matchfailure.specs.declared.farthest.visit.Visit.{Visit}
use Rattle.matchfailure.specs.FittingFailures.{AreFitting}
use Rattle.matchfailure.specs.NoMatchLines.{more_expected}

min-turned : (a b : ℕ) → min a b ≡ min b a
min-turned a b = omega arith

first-reported : (vs : List Visit) (k : ℕ) → k ≡ min (length vs) 16 → take k vs ≡ take 16 vs
first-reported vs k e = ap (λ (n : ℕ). take n vs) (e ∙ min-turned (length vs) 16) ∙ take_min 16 vs

left-over : (vs : List Visit) (k : ℕ) → k ≡ min (length vs) 16 → length vs - k ≡ length vs - 16
left-over vs k e = omega (arith, e)

-- the lines of the first ones, and after them how many more there are
pub expected-join : (f : Visit → List ℕ) (vs : List Visit) (k : ℕ) (o a b : List ℕ)
    → k ≡ min (length vs) 16 → a ≡ o ++ flat_map f (take k vs) → b ≡ a ++ more_expected (length vs - k)
    → b ≡ o ++ (flat_map f (take 16 vs) ++ more_expected (length vs - 16))
expected-join f vs k o a b e g h =
    let first = ap (flat_map f) (first-reported vs k e) in
    let left = ap more_expected (left-over vs k e) in
    rw (h, g, first, left)
    (append_assoc o (flat_map f (take 16 vs)) (more_expected (length vs - 16)))

-- what is in the first ones is in the list
in-front : (vs : List Visit) (k i : ℕ) (v : Visit) → slice_get (take k vs) i ≡ Some v → slice_get vs i ≡ Some v
in-front [] zero i v e = absurd (cc e)
in-front [] (suc k) i v e = absurd (cc e)
in-front (w ∷ vs) zero i v e = absurd (cc e)
in-front (w ∷ vs) (suc k) zero v e = e
in-front (w ∷ vs) (suc k) (suc i) v e = in-front vs k i v e

pub first-fit : (nodes unit : ℕ) (vs : List Visit) (k : ℕ) → AreFitting nodes unit vs
    → AreFitting nodes unit (take k vs)
first-fit nodes unit vs k fit v (i, e) = fit v (i, in-front vs k i v e)

-- after the lines of the first ones, the line of the next
pub next-line : (f : Visit → List ℕ) (vs : List Visit) (i : ℕ) (d : Visit) (o a b : List ℕ) → i < length vs
    → a ≡ o ++ flat_map f (take i vs) → b ≡ a ++ f (get_or vs i d) → b ≡ o ++ flat_map f (take (i + 1) vs)
next-line f vs i d o a b l g h =
    let one : take (i + 1) vs ≡ take i vs ++ get_or vs i d ∷ [] =
    ap (λ (n : ℕ). take n vs) (add-one i) ∙ take-suc vs i d l in
    let lines : flat_map f (take (i + 1) vs) ≡ flat_map f (take i vs) ++ f (get_or vs i d) =
    ap (flat_map f) one ∙ flat_map-append f (take i vs) (get_or vs i d ∷ [])
    ∙ ap (λ (z : List ℕ). flat_map f (take i vs) ++ z) (append-nil (f (get_or vs i d))) in
    rw (h, g, lines) (append_assoc o (flat_map f (take i vs)) (f (get_or vs i d)))
