-- Cutting blanks from both ends of a text.
-- Serves: check_peg
use Rattle.std.proofs.Common.{◌≡◌, ℕ, suc, ◌+◌, ◌<◌, true, false, List, ◌∷◌, length, get_or, take, drop, reverse, refl}
use Rattle.std.proofs.Common.{sym, add-one, drop-cons}
use Rattle.std.proofs.Math.Seq.{take-suc}
use Rattle.std.proofs.lemmas.List.{reverse-append}
use Rattle.pegnodes.specs.Templates.{is_blank, cut_front}

cut_blank : (t : List ℕ) (b : ℕ) → is_blank b ≡ true → cut_front (b ∷ t) ≡ cut_front t
cut_blank t b h = rw h refl

cut_other : (t : List ℕ) (b : ℕ) → is_blank b ≡ false → cut_front (b ∷ t) ≡ b ∷ t
cut_other t b h = rw h refl

pub front_blank : (t : List ℕ) (i : ℕ) → i < length t → is_blank (get_or t i 0) ≡ true → cut_front (drop (i + 1) t)
    ≡ cut_front (drop i t)
front_blank t i lt h = rw (drop-cons t i 0, add-one i) (sym (cut_blank (drop (suc i) t) (get_or t i 0) h))

pub front_other : (t : List ℕ) (i : ℕ) → i < length t → is_blank (get_or t i 0) ≡ false
    → drop i t ≡ cut_front (drop i t)
front_other t i lt h = rw (drop-cons t i 0) (sym (cut_other (drop (suc i) t) (get_or t i 0) h))

last_first : (t : List ℕ) (j : ℕ) → j < length t → reverse (take (suc j) t) ≡ get_or t j 0 ∷ reverse (take j t)
last_first t j lt = rw (take-suc t j 0) (simp reverse-append)

pub back_blank : (t : List ℕ) (j e : ℕ) → e ≡ suc j → j < length t → is_blank (get_or t j 0) ≡ true →
    cut_front (reverse (take j t)) ≡ cut_front (reverse (take e t))
back_blank t j e is lt h = rw (is, last_first t j lt) (sym (cut_blank (reverse (take j t)) (get_or t j 0) h))

pub back_other : (t : List ℕ) (j e : ℕ) → e ≡ suc j → j < length t → is_blank (get_or t j 0) ≡ false →
    reverse (take e t) ≡ cut_front (reverse (take e t))
back_other t j e is lt h = rw (is, last_first t j lt) (sym (cut_other (reverse (take j t)) (get_or t j 0) h))
