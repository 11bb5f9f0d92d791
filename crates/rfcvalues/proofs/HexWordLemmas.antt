-- The words of a text, one after another.
-- Serves: rule_sketch
use Rattle.std.proofs.Common.{◌≡◌, ◌≤◌, ◌<◌, ◌+◌, ℕ, suc, Bool, true, false, not, List, [], ◌∷◌, length, take, drop}
use Rattle.std.proofs.Common.{refl}
use Rattle.std.proofs.Common.{ap, ◌∙◌, arith, inl, inr, ◌||◌}
use Rattle.std.specs.List.{list_any}
use Rattle.std.proofs.lemmas.Bool.{cases_Bool}
use Rattle.rfcvalues.specs.HexWords.{before_words, ends_word, has_hex_word, is_hex_word, word_bytes, words_in}

-- the first word, where one stands after it
words-more : (text : List ℕ) → word_bytes text < length text
    → words_in text ≡ take (word_bytes text) text ∷ words_in (drop (suc (word_bytes text)) text)
words-more [] lt = absurd (omega (arith, lt))
words-more (b ∷ bs) lt = elim (cases_Bool (ends_word b)) [
  | inl e ↦ rw e refl
  | inr e ↦
      let size : word_bytes (b ∷ bs) ≡ 1 + word_bytes bs = rw e refl in
      let next : 1 + word_bytes bs ≡ suc (word_bytes bs) = omega arith in
      let rest = words-more bs (omega (arith, size, lt)) in
      rw e (rw next (ap (before_words b) rest))
]

-- the last word
words-last : (text : List ℕ) → length text ≤ word_bytes text → words_in text ≡ text ∷ []
words-last [] le = refl
words-last (b ∷ bs) le = elim (cases_Bool (ends_word b)) [
  | inl e ↦ absurd (let size : word_bytes (b ∷ bs) ≡ 0 = rw e refl in omega (arith, size, le))
  | inr e ↦
      let size : word_bytes (b ∷ bs) ≡ 1 + word_bytes bs = rw e refl in
      let rest = words-last bs (omega (arith, size, le)) in
      rw e (ap (before_words b) rest)
]

pub hex-more : (text : List ℕ) (n : ℕ) → n ≡ word_bytes text → n < length text
    → has_hex_word text ≡ (is_hex_word (take n text) || has_hex_word (drop (n + 1) text))
hex-more text n e lt =
    let here : word_bytes text < length text = omega (arith, e, lt) in
    let next : suc n ≡ n + 1 = omega arith in
    rw (← next, e) (ap (λ (ws : List (List ℕ)). list_any is_hex_word ws) (words-more text here))

pub hex-last : (text : List ℕ) (n : ℕ) → n ≡ word_bytes text → length text ≤ n
    → has_hex_word text ≡ is_hex_word text
hex-last text n e le =
    let last : words_in text ≡ text ∷ [] = words-last text (omega (arith, e, le)) in
    ap (λ (ws : List (List ℕ)). list_any is_hex_word ws) last ∙ or-false (is_hex_word text)
  where
    or-false : (b : Bool) → (b || false) ≡ b
    or-false true = refl
    or-false false = refl
