-- Words of windows.
-- Serves: BitRow::insert, BitRow::merge
use Rattle.std.proofs.Common.{zero, suc, ◌^◌}
use Rattle.std.proofs.Common.{◌≡◌, ◌≢◌, ℕ, ◌+◌, ◌-◌, ◌<◌, ◌≤◌, ◌⊎◌, inl, inr, Bool, true, false, nat_le, List, [], ◌∷◌}
use Rattle.std.proofs.Common.{length, cond, slice_index_or, refl, sym, ap, ◌∙◌, arith, bit_and, bit_or, set}
use Rattle.std.proofs.lemmas.Bool.Decides.{nat_tests}
use Rattle.std.proofs.lemmas.List.{get_or_past, get_or-set_same, get_or-set_other}
use Rattle.std.specs.Int.{bit_not, w64}
use Rattle.std.specs.Int.Bits.{or_zero_r, and_zero_l}
use Rattle.earley.specs.RowMembers.{word_in}

pub word_before : (first : ℕ) (words : List ℕ) (i : ℕ) → i < first → word_in first words i ≡ 0
word_before first words i lt = ap (λ b. cond b (slice_index_or words (i - first) 0) 0) none
  where
    none : nat_le first i ≡ false
    none = grind (arith, nat_tests)

pub word_from : (first : ℕ) (words : List ℕ) (i : ℕ) → first ≤ i → word_in first words i
    ≡ slice_index_or words (i - first) 0
word_from first words i le = ap (λ b. cond b (slice_index_or words (i - first) 0) 0) some
  where
    some : nat_le first i ≡ true
    some = grind (arith, nat_tests)

pub word_past : (first : ℕ) (words : List ℕ) (i : ℕ) → first + length words ≤ i → word_in first words i ≡ 0
word_past first words i le =
    word_from first words i (omega (arith, le)) ∙ get_or_past words (i - first) 0 (omega (arith, le))

-- a word is before the window, in it, or past it
pub word_cases : (first : ℕ) (words : List ℕ) (i : ℕ) → (word_in first words i ≡ 0)
    ⊎ ((first ≤ i) × (i < first + length words))
word_cases first words i = by (nat_le first i) refl
  where
    inside : (b : Bool) → nat_le (first + length words) i ≡ b → first ≤ i → (word_in first words i ≡ 0)
        ⊎ ((first ≤ i) × (i < first + length words))
    inside true is le = inl (word_past first words i (grind (arith, nat_tests)))
    inside false is le = inr (le, grind (arith, nat_tests))

    by : (b : Bool) → nat_le first i ≡ b → (word_in first words i ≡ 0) ⊎ ((first ≤ i) × (i < first + length words))
    by true is = inside (nat_le (first + length words) i) refl (grind (arith, nat_tests))
    by false is = inl (word_before first words i (grind (arith, nat_tests)))

-- a word stands outside of the window, or has a number in it
pub word_position : (at : ℕ) (more : List ℕ) (n : ℕ)
    → ((word_in at more n ≡ 0) × ((n < at) ⊎ (at + length more ≤ n)))
    ⊎ ((m : ℕ) × (m < length more) × (at + m ≡ n) × (word_in at more n ≡ slice_index_or more m 0))
word_position at more n = by (nat_le at n) refl
  where
    within : (b : Bool) → nat_le (at + length more) n ≡ b → at ≤ n
        → ((word_in at more n ≡ 0) × ((n < at) ⊎ (at + length more ≤ n)))
        ⊎ ((m : ℕ) × (m < length more) × (at + m ≡ n) × (word_in at more n ≡ slice_index_or more m 0))
    within true is le =
        let there : at + length more ≤ n = grind (arith, nat_tests) in
        inl (word_past at more n there, inr there)
    within false is le =
        let short : n < at + length more = grind (arith, nat_tests) in
        inr (n - at, omega (arith, le, short), omega (arith, le), word_from at more n le)

    by : (b : Bool) → nat_le at n ≡ b → ((word_in at more n ≡ 0) × ((n < at) ⊎ (at + length more ≤ n)))
        ⊎ ((m : ℕ) × (m < length more) × (at + m ≡ n) × (word_in at more n ≡ slice_index_or more m 0))
    by true is = within (nat_le (at + length more) n) refl (grind (arith, nat_tests))
    by false is =
        let lt : n < at = grind (arith, nat_tests) in
        inl (word_before at more n lt, inl lt)

-- what a window of more words has set in others
pub or_each : (old new more : List ℕ) (at : ℕ) → at + length more ≤ length old
    → ((n : ℕ) → n < length more → slice_index_or new (at + n) 0
    ≡ bit_or (slice_index_or old (at + n) 0) (slice_index_or more n 0))
    → ((n : ℕ) → (n < at) ⊎ (at + length more ≤ n) → slice_index_or new n 0 ≡ slice_index_or old n 0)
    → (n : ℕ) → slice_index_or new n 0 ≡ bit_or (slice_index_or old n 0) (word_in at more n)
or_each old new more at room done rest n = by (word_position at more n)
  where
    by : ((word_in at more n ≡ 0) × ((n < at) ⊎ (at + length more ≤ n)))
        ⊎ ((m : ℕ) × (m < length more) × (at + m ≡ n) × (word_in at more n ≡ slice_index_or more m 0))
        → slice_index_or new n 0 ≡ bit_or (slice_index_or old n 0) (word_in at more n)
    by (inl (none, out)) = rest n out ∙ sym (or_zero_r (slice_index_or old n 0))
        ∙ ap (λ w. bit_or (slice_index_or old n 0) w) (sym none)
    by (inr (m, lt, is, there)) =
        ap (λ v. slice_index_or new v 0) (sym is) ∙ done m lt
        ∙ ap (λ v. bit_or (slice_index_or old v 0) (slice_index_or more m 0)) is
        ∙ ap (λ w. bit_or (slice_index_or old n 0) w) (sym there)

-- the same of those bits that known words lack
pub missing_each : (old new more known : List ℕ) (at from : ℕ) → at + length more ≤ length old
    → ((n : ℕ) → n < length more → slice_index_or new (at + n) 0
    ≡ bit_or (slice_index_or old (at + n) 0)
    (bit_and (slice_index_or more n 0) (bit_not w64 (slice_index_or known (from + n) 0))))
    → ((n : ℕ) → (n < at) ⊎ (at + length more ≤ n) → slice_index_or new n 0 ≡ slice_index_or old n 0)
    → (n : ℕ) → slice_index_or new n 0 ≡ bit_or (slice_index_or old n 0)
    (bit_and (word_in at more n) (bit_not w64 (slice_index_or known (n - at + from) 0)))
missing_each old new more known at from room done rest n = by (word_position at more n)
  where
    other : ℕ
    other = bit_not w64 (slice_index_or known (n - at + from) 0)

    by : ((word_in at more n ≡ 0) × ((n < at) ⊎ (at + length more ≤ n)))
        ⊎ ((m : ℕ) × (m < length more) × (at + m ≡ n) × (word_in at more n ≡ slice_index_or more m 0))
        → slice_index_or new n 0 ≡ bit_or (slice_index_or old n 0)
        (bit_and (word_in at more n) (bit_not w64 (slice_index_or known (n - at + from) 0)))
    by (inl (none, out)) = rest n out ∙ sym (or_zero_r (slice_index_or old n 0))
        ∙ ap (λ w. bit_or (slice_index_or old n 0) w)
        (sym (ap (λ w. bit_and w (bit_not w64 (slice_index_or known (n - at + from) 0))) none
        ∙ and_zero_l (bit_not w64 (slice_index_or known (n - at + from) 0))))
    by (inr (m, lt, is, there)) =
        let position : from + m ≡ n - at + from = omega (arith, is) in
        ap (λ v. slice_index_or new v 0) (sym is) ∙ done m lt
        ∙ ap (λ v. bit_or (slice_index_or old v 0)
        (bit_and (slice_index_or more m 0) (bit_not w64 (slice_index_or known (from + m) 0)))) is
        ∙ ap (λ w. bit_or (slice_index_or old n 0) (bit_and w (bit_not w64 (slice_index_or known (from + m) 0))))
        (sym there)
        ∙ ap (λ v. bit_or (slice_index_or old n 0)
        (bit_and (word_in at more n) (bit_not w64 (slice_index_or known v 0)))) position

pub word_set_same : (first : ℕ) (words : List ℕ) (i v : ℕ) → first ≤ i → i < first + length words
    → word_in first (set words (i - first) v) i ≡ v
word_set_same first words i v le lt =
    word_from first (set words (i - first) v) i le
    ∙ get_or-set_same words (i - first) v 0 (omega (arith, le, lt))

pub word_set_other : (first : ℕ) (words : List ℕ) (i v : ℕ) → first ≤ i → (q : ℕ) → q ≢ i
    → word_in first (set words (i - first) v) q ≡ word_in first words q
word_set_other first words i v le q other = by (nat_le first q) refl
  where
    by : (b : Bool) → nat_le first q ≡ b → word_in first (set words (i - first) v) q ≡ word_in first words q
    by true is =
        let from : first ≤ q = grind (arith, nat_tests) in
        let apart : q - first ≢ i - first = (λ same. other (omega (arith, le, from, same))) in
        word_from first (set words (i - first) v) q from
        ∙ get_or-set_other words (i - first) (q - first) v 0 apart ∙ sym (word_from first words q from)
    by false is =
        let lt : q < first = grind (arith, nat_tests) in
        word_before first (set words (i - first) v) q lt ∙ sym (word_before first words q lt)

-- a window counted from a word before it
pub word_moved : (f a : ℕ) (more : List ℕ) (q : ℕ) → f ≤ a → f ≤ q → word_in (a - f) more (q - f) ≡ word_in a more q
word_moved f a more q fa fq = by (nat_le a q) refl
  where
    by : (b : Bool) → nat_le a q ≡ b → word_in (a - f) more (q - f) ≡ word_in a more q
    by true is =
        let from : a ≤ q = grind (arith, nat_tests) in
        let same : (q - f) - (a - f) ≡ q - a = omega (arith, fa, fq, from) in
        word_from (a - f) more (q - f) (omega (arith, fa, fq, from)) ∙ ap (λ v. slice_index_or more v 0) same
        ∙ sym (word_from a more q from)
    by false is =
        let lt : q < a = grind (arith, nat_tests) in
        word_before (a - f) more (q - f) (omega (arith, fa, fq, lt)) ∙ sym (word_before a more q lt)

-- each word has the bits of both windows
pub or_in : (f a : ℕ) (words words' more : List ℕ) → f ≤ a
    → ((n : ℕ) → slice_index_or words' n 0 ≡ bit_or (slice_index_or words n 0) (word_in (a - f) more n))
    → (q : ℕ) → word_in f words' q ≡ bit_or (word_in f words q) (word_in a more q)
or_in f a words words' more fa each q = by (nat_le f q) refl
  where
    by : (b : Bool) → nat_le f q ≡ b → word_in f words' q ≡ bit_or (word_in f words q) (word_in a more q)
    by true is =
        let from : f ≤ q = grind (arith, nat_tests) in
        word_from f words' q from ∙ each (q - f)
        ∙ ap (λ v. bit_or v (word_in (a - f) more (q - f))) (sym (word_from f words q from))
        ∙ ap (λ v. bit_or (word_in f words q) v) (word_moved f a more q fa from)
    by false is =
        let lt : q < f = grind (arith, nat_tests) in
        word_before f words' q lt
        ∙ sym (ap (λ v. bit_or v (word_in a more q)) (word_before f words q lt)
        ∙ ap (λ v. bit_or 0 v) (word_before a more q (omega (arith, fa, lt))))

-- each word has its bits, and those of the window that the known words lack
pub missing_in : (f a g : ℕ) (words words' more known : List ℕ) → f ≤ a → g ≤ a
    → ((n : ℕ) → slice_index_or words' n 0 ≡ bit_or (slice_index_or words n 0)
    (bit_and (word_in (a - f) more n) (bit_not w64 (slice_index_or known (n - (a - f) + (a - g)) 0))))
    → (q : ℕ) → word_in f words' q ≡ bit_or (word_in f words q)
    (bit_and (word_in a more q) (bit_not w64 (word_in g known q)))
missing_in f a g words words' more known fa ga each q = by (nat_le f q) refl (nat_le a q) refl
  where
    other : ℕ
    other = slice_index_or known ((q - f) - (a - f) + (a - g)) 0

    by : (b : Bool) → nat_le f q ≡ b → (d : Bool) → nat_le a q ≡ d → word_in f words' q
        ≡ bit_or (word_in f words q) (bit_and (word_in a more q) (bit_not w64 (word_in g known q)))
    by true is true past =
        let from : f ≤ q = grind (arith, nat_tests) in
        let le : a ≤ q = grind (arith, nat_tests) in
        let position : (q - f) - (a - f) + (a - g) ≡ q - g = omega (arith, fa, ga, from, le) in
        word_from f words' q from ∙ each (q - f)
        ∙ ap (λ v. bit_or v (bit_and (word_in (a - f) more (q - f)) (bit_not w64 other))) (sym (word_from f words q
        from))
        ∙ ap (λ v. bit_or (word_in f words q) (bit_and v (bit_not w64 other))) (word_moved f a more q fa from)
        ∙ ap (λ v. bit_or (word_in f words q) (bit_and (word_in a more q) (bit_not w64 v)))
        (ap (λ v. slice_index_or known v 0) position ∙ sym (word_from g known q (omega (arith, ga, le))))
    by true is false past =
        let from : f ≤ q = grind (arith, nat_tests) in
        let lt : q < a = grind (arith, nat_tests) in
        let none = word_before a more q lt in
        word_from f words' q from ∙ each (q - f)
        ∙ ap (λ v. bit_or v (bit_and (word_in (a - f) more (q - f)) (bit_not w64 other))) (sym (word_from f words q
        from))
        ∙ ap (λ v. bit_or (word_in f words q) (bit_and v (bit_not w64 other))) (word_moved f a more q fa from ∙ none)
        ∙ ap (λ v. bit_or (word_in f words q) (bit_and v (bit_not w64 (word_in g known q)))) (sym none)
    by false is d past =
        let lt : q < f = grind (arith, nat_tests) in
        let none = word_before a more q (omega (arith, fa, lt)) in
        word_before f words' q lt
        ∙ sym (ap (λ v. bit_or v (bit_and (word_in a more q) (bit_not w64 (word_in g known q)))) (word_before f words
        q lt)
        ∙ ap (λ v. bit_or 0 (bit_and v (bit_not w64 (word_in g known q)))) none)

pub default_same : {A : Type 0} (xs : List A) (i : ℕ) (d e : A) → i < length xs
    → slice_index_or xs i d ≡ slice_index_or xs i e
default_same [] i d e lt = absurd (omega (arith, lt))
default_same (x ∷ xs) zero d e lt = refl
default_same (x ∷ xs) (suc i) d e lt = default_same xs i d e (omega (arith, lt))

pub small_words : (first : ℕ) (words : List ℕ) → ((i : ℕ) → slice_index_or words i 0 < 2 ^ 64) → (q : ℕ)
    → word_in first words q < 2 ^ 64
small_words first words small q = by (nat_le first q)
  where
    by : (b : Bool) → cond b (slice_index_or words (q - first) 0) 0 < 2 ^ 64
    by true = small (q - first)
    by false = omega arith
