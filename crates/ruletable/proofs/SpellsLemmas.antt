-- The rows of UTF-8, and the library's words for them.
-- Serves: decode, utf8_len, utf8_is_decided
use Rattle.std.proofs.Common.{◌≡◌, ◌⊎◌, inl, inr, ℕ, ◌+◌, ◌*◌, ◌/◌, ◌%◌, ◌<◌, ◌≤◌, Bool, true, false, cond, ltb, List}
use Rattle.std.proofs.Common.{[], ◌∷◌, ◌++◌, length, refl, sym, ap, ◌∙◌, subst, arith}
use Rattle.std.proofs.lemmas.Bool.{cases_eq, cases_lt, lt-ltb, le-ltb, cond-true, cond-false, and_parts, and_from}
use Rattle.std.proofs.lemmas.Bool.{false≢true}
use Rattle.std.proofs.lemmas.Nat.{mod_below}
use Rattle.std.specs.Str.{IsUtf8, chars, IsValidUpTo}
use Rattle.std.proofs.lemmas.Str.{chars-encodes, encodes-chars, encodes_same, scalars-chars}
use Rattle.std.proofs.lemmas.List.{take_all}
use lib.Utf8.{scalar_cases, scalar, scalars, encode, encodes, next as tail}
use Rattle.ruletable.specs.Letters.{IsPoint}
use Rattle.ruletable.specs.Utf8Text.{Writes, one, two, three, four, Spells, end, next, IsText, IsLongestText}

abbrev below : {A : Type 0} (a b : ℕ) (x y : A) → a < b → cond (ltb a b) x y ≡ x
below a b x y lt = cond-true (ltb a b) x y (lt-ltb a b lt)

abbrev above : {A : Type 0} (a b : ℕ) (x y : A) → b ≤ a → cond (ltb a b) x y ≡ y
above a b x y le = cond-false (ltb a b) x y (le-ltb a b le)

encode_one : (c : ℕ) → c < 128 → encode c ≡ c ∷ []
unfolding encode
encode_one c lt = below c 128 _ _ lt

encode_two : (c : ℕ) → 128 ≤ c → c < 2048 → encode c ≡ (192 + c / 64) ∷ tail c ∷ []
unfolding encode
encode_two c le lt = above c 128 _ _ le ∙ below c 2048 _ _ lt

encode_three : (c : ℕ) → 2048 ≤ c → c < 65536 → encode c ≡ (224 + c / 4096) ∷ tail (c / 64) ∷ tail c ∷ []
unfolding encode
encode_three c le lt = above c 128 _ _ (omega (arith, le)) ∙ (above c 2048 _ _ le ∙ below c 65536 _ _ lt)

encode_four : (c : ℕ) → 65536 ≤ c → encode c ≡ (240 + c / 262144) ∷ tail (c / 4096) ∷ tail (c / 64) ∷ tail c ∷ []
unfolding encode
encode_four c le = above c 128 _ _ (omega (arith, le)) ∙ (above c 2048 _ _ (omega (arith, le)) ∙ above c 65536 _ _ le)

-- what a row says is what the kit writes
pub encode_of : {c : ℕ} {bytes : List ℕ} → Writes c bytes → encode c ≡ bytes
encode_of (one {c = c} lt) = encode_one c lt
encode_of (two {c = c} a b is lb low high) =
    let high_bits : c / 64 ≡ a = omega (arith, is, lb) in
    let low_bits : c % 64 ≡ b = omega (arith, is, lb) in
    encode_two c low high ∙ rw (high_bits, low_bits) refl
encode_of (three {c = c} a b d is lb ld low high) =
    let first : c / 4096 ≡ a = omega (arith, is, lb, ld) in
    let rest : c / 64 ≡ a * 64 + b = omega (arith, is, lb, ld) in
    let second : (a * 64 + b) % 64 ≡ b = omega (arith, lb) in
    let third : c % 64 ≡ d = omega (arith, is, lb, ld) in
    encode_three c low high ∙ rw (first, rest, second, third) refl
encode_of (four {c = c} a b d e is lb ld le low high) =
    let first : c / 262144 ≡ a = omega (arith, is, lb, ld, le) in
    let rest : c / 4096 ≡ a * 64 + b = omega (arith, is, lb, ld, le) in
    let second : (a * 64 + b) % 64 ≡ b = omega (arith, lb) in
    let more : c / 64 ≡ (a * 64 + b) * 64 + d = omega (arith, is, ld, le) in
    let third : ((a * 64 + b) * 64 + d) % 64 ≡ d = omega (arith, ld) in
    let fourth : c % 64 ≡ e = omega (arith, is, lb, ld, le) in
    encode_four c low ∙ rw (first, rest, second, more, third, fourth) refl

-- and the other way round
pub encode_writes : (c : ℕ) → c < 0x110000 → Writes c (encode c)
encode_writes c top = by (cases_lt c 128) (cases_lt c 2048) (cases_lt c 65536)
  where
    by : (c < 128) ⊎ (128 ≤ c) → (c < 2048) ⊎ (2048 ≤ c) → (c < 65536) ⊎ (65536 ≤ c) → Writes c (encode c)
    by (inl lt) _ _ = rw (encode_one c lt) (one lt)
    by (inr ge) (inl lt) _ = rw (encode_two c ge lt)
        (two {c = c} (c / 64) (c % 64) (omega arith) (mod_below c 64 (omega arith)) ge lt)
    by (inr _) (inr ge) (inl lt) = rw (encode_three c ge lt)
        (three {c = c} (c / 4096) (c / 64 % 64) (c % 64) (omega arith) (mod_below (c / 64) 64 (omega arith))
        (mod_below c 64 (omega arith)) ge lt)
    by (inr _) (inr _) (inr ge) =
        rw (encode_four c ge) (four {c = c} (c / 262144) (c / 4096 % 64) (c / 64 % 64) (c % 64) (omega arith)
        (mod_below (c / 4096) 64 (omega arith)) (mod_below (c / 64) 64 (omega arith)) (mod_below c 64 (omega arith))
        ge top)

-- code points that are no surrogates
pub is_point : (c : ℕ) → scalar c ≡ true → IsPoint c
is_point c is = scalar_cases c is

pub is_scalar : (c : ℕ) → IsPoint c → scalar c ≡ true
is_scalar c (inl lt) = below c 55296 _ _ lt
is_scalar c (inr range) = grind (arith, range)

pub point_under : {c : ℕ} → IsPoint c → c < 0x110000
point_under (inl lt) = omega (arith, lt)
point_under (inr range) = range.1

pub encodes_spell : (cs : List ℕ) → scalars cs ≡ true → Spells cs (encodes cs)
encodes_spell [] is = end
encodes_spell (c ∷ cs) is = let two = and_parts (scalar c) (scalars cs) is in
    next (is_point c two.0) (encode_writes c (point_under (is_point c two.0))) (encodes_spell cs two.1)

pub scalars_of : {cs bytes : List ℕ} → Spells cs bytes → scalars cs ≡ true
scalars_of end = refl
scalars_of (next {c = c} {cs = cs} p w s) = and_from (scalar c) (scalars cs) (is_scalar c p) (scalars_of s)

pub encodes_of : {cs bytes : List ℕ} → Spells cs bytes → encodes cs ≡ bytes
encodes_of end = refl
encodes_of (next {c = c} {cs = cs} {bytes = bytes} {rest = rest} p w s) = ap (λ v. v ++ encodes cs) (encode_of w)
    ∙ ap (λ v. bytes ++ v) (encodes_of s)

pub is_text : (bs : List ℕ) → IsUtf8 bs → IsText bs
is_text bs u = record { points = u.0; spelled = subst (λ v. Spells u.0 v) u.1.1 (encodes_spell u.0 u.1.0) }

pub is_utf8 : (bs : List ℕ) → IsText bs → IsUtf8 bs
is_utf8 bs t = (t.points, (scalars_of t.spelled, encodes_of t.spelled))

-- the characters of a text spell it
pub spelled_by : (line text points : List ℕ) → text ≡ line → IsUtf8 line → points ≡ chars text → Spells points line
spelled_by line text points same u is =
    let found : points ≡ u.0 = is ∙ (ap chars (same ∙ sym u.1.1) ∙ chars-encodes u.0 u.1.0) in
    rw found (subst (λ v. Spells u.0 v) u.1.1 (encodes_spell u.0 u.1.0))

pub longest_all : (line : List ℕ) → IsUtf8 line → IsLongestText line (length line)
longest_all line u = record {
  within = omega arith;
  text = is_text _ (subst IsUtf8 (sym (take_all (length line) line (omega arith))) u);
  longest = λ m past le t. absurd (omega (arith, past, le));
}

pub longest_front : (line : List ℕ) (n : ℕ) → IsValidUpTo line n → IsLongestText line n
longest_front line n v = record {
  within = (let s = v.short in omega (arith, s));
  text = is_text _ v.front;
  longest = λ m past le t. v.longest m past (is_utf8 _ t);
}

-- a line has one list of code points at most
pub spells_one : (line points others : List ℕ) → Spells points line → Spells others line → points ≡ others
spells_one line points others s t = encodes_same points others (encodes_of s ∙ sym (encodes_of t))

same_or_not : (xs ys : List ℕ) → (xs ≡ ys) ⊎ (xs ≡ ys → ⊥)
same_or_not [] [] = inl refl
same_or_not [] (y ∷ ys) = inr (λ e. absurd cc)
same_or_not (x ∷ xs) [] = inr (λ e. absurd cc)
same_or_not (x ∷ xs) (y ∷ ys) = by (cases_eq x y) (same_or_not xs ys)
  where
    by : (x ≡ y) ⊎ (x ≡ y → ⊥) → (xs ≡ ys) ⊎ (xs ≡ ys → ⊥) → (x ∷ xs ≡ y ∷ ys) ⊎ (x ∷ xs ≡ y ∷ ys → ⊥)
    by (inl a) (inl b) = inl (rw (a, b) refl)
    by (inr a) _ = inr (λ e. a cc)
    by _ (inr b) = inr (λ e. b cc)

-- a line is UTF-8, or is not
pub text_or_not : (line : List ℕ) → IsText line ⊎ (IsText line → ⊥)
text_or_not line = by (scalars (chars line)) refl (same_or_not (encodes (chars line)) line)
  where
    by : (b : Bool) → scalars (chars line) ≡ b → (encodes (chars line) ≡ line) ⊎ (encodes (chars line) ≡ line → ⊥)
        → IsText line ⊎ (IsText line → ⊥)
    by true all (inl same) = inl (is_text line (chars line, (all, same)))
    by true all (inr other) = inr (λ t. other (encodes-chars line (is_utf8 line t)))
    by false some _ = inr (λ t. absurd (false≢true (sym some ∙ scalars-chars line (is_utf8 line t))))
