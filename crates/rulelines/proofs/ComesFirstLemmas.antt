-- The shortlex order.
-- Serves: conclude.
use Rattle.std.proofs.Common.{◌≡◌, ℕ, ◌<◌, ◌≤◌, List, [], ◌∷◌, ◌++◌, length, refl, sym, ◌∙◌, ap, subst, arith, ◌⊎◌}
use Rattle.std.proofs.Common.{inl, inr, length-append, append-nil}
use Rattle.std.proofs.lemmas.Bool.{cases_lt}
use Rattle.std.proofs.lemmas.Bool.Decides.{nat_tests}
use Rattle.rulelines.specs.FirstLines.{ComesFirst, IsShortlexBefore, shorter, symbol, later, sort_key}

pub before_length : {u v : List ℕ} → IsShortlexBefore u v → length u ≤ length v
before_length (shorter lt) = omega (arith, lt)
before_length (symbol same lt) = omega (arith, same)
before_length (later b) = omega (arith, before_length b)

pub first_length : (u v : List ℕ) → ComesFirst u v → length u ≤ length v
first_length u v (inl same) = omega (arith, ap length same)
first_length u v (inr b) = before_length b

-- lists after symbols in order: the first list is shorter, or as long
by_symbol : (c d : ℕ) (u v : List ℕ) → sort_key c < sort_key d → length u ≤ length v
    → (length u < length v) ⊎ (length v ≤ length u) → IsShortlexBefore (c ∷ u) (d ∷ v)
by_symbol c d u v lt le (inl less) = shorter (omega (arith, less))
by_symbol c d u v lt le (inr more) = symbol (omega (arith, le, more)) lt

pub before_trans : {u v w : List ℕ} → IsShortlexBefore u v → IsShortlexBefore v w → IsShortlexBefore u w
before_trans (shorter lt) b = shorter (omega (arith, lt, before_length b))
before_trans (symbol same lt) (shorter less) = shorter (omega (arith, same, less))
before_trans (symbol same lt) (symbol others less) = symbol (same ∙ others) (omega (arith, lt, less))
before_trans (symbol {c = c} {d = d} {u = u} same lt) (later {v = w} b) =
    by_symbol c d u w lt (omega (arith, same, before_length b)) (cases_lt (length u) (length w))
before_trans (later b) (shorter less) = shorter (omega (arith, before_length b, less))
before_trans (later {c = c} {u = u} b) (symbol {d = d} {v = w} same lt) =
    by_symbol c d u w lt (omega (arith, same, before_length b)) (cases_lt (length u) (length w))
before_trans (later b) (later a) = later (before_trans b a)

pub first_trans : (u v w : List ℕ) → ComesFirst u v → ComesFirst v w → ComesFirst u w
first_trans u v w (inl same) h = subst (λ t. ComesFirst t w) (sym same) h
first_trans u v w (inr b) (inl same) = inr (subst (λ t. IsShortlexBefore u t) same b)
first_trans u v w (inr b) (inr a) = inr (before_trans b a)

before_append : {u v : List ℕ} (s : List ℕ) → IsShortlexBefore u v → IsShortlexBefore (u ++ s) (v ++ s)
before_append {u} {v} s (shorter lt) = shorter (omega (arith, lt, length-append u s, length-append v s))
before_append s (symbol {u = u} {v = v} same lt) =
    symbol (omega (arith, same, length-append u s, length-append v s)) lt
before_append s (later b) = later (before_append s b)

pub first_append : (u v s : List ℕ) → ComesFirst u v → ComesFirst (u ++ s) (v ++ s)
first_append u v s (inl same) = inl (ap (λ t. t ++ s) same)
first_append u v s (inr b) = inr (before_append s b)

-- a prefix comes before the whole
pub prefix_first : (u v : List ℕ) → ComesFirst u (u ++ v)
prefix_first u [] = inl (sym (append-nil u))
prefix_first u (c ∷ v) = inr (shorter (omega (arith, length-append u (c ∷ v))))

-- one more symbol on each
pub before_extends : {u v : List ℕ} (c d : ℕ) → IsShortlexBefore u v
    → IsShortlexBefore (u ++ c ∷ []) (v ++ d ∷ [])
before_extends {u} {v} c d (shorter lt) =
    shorter (omega (arith, lt, length-append u (c ∷ []), length-append v (d ∷ [])))
before_extends c d (symbol {u = u} {v = v} same lt) =
    symbol (omega (arith, same, length-append u (c ∷ []), length-append v (d ∷ []))) lt
before_extends c d (later b) = later (before_extends c d b)

pub last_before : (w : List ℕ) (c d : ℕ) → sort_key c < sort_key d → IsShortlexBefore (w ++ c ∷ []) (w ++ d ∷ [])
last_before [] c d lt = symbol refl lt
last_before (b ∷ w) c d lt = later (last_before w c d lt)

pub one_key : (c d : ℕ) → sort_key c ≡ sort_key d → c ≡ d
one_key c d same = grind (arith, nat_tests)

pub last_first : (w : List ℕ) (c d : ℕ) → sort_key c ≤ sort_key d → ComesFirst (w ++ c ∷ []) (w ++ d ∷ [])
last_first w c d le = by (cases_lt (sort_key c) (sort_key d))
  where
    by : (sort_key c < sort_key d) ⊎ (sort_key d ≤ sort_key c) → ComesFirst (w ++ c ∷ []) (w ++ d ∷ [])
    by (inl lt) = inr (last_before w c d lt)
    by (inr ge) = inl (ap (λ v. w ++ v ∷ []) (one_key c d (omega (arith, le, ge))))

pub nothing_first : (w : List ℕ) → ComesFirst [] w
nothing_first [] = inl refl
nothing_first (c ∷ w) = inr (shorter (omega arith))

pub nothing_before : (w : List ℕ) (c : ℕ) → IsShortlexBefore [] (w ++ c ∷ [])
nothing_before w c = shorter (omega (arith, length-append w (c ∷ [])))
