-- The runs of a set, from the left: what an iterator over them needs, and that they are the set's maximal ranges.
-- Serves: ByteSet::runs, Runs::next
use Rattle.std.proofs.Common.{◌≡◌, ◌≢◌, ℕ, zero, suc, ◌+◌, ◌-◌, ◌<◌, ◌≤◌, ◌==◌, ◌||◌, ◌&&◌, nat_le, nat_lt, Bool, true}
use Rattle.std.proofs.Common.{false, List, [], ◌∷◌, Option, Some, None, refl, ap, sym, ◌∙◌, subst, arith, inl, inr}
use Rattle.std.proofs.Math.Bool.{or_assoc}
use Rattle.std.proofs.lemmas.Bool.{cases_Bool, both_ways}
use Rattle.std.proofs.lemmas.Bool.Decides.{eqb_tells, nat_tests}
use Rattle.ruletable.specs.Runs.{push, push_if, runs_from, runs_after, runs_of, test_of, in_runs, AreApart, AreRuns}
use Rattle.ruletable.specs.Runs.{IsFirst, position_of}

-- ranges that stand apart from n on do so from a lesser number on
apart-less : (m n : ℕ) (runs : List (ℕ × ℕ)) → m ≤ n → AreApart n runs → AreApart m runs
apart-less m n [] h a = tt
apart-less m n (run ∷ runs) h a = (omega arith, a.1, a.2)

apart-push : (n : ℕ) (runs : List (ℕ × ℕ)) → AreApart (n + 1) runs → AreApart n (push n runs)
apart-push n [] a = (omega arith, omega arith, tt)
apart-push n (run ∷ runs) a = elim (eqb_tells (n + 1) run.0) [
  | inl e ↦ rw (e.0) (omega arith, omega arith, a.2)
  | inr e ↦ rw (e.0) (omega arith, omega arith, ((let ne = e.1 in omega arith), a.1, a.2))
]

apart-push_if : (b : Bool) (n : ℕ) (runs : List (ℕ × ℕ)) → AreApart (n + 1) runs → AreApart n (push_if b n runs)
apart-push_if true n runs a = apart-push n runs a
apart-push_if false n runs a = apart-less n (n + 1) runs (omega arith) a

apart-from : (f : ℕ → Bool) (k n : ℕ) → AreApart n (runs_from f k n)
apart-from f zero n = tt
apart-from f (suc k) n = apart-push_if (f n) n (runs_from f k (n + 1)) (apart-from f k (n + 1))

-- what one more number puts into the runs
pub one-more : (n m z b : ℕ) → n + 1 ≡ m → m ≤ z → (nat_le n b && nat_le b z) ≡ ((b == n) || (nat_le m b && nat_le b z))
one-more n m z b e h = grind (arith, nat_tests)

pub one-alone : (n b : ℕ) → (nat_le n b && nat_le b n) ≡ (b == n)
one-alone n b = grind (arith, nat_tests)

in_runs-push : (n b : ℕ) (runs : List (ℕ × ℕ)) → AreApart (n + 1) runs → in_runs (push n runs) b
    ≡ ((b == n) || in_runs runs b)
in_runs-push n b [] a = ap (λ t. t || false) (one-alone n b)
in_runs-push n b (run ∷ runs) a = elim (eqb_tells (n + 1) run.0) [
  | inl e ↦ rw (e.0) (ap (λ t. t || in_runs runs b) (one-more n run.0 run.1 b e.1 a.1)
      ∙ or_assoc (b == n) (nat_le run.0 b && nat_le b run.1) (in_runs runs b))
  | inr e ↦ rw (e.0) (ap (λ t. t || in_runs (run ∷ runs) b) (one-alone n b))
]

-- whether the number is among the k from n on, and passes
abbrev passes : (ℕ → Bool) → ℕ → ℕ → ℕ → Bool
passes f k n b = nat_le n b && nat_lt b (n + k) && f b

passes-none : (n b : ℕ) (x : Bool) → false ≡ (nat_le n b && nat_lt b (n + 0) && x)
passes-none n b true = grind (arith, nat_tests)
passes-none n b false = grind (arith, nat_tests)

passes-one : (k n b : ℕ) (x : Bool) → (b ≡ n → x ≡ true) → ((b == n) || (nat_le (n + 1) b && nat_lt b (n + 1 + k) && x))
    ≡ (nat_le n b && nat_lt b (n + suc k) && x)
passes-one k n b true h = grind (arith, nat_tests)
passes-one k n b false h = grind (arith, nat_tests)

passes-skip : (k n b : ℕ) (x : Bool) → (b ≡ n → x ≡ false) → (nat_le (n + 1) b && nat_lt b (n + 1 + k) && x)
    ≡ (nat_le n b && nat_lt b (n + suc k) && x)
passes-skip k n b true h = grind (arith, nat_tests)
passes-skip k n b false h = grind (arith, nat_tests)

in_runs-from : (f : ℕ → Bool) (k n b : ℕ) → in_runs (runs_from f k n) b ≡ passes f k n b
in_runs-from f zero n b = passes-none n b (f b)
in_runs-from f (suc k) n b = elim (cases_Bool (f n)) [
  | inl e ↦ rw e (in_runs-push n b (runs_from f k (n + 1)) (apart-from f k (n + 1))
      ∙ ap (λ t. (b == n) || t) (in_runs-from f k (n + 1) b)
      ∙ passes-one k n b (f b) (λ is. ap f is ∙ e))
  | inr e ↦ rw e (in_runs-from f k (n + 1) b ∙ passes-skip k n b (f b) (λ is. ap f is ∙ e))
]

-- the first run begins at n or after it, or there is none
push-apart : (n : ℕ) (runs : List (ℕ × ℕ)) → AreApart (n + 2) runs → push n runs ≡ (n, n) ∷ runs
push-apart n [] h = refl
push-apart n (run ∷ runs) h = elim (eqb_tells (n + 1) run.0) [
  | inl e ↦ absurd (let y = e.1 in omega arith)
  | inr e ↦ rw (e.0) refl
]

push-joins : (n : ℕ) (run : ℕ × ℕ) (runs : List (ℕ × ℕ)) → n + 1 ≡ run.0 → push n (run ∷ runs) ≡ (n, run.1) ∷ runs
push-joins n run runs h = elim (eqb_tells (n + 1) run.0) [ inl e ↦ rw (e.0) refl | inr e ↦ absurd (e.1 h) ]

-- numbers that do not pass begin no run
from-skip : (f : ℕ → Bool) (k j n m : ℕ) → m ≡ n + j → ((b : ℕ) → n ≤ b → b < m → f b ≡ false)
    → runs_from f (j + k) n ≡ runs_from f k m
from-skip f k zero n m e h =
    let here : m ≡ n = omega arith in
    let none : 0 + k ≡ k = omega arith in
    ap (λ (t : ℕ). runs_from f t n) none ∙ ap (runs_from f k) (sym here)
from-skip f k (suc j) n m e h =
    let more : suc j + k ≡ suc (j + k) = omega arith in
    ap (λ (t : ℕ). runs_from f t n) more ∙ ap (λ b. push_if b n (runs_from f (j + k) (n + 1)))
    (h n (omega arith) (omega arith))
    ∙ from-skip f k j (n + 1) m (omega arith) (λ b l u. h b (omega arith) u)

-- no run begins where the numbers end, or at a number that does not pass
abbrev IsStop : (ℕ → Bool) → ℕ → ℕ → Type 0
IsStop f zero n = Unit {0}
IsStop f (suc k) n = f n ≡ false

stop-from : (f : ℕ → Bool) (k n : ℕ) → IsStop f k (n + 1) → AreApart (n + 2) (runs_from f k (n + 1))
stop-from f zero n h = tt
stop-from f (suc k) n h = rw h (subst (λ (m : ℕ). AreApart m (runs_from f k (n + 1 + 1))) (omega arith)
    (apart-from f k (n + 1 + 1)))

-- a maximal run
from-run : (f : ℕ → Bool) (k j n z : ℕ) → z ≡ n + j → ((b : ℕ) → n ≤ b → b ≤ z → f b ≡ true) → IsStop f k (z + 1)
    → runs_from f (suc j + k) n ≡ (n, z) ∷ runs_from f k (z + 1)
from-run f k zero n z e h s =
    let here : z ≡ n = omega arith in
    let more : 1 + k ≡ suc k = omega arith in
    ap (λ (t : ℕ). runs_from f t n) more ∙ ap (λ b. push_if b n (runs_from f k (n + 1)))
    (h n (omega arith) (omega arith))
    ∙ push-apart n (runs_from f k (n + 1)) (stop-from f k n (subst (λ (t : ℕ). IsStop f k (t + 1)) here s))
    ∙ ap (λ (t : ℕ). (n, t) ∷ runs_from f k (t + 1)) (sym here)
from-run f k (suc j) n z e h s =
    let more : suc (suc j) + k ≡ suc (suc j + k) = omega arith in
    ap (λ (t : ℕ). runs_from f t n) more ∙ ap (λ b. push_if b n (runs_from f (suc j + k) (n + 1)))
    (h n (omega arith) (omega arith))
    ∙ ap (push n) (from-run f k j (n + 1) z (omega arith) (λ b l m. h b (omega arith) m) s)
    ∙ push-joins n (n + 1, z) (runs_from f k (z + 1)) refl

stop-at : (f : ℕ → Bool) (k n : ℕ) → (0 < k → f n ≡ false) → IsStop f k n
stop-at f zero n h = tt
stop-at f (suc k) n h = h (omega arith)

-- what is left from a position on: nothing, or the first run and what is left after it
pub after-none : (f : ℕ → Bool) (n : ℕ) → n ≤ 256 → ((b : ℕ) → n ≤ b → b < 256 → f b ≡ false) → runs_after f n ≡ []
unfolding runs_after
after-none f n le h =
    let all : 256 - n ≡ (256 - n) + 0 = omega arith in
    ap (λ (t : ℕ). runs_from f t n) all ∙ from-skip f 0 (256 - n) n 256 (omega arith) h

pub after-one : (f : ℕ → Bool) (n a z m : ℕ) → n ≤ a → ((b : ℕ) → n ≤ b → b < a → f b ≡ false) → a ≤ z
    → ((b : ℕ) → a ≤ b → b ≤ z → f b ≡ true) →
    m ≡ z + 1 → m ≤ 256 → (m < 256 → f m ≡ false) → runs_after f n ≡ (a, z) ∷ runs_after f m
unfolding runs_after
after-one f n a z m low out high within e le stop =
    let all : 256 - n ≡ (a - n) + (suc (z - a) + (256 - m)) = omega arith in
    ap (λ (t : ℕ). runs_from f t n) all
    ∙ from-skip f (suc (z - a) + (256 - m)) (a - n) n a (omega arith) out
    ∙ from-run f (256 - m) (z - a) a z (omega arith) within
    (subst (λ (t : ℕ). IsStop f (256 - m) t) e (stop-at f (256 - m) m (λ some. stop (omega arith))))
    ∙ ap (λ (t : ℕ). (a, z) ∷ runs_from f (256 - m) t) (sym e)

-- the step of an iterator: the first number that passes, and then the first that does not
pub after-step : (f : ℕ → Bool) (n a z : ℕ) (gap : Option ℕ) → IsFirst f n true (Some a) → IsFirst f a false gap
    → z ≡ position_of gap - 1 →
    runs_after f n ≡ (a, z) ∷ runs_after f (position_of gap)
after-step f n a z None (low, byte, on, out) within end =
    after-one f n a z 256 low out (omega arith) (λ b l h. within b l (omega arith)) (omega arith) (omega arith)
    (λ less. absurd (omega arith))
after-step f n a z (Some m) (low, byte, on, out) (more, small, off, within) end =
    let apart : a ≢ m = λ e. both_ways (f a) (ap f e ∙ off) on in
    after-one f n a z m low out (omega arith) (λ b l h. within b l (omega arith)) (omega arith) (omega arith)
    (λ less. off)

-- the whole list is that of the maximal ranges
after-apart : (f : ℕ → Bool) (n : ℕ) → AreApart n (runs_after f n)
unfolding runs_after
after-apart f n = apart-from f (256 - n) n

in_runs-after : (f : ℕ → Bool) (n b : ℕ) → in_runs (runs_after f n) b ≡ (nat_le n b && nat_lt b (n + (256 - n)) && f b)
unfolding runs_after
in_runs-after f n b = in_runs-from f (256 - n) n b

passes-byte : (b : ℕ) (x : Bool) → b < 256 → (nat_le 0 b && nat_lt b (0 + (256 - 0)) && x) ≡ x
passes-byte b true h = grind (arith, nat_tests)
passes-byte b false h = grind (arith, nat_tests)

passes-past : (b : ℕ) (x : Bool) → 256 ≤ b → (nat_le 0 b && nat_lt b (0 + (256 - 0)) && x) ≡ false
passes-past b true h = grind (arith, nat_tests)
passes-past b false h = grind (arith, nat_tests)

pub are_runs : (set : List Bool) → AreRuns set (runs_of (test_of set))
are_runs set = record {
  apart = after-apart (test_of set) 0;
  members = λ b h. in_runs-after (test_of set) 0 b ∙ passes-byte b (test_of set b) h;
  bytes = λ b h. in_runs-after (test_of set) 0 b ∙ passes-past b (test_of set b) h;
}

-- tests that agree on the bytes have the same runs
from-same : (f g : ℕ → Bool) (k n : ℕ) → ((b : ℕ) → b < n + k → f b ≡ g b) → runs_from f k n ≡ runs_from g k n
from-same f g zero n h = refl
from-same f g (suc k) n h =
    ap (λ t. push_if t n (runs_from f k (n + 1))) (h n (omega arith))
    ∙ ap (push_if (g n) n) (from-same f g k (n + 1) (λ b lt. h b (omega arith)))

pub after-same : (f g : ℕ → Bool) (n : ℕ) → n ≤ 256 → ((b : ℕ) → b < 256 → f b ≡ g b) → runs_after f n ≡ runs_after g n
unfolding runs_after
after-same f g n le h = from-same f g (256 - n) n (λ b lt. h b (omega arith))
