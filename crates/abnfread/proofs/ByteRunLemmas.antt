-- How far bytes of a class reach, and digits.
-- Serves: AbnfKind::after_white, AbnfKind::are_cut, AbnfKind::first_token, abnf_tokens, read_abnf
use Rattle.std.proofs.Common.{◌≡◌, ℕ, ◌<◌, ◌≤◌, Bool, true, false, List, [], ◌∷◌, length, refl, sym, ◌∙◌, arith, ◌⊎◌}
use Rattle.std.proofs.Common.{inl, inr}
use Rattle.std.proofs.lemmas.Bool.Decides.{nat_tests}
use Rattle.std.specs.Char.{digit_value}
use Rattle.lexer.specs.SliceEnds.{Lacks}
use Rattle.abnfread.specs.BaseDigits.{is_digit}
use Rattle.abnfread.specs.AbnfSlices.{Run, none, more, Stops, Digits, digits, Dotted, no_dot, dot, Numbers}
use Rattle.abnfread.specs.AbnfSlices.{values, range, Count, exactly, at_least}

pub stops-nothing : (f : ℕ → Bool) (t : List ℕ) → length t ≡ 0 → Stops f t
stops-nothing f [] e = tt
stops-nothing f (b ∷ bs) e = cc

pub lacks-nothing : (c : ℕ) (t : List ℕ) → length t ≡ 0 → Lacks c t
lacks-nothing c [] e = tt
lacks-nothing c (b ∷ bs) e = cc

module _ {f : ℕ → Bool} where
  pub run-shorter : {t r : List ℕ} → Run f t r → length r ≤ length t
  run-shorter none = omega arith
  run-shorter (more e h) = let ih = run-shorter h in omega arith

  pub run-on : {b : ℕ} {t bs r : List ℕ} → t ≡ b ∷ bs → f b ≡ true → Run f bs r → Run f t r
  run-on e p h = rw (e) (more p h)

  -- another end lies before the last one, and a byte that passes stands there
  pub run-ends : {t r s : List ℕ} → Run f t r → Stops f r → Run f t s → (s ≡ r)
      ⊎ ((b : ℕ) × (bs : List ℕ) × (s ≡ b ∷ bs) × (f b ≡ true) × (length r ≤ length bs))
  run-ends none stop none = inl refl
  run-ends none stop (more p h) = absurd (let q : f _ ≡ false = stop in cc)
  run-ends (more {b} {bs} p h) stop none = inr (b, bs, refl, p, run-shorter h)
  run-ends (more p h) stop (more q k) = run-ends h stop k

  pub run-longest : {t r s : List ℕ} → Run f t r → Stops f r → Run f t s → length r ≤ length s
  run-longest h stop k = elim (run-ends h stop k)
      [ inl e ↦ (rw e (omega arith)) | inr x ↦ (let e = x.2 in let l = x.4 in rw e (omega arith)) ]

  pub run-to : {t r s : List ℕ} → Run f t r → Stops f r → Run f t s → Stops f s → s ≡ r
  run-to h stop k halt = elim (run-ends h stop k)
      [ inl e ↦ e | inr x ↦ absurd (let e = x.2 in let p : f x.0 ≡ false = rw e at halt in let q = x.3 in cc) ]

-- the mark that ends the bytes of a class
pub closed-not : {f : ℕ → Bool} {c : ℕ} {t m : List ℕ} → f c ≡ false → Run f t m → Stops f m → Lacks c m → (r : List ℕ)
    → Run f t (c ∷ r) → ⊥
closed-not {m = []} p h stop l r k = let e = run-to h stop k p in cc
closed-not {m = b ∷ bs} p h stop l r k = let e = run-to h stop k p in l (let g = e in cc)

pub closed-is : {f : ℕ → Bool} {c : ℕ} {t m r : List ℕ} → Run f t m → m ≡ c ∷ r → Run f t (c ∷ r)
closed-is h e = rw e at h

-- what says no number is no digit
pub no-digit : (base b n : ℕ) → digit_value b ≡ n → base ≤ n → is_digit base b ≡ false
no-digit base b n e w = rw e (grind (arith, nat_tests))

module _ {base : ℕ} where
  pub digits-first : {b : ℕ} {t bs r : List ℕ} → t ≡ b ∷ bs → is_digit base b ≡ true → Run (is_digit base) bs r
      → Digits base t r
  digits-first e p h = rw (e) (digits p h)

  pub digits-none : {b : ℕ} {t bs : List ℕ} → t ≡ b ∷ bs → is_digit base b ≡ false → (r : List ℕ) → Digits base t r → ⊥
  digits-none {b} {t} {bs} e p r h = go (rw e at h)
    where
      go : Digits base (b ∷ bs) r → ⊥
      go (digits q k) = cc

  pub digits-nothing : {t : List ℕ} → length t ≡ 0 → (r : List ℕ) → Digits base t r → ⊥
  digits-nothing {t} e r (digits q k) = cc

  pub digits-ends : {t r s : List ℕ} → Digits base t r → Stops (is_digit base) r → Digits base t s → (s ≡ r)
      ⊎ ((b : ℕ) × (bs : List ℕ) × (s ≡ b ∷ bs) × (is_digit base b ≡ true) × (length r ≤ length bs))
  digits-ends (digits p h) stop (digits q k) = run-ends h stop k

  pub digits-longest : {t r s : List ℕ} → Digits base t r → Stops (is_digit base) r → Digits base t s
      → length r ≤ length s
  digits-longest (digits p h) stop (digits q k) = run-longest h stop k

  pub digits-shorter : {t r : List ℕ} → Digits base t r → length r ≤ length t
  digits-shorter (digits p h) = let ih = run-shorter h in omega arith

  pub dotted-none : {t s : List ℕ} → Lacks 46 t → Dotted base t s → s ≡ t
  dotted-none l no_dot = refl
  dotted-none l (dot h k) = absurd (l refl)

  dotted-dot : {bs s : List ℕ} → ((r : List ℕ) → Digits base bs r → ⊥) → Dotted base (46 ∷ bs) s → s ≡ 46 ∷ bs
  dotted-dot f no_dot = refl
  dotted-dot f (dot k j) = absurd (f _ k)

  pub dotted-only : {t bs s : List ℕ} → t ≡ 46 ∷ bs → ((r : List ℕ) → Digits base bs r → ⊥) → Dotted base t s → s ≡ t
  dotted-only {t} {bs} {s} e f h = rw e (dotted-dot f (rw e at h))

  pub dotted-on : {t bs m r : List ℕ} → t ≡ 46 ∷ bs → Digits base bs m → Dotted base m r → Dotted base t r
  dotted-on e d h = rw e (dot d h)

  -- a digit begins no dot
  no_dot-digit : {b : ℕ} {bs s : List ℕ} → is_digit base b ≡ true → base ≤ 36 → Dotted base (b ∷ bs) s → s ≡ b ∷ bs
  no_dot-digit p w no_dot = refl
  no_dot-digit p w (dot k j) = absurd (not-dot base w p)
    where
      not-dot : (n : ℕ) → n ≤ 36 → is_digit n 46 ≡ true → ⊥
      not-dot n w p = let e = no-digit n 46 36 refl w in cc

  dotted-back-dot : {bs m s : List ℕ} → base ≤ 36 → Digits base bs m → Stops (is_digit base) m → Dotted base (46 ∷ bs) s
      → (length m ≤ length s) ⊎ Dotted base m s
  dotted-back-dot w d stop no_dot = inl (let h = digits-shorter d in omega arith)
  dotted-back-dot {bs} {m} {s} w d stop (dot {m = n} k j) = elim (digits-ends d stop k) [
    | inl e ↦ inr (rw e at j)
    | inr x ↦ inl (let e = x.2 in let l = x.4 in let same : s ≡ n = no_dot-digit x.3 w (rw e at j) ∙ sym e in
        rw (same, e) (omega arith))
  ]

  pub dotted-back : {t bs m s : List ℕ} → base ≤ 36 → t ≡ 46 ∷ bs → Digits base bs m → Stops (is_digit base) m
      → Dotted base t s → (length m ≤ length s) ⊎ Dotted base m s
  dotted-back w e d stop h = dotted-back-dot w d stop (rw e at h)

  pub dotted-shorter : {t r : List ℕ} → Dotted base t r → length r ≤ length t
  dotted-shorter no_dot = omega arith
  dotted-shorter (dot h k) = let a = digits-shorter h in let b = dotted-shorter k in omega arith

  -- where a text's digits end at m, its numbers end with the digits, or their rest stands at m
  values-ends : {t m n s : List ℕ} → base ≤ 36 → Digits base t m → Stops (is_digit base) m → Digits base t n
      → Dotted base n s → (length m ≤ length s) ⊎ Dotted base m s
  values-ends {t} {m} {n} {s} w d stop k j = elim (digits-ends d stop k) [
    | inl e ↦ inr (rw e at j)
    | inr x ↦ inl (let e = x.2 in let l = x.4 in let same : s ≡ n = no_dot-digit x.3 w (rw e at j) ∙ sym e in
        rw (same, e) (omega arith))
  ]

  dash-stops : (m : List ℕ) → base ≤ 36 → Stops (is_digit base) (45 ∷ m)
  dash-stops m w = no-digit base 45 36 refl w

  digits-to : {t r s : List ℕ} → Digits base t r → Stops (is_digit base) r → Digits base t s → Stops (is_digit base) s
      → s ≡ r
  digits-to (digits p h) stop (digits q k) halt = run-to h stop k halt

  dash-there : {t m n : List ℕ} → base ≤ 36 → Digits base t m → Stops (is_digit base) m → Digits base t (45 ∷ n) → 45
      ∷ n ≡ m
  dash-there {n = n} w d stop k = digits-to d stop k (dash-stops n w)

  pub numbers-range : {t m n r : List ℕ} → Digits base t m → m ≡ 45 ∷ n → Digits base n r → Numbers base t r
  numbers-range d e k = range (rw e at d) k

  dash-dotted : {m n s : List ℕ} → m ≡ 45 ∷ n → Dotted base m s → s ≡ m
  dash-dotted e j = dotted-none (rw e (omega arith)) j

  pub range-longest : {t m n r s : List ℕ} → base ≤ 36 → Digits base t m → Stops (is_digit base) m → m ≡ 45 ∷ n
      → Digits base n r → Stops (is_digit base) r → Numbers base t s → length r ≤ length s
  range-longest {m = m} {n} {r} {s} w d stop e k halt (values g j) =
      let less = digits-shorter k in
      elim (values-ends w d stop g j) [
        | inl l ↦ (let l2 : length (45 ∷ n) ≤ length s = rw e at l in omega arith)
        | inr x ↦ (let same : s ≡ 45 ∷ n = dash-dotted e x ∙ e in rw same (omega arith))
      ]
  range-longest {m = m} {n} {r} {s} w d stop e k halt (range {m = o} g j) =
      let same : 45 ∷ o ≡ 45 ∷ n = dash-there w d stop g ∙ e in
      let tail : o ≡ n = cc in
      digits-longest k halt (rw tail at j)

  pub dash-longest : {t m n s : List ℕ} → base ≤ 36 → Digits base t m → Stops (is_digit base) m → m ≡ 45 ∷ n
      → ((r : List ℕ) → Digits base n r → ⊥) → Numbers base t s → length m ≤ length s
  dash-longest {m = m} {n} {s} w d stop e f (values g j) =
      elim (values-ends w d stop g j) [
        | inl l ↦ l
        | inr x ↦
            (let same : s ≡ m = dash-dotted e x in rw same (omega arith))
      ]
  dash-longest {m = m} {n} {s} w d stop e f (range {m = o} g j) =
      let same : 45 ∷ o ≡ 45 ∷ n = dash-there w d stop g ∙ e in
      let tail : o ≡ n = cc in
      absurd (f _ (rw tail at j))

  pub dotted-longest : {t m r s : List ℕ} → base ≤ 36 → Digits base t m → Stops (is_digit base) m → Lacks 45 m
      → Dotted base m r → ((u : List ℕ) → Dotted base m u → length r ≤ length u) → Numbers base t s
      → length r ≤ length s
  dotted-longest w d stop l k f (values g j) = elim (values-ends w d stop g j)
      [ inl h ↦ (let a = dotted-shorter k in omega arith) | inr x ↦ f _ x ]
  dotted-longest {m = m} w d stop l k f (range {m = o} g j) = absurd (lacks-not (sym (dash-there w d stop g)) l)
    where
      lacks-not : {x y : List ℕ} → x ≡ 45 ∷ y → Lacks 45 x → ⊥
      lacks-not e h = let k = rw e at h in k refl

  numbers-digits : {t s : List ℕ} → Numbers base t s → (r : List ℕ) × Digits base t r
  numbers-digits (values g j) = (_, g)
  numbers-digits (range g j) = (_, g)

  pub no-numbers : {t : List ℕ} → ((r : List ℕ) → Digits base t r → ⊥) → (s : List ℕ) → Numbers base t s → ⊥
  no-numbers f s h = let d = numbers-digits h in f d.0 d.1

abbrev is_decimal : ℕ → Bool
is_decimal = is_digit 10

star-not : {m : List ℕ} {x : List ℕ} → x ≡ 42 ∷ m → Lacks 42 x → ⊥
star-not e h = let k = rw e at h in k refl

pub count-star : {t m n r : List ℕ} → Run is_decimal t m → m ≡ 42 ∷ n → Run is_decimal n r → Count t r
count-star h e k = at_least (rw e at h) k

pub star-longest : {t m n r s : List ℕ} → Run is_decimal t m → Stops is_decimal m → m ≡ 42 ∷ n → Run is_decimal n r
    → Stops is_decimal r → Count t s → length r ≤ length s
star-longest {m = m} {n} {r} {s} h stop e k halt (exactly g) =
    let l = run-longest h stop g in
    let l2 : length (42 ∷ n) ≤ length s = rw e at l in
    let less = run-shorter k in
    omega arith
star-longest {m = m} {n} {r} {s} h stop e k halt (at_least {m = o} g j) =
    let same : 42 ∷ o ≡ 42 ∷ n = run-to h stop g refl ∙ e in
    let tail : o ≡ n = cc in
    run-longest k halt (rw tail at j)

pub count-longest : {t m s : List ℕ} → Run is_decimal t m → Stops is_decimal m → Lacks 42 m → Count t s
    → length m ≤ length s
count-longest h stop l (exactly g) = run-longest h stop g
count-longest h stop l (at_least {m = o} g j) = absurd (star-not (sym (run-to h stop g refl)) l)

pub shorter-crlf : {t m : List ℕ} {b : ℕ} → t ≡ b ∷ m → length m < length t
shorter-crlf e = rw e (omega arith)
