-- What digits say.
-- Serves: read_abnf
use Rattle.std.proofs.Common.{◌≡◌, ◌≢◌, ℕ, ◌+◌, ◌-◌, ◌*◌, ◌<◌, ◌≤◌, Bool, false, Option, Some, None, MatchOption, All}
use Rattle.std.proofs.Common.{List, [], ◌∷◌, ◌++◌, length, take, refl, sym, ◌∙◌, ap, arith, length-append, append-nil}
use Rattle.std.proofs.Common.{append_assoc, get_or, Bor, ◌⊎◌, inl, inr}
use Rattle.std.specs.Option.{option_map}
use Rattle.std.proofs.Math.Seq.{get_or-append_seam}
use Rattle.std.proofs.lemmas.List.Elements.{All-append, All-cons, All-nil}
use Rattle.std.specs.Char.{digit_value}
use Rattle.std.specs.Str.Parse.{digits_value, digits_value_after}
use Rattle.std.proofs.lemmas.Nat.{mul-le}
use Rattle.std.proofs.lemmas.List.{take_at, append_cancel_right}
use Rattle.lexer.specs.SliceEnds.{Lacks}
use Rattle.abnfread.specs.BaseDigits.{is_digit}
use Rattle.abnfread.specs.Numerals.{SaysRepeat, says_exactly, says_between, most, Listed, last_number, more_numbers}
use Rattle.abnfread.specs.Numerals.{IsWithin}
use Rattle.abnfread.specs.AbnfSlices.{Run, none, more, Stops, Digits, digits}
use Rattle.abnfread.proofs.ByteRunLemmas.{run-to, no-digit}

-- a run is a part of the text that is one by itself
pub run-part : {f : ℕ → Bool} {t r : List ℕ} → Run f t r → (ds : List ℕ) × (t ≡ ds ++ r) × Run f ds []
run-part none = ([], refl, none)
run-part (more {b} e h) = let p = run-part h in (b ∷ p.0, ap (λ (x : List ℕ). b ∷ x) p.1, more e p.2)

pub run-front : {f : ℕ → Bool} {t r : List ℕ} → Run f t r → Run f (take (length t - length r) t) []
run-front {f} {t} {r} h =
    let p = run-part h in
    let e : length (p.0 ++ r) - length r ≡ length p.0 = omega (arith, length-append p.0 r) in
    rw (p.1, e, take_at p.0 r) p.2

-- and whatever follows it
pub run-before : {f : ℕ → Bool} {ds : List ℕ} (r : List ℕ) → Run f ds [] → Run f (ds ++ r) r
run-before r none = none
run-before r (more e h) = more e (run-before r h)

pub after-ge : (base n : ℕ) (ds : List ℕ) → 2 ≤ base → n ≤ digits_value_after base n ds
after-ge base n [] w = omega arith
after-ge base n (b ∷ bs) w =
    let h = after-ge base (n * base + digit_value b) bs w in
    let k : n * 1 ≤ n * base = mul-le n 1 n base (omega arith) (omega arith) in
    let one : n * 1 ≡ n = omega arith in
    omega arith

-- a byte more
pub goes-over : (base limit n b : ℕ) (rest bs ds : List ℕ) → 2 ≤ base → rest ≡ b ∷ bs → digits_value_after base n rest
    ≡ digits_value base ds → limit < n * base + digit_value b → limit < digits_value base ds
goes-over base limit n b rest bs ds w e h l =
    let k = after-ge base (n * base + digit_value b) bs w in
    let same : digits_value_after base (n * base + digit_value b) bs ≡ digits_value base ds = rw e at h in
    omega arith

pub one-more : (base n b : ℕ) (rest bs ds : List ℕ) → rest ≡ b ∷ bs → digits_value_after base n rest ≡ digits_value base
    ds → digits_value_after base (n * base + digit_value b) bs ≡ digits_value base ds
one-more base n b rest bs ds e h = rw e at h

pub digits-run : {base : ℕ} {t r : List ℕ} → Digits base t r → Run (is_digit base) t r
digits-run (digits e h) = more e h

-- where the digits end
same-rest : {f : ℕ → Bool} {t ds rest r : List ℕ} → t ≡ ds ++ rest → Run f ds [] → Stops f rest → Run f t r → Stops f r
    → r ≡ rest
same-rest {f} {t} {ds} {rest} e h stop k halt = run-to (rw (sym e) at (run-before rest h)) stop k halt

-- the digits that a mark ends
same-front : {f : ℕ → Bool} {c : ℕ} {t ds rest es r : List ℕ} → f c ≡ false → t ≡ ds ++ rest → Run f ds []
    → Stops f rest → t ≡ es ++ c ∷ r → Run f es [] → (es ≡ ds) × (c ∷ r ≡ rest)
same-front {f} {c} {t} {ds} {rest} {es} {r} p e h stop k g =
    let same : c ∷ r ≡ rest = same-rest e h stop (rw (sym k) at (run-before (c ∷ r) g)) p in
    (append_cancel_right es ds rest (ap (λ (x : List ℕ). es ++ x) (sym same) ∙ sym k ∙ e), same)

-- digits alone
same-whole : {f : ℕ → Bool} {t ds rest : List ℕ} → t ≡ ds ++ rest → Run f ds [] → Stops f rest → Run f t [] → (t ≡ ds)
    × ([] ≡ rest)
same-whole {f} {t} {ds} {rest} e h stop k =
    let same : [] ≡ rest = same-rest e h stop k tt in
    (e ∙ ap (λ (x : List ℕ). ds ++ x) (sym same) ∙ append-nil ds, same)

RepeatCase : List ℕ → List ℕ → ℕ → Option ℕ → Type 0
RepeatCase ds rest a b = (a ≡ digits_value 10 ds)
    × ((([] ≡ rest) × (b ≡ Some (digits_value 10 ds))) ⊎ ((es : List ℕ) × (42 ∷ es ≡ rest) × (b ≡ most es)))

repeat-by : (t ds rest : List ℕ) {a : ℕ} {b : Option ℕ} → SaysRepeat t a b → t ≡ ds ++ rest → Run (is_digit 10) ds []
    → Stops (is_digit 10) rest → RepeatCase ds rest a b
unfolding RepeatCase
repeat-by t ds rest (says_exactly d) e h stop = let s = same-whole e h stop (digits-run d) in
    (ap (digits_value 10) s.0, inl (s.1, ap (λ (x : List ℕ). Some (digits_value 10 x)) s.0))
repeat-by t ds rest (says_between {es} k g j) e h stop = let s = same-front refl e h stop k g in
    (ap (digits_value 10) s.0, inr (es, s.1, refl))

lacks-none : {c : ℕ} {rest es : List ℕ} → Lacks c rest → c ∷ es ≡ rest → ⊥
lacks-none l e = let k = rw (sym e) at l in k refl

no-mark : {c : ℕ} {rest es : List ℕ} → [] ≡ rest → rest ≡ c ∷ es → ⊥
no-mark e h = cc

same-tail : {c : ℕ} {rest r s : List ℕ} → c ∷ r ≡ rest → rest ≡ c ∷ s → r ≡ s
same-tail e h = let k = e ∙ h in cc

most-none : (bs : List ℕ) → length bs ≡ 0 → most bs ≡ None
most-none [] e = refl
most-none (b ∷ bs) e = cc

most-some : (bs : List ℕ) → length bs ≢ 0 → most bs ≡ Some (digits_value 10 bs)
most-some [] e = absurd (e refl)
most-some (b ∷ bs) e = refl

within-of : {limit a n : ℕ} {b o : Option ℕ} → n ≡ a → o ≡ b → IsWithin limit n o → (n ≡ a) × (o ≡ b)
    × IsWithin limit a b
within-of {limit} p q w = (p, q, rw (sym p, sym q) w)

not-within : {limit n : ℕ} {b : Option ℕ} → b ≡ Some n → limit < n → MatchOption b (Unit {0}) (λ n. n ≤ limit) → ⊥
not-within {limit} {n} e l w = let k : n ≤ limit = rw e at w in absurd (omega arith)

module _ (limit : ℕ) (t ds rest : List ℕ) (a : ℕ) (b : Option ℕ) (e : t ≡ ds ++ rest) (h : Run (is_digit 10) ds [])
    (stop : Stops (is_digit 10) rest) (s : SaysRepeat t a b) where
  pub least-over : limit < digits_value 10 ds → IsWithin limit a b → ⊥
  unfolding RepeatCase
  least-over l w = let k = (repeat-by t ds rest s e h stop).0 in let v = w.0 in absurd (omega arith)

  most-is : (after : List ℕ) → rest ≡ 42 ∷ after → b ≡ most after
  unfolding RepeatCase
  most-is after r = elim (repeat-by t ds rest s e h stop).1 [
    | inl z ↦ absurd (no-mark z.0 r)
    | inr z ↦ z.2
        ∙ ap most (same-tail z.1 r)
  ]

  pub most-over : (after : List ℕ) → rest ≡ 42 ∷ after → length after ≢ 0 → limit < digits_value 10 after
      → IsWithin limit a b → ⊥
  most-over after r z l w = not-within (most-is after r ∙ most-some after z) l w.1

  module _ (n : ℕ) (same : n ≡ digits_value 10 ds) (within : n ≤ limit) where
    least-is : n ≡ a
    unfolding RepeatCase
    least-is = same ∙ sym (repeat-by t ds rest s e h stop).0

    pub exactly-read : Lacks 42 rest → (n ≡ a) × (Some n ≡ b) × IsWithin limit a b
    unfolding RepeatCase
    exactly-read l = elim (repeat-by t ds rest s e h stop).1
        [ inl z ↦ within-of least-is (ap Some same ∙ sym z.1) (within, within) | inr z ↦ absurd (lacks-none l z.1) ]

    pub least-read : (after : List ℕ) → rest ≡ 42 ∷ after → length after ≡ 0 → (n ≡ a) × (None ≡ b)
        × IsWithin limit a b
    least-read after r z = within-of least-is (sym (most-is after r ∙ most-none after z)) (within, tt)

    pub both-read : (after : List ℕ) (m : ℕ) → rest ≡ 42 ∷ after → length after ≢ 0 → m ≡ digits_value 10 after
        → m ≤ limit → (n ≡ a) × (Some m ≡ b) × IsWithin limit a b
    both-read after m r z p q = within-of least-is (ap Some p ∙ sym (most-is after r ∙ most-some after z))
        (within, q)

-- numbers with dots between
ListedCase : ℕ → List ℕ → List ℕ → List ℕ → Type 0
ListedCase base ds rest vs = (ws : List ℕ) × (vs ≡ digits_value base ds ∷ ws)
    × ((([] ≡ rest) × (ws ≡ [])) ⊎ ((r : List ℕ) × (46 ∷ r ≡ rest) × Listed base r ws))

listed-by : (base : ℕ) (t ds rest : List ℕ) {vs : List ℕ} → base ≤ 36 → Listed base t vs → t ≡ ds ++ rest
    → Run (is_digit base) ds [] → Stops (is_digit base) rest → ListedCase base ds rest vs
unfolding ListedCase
listed-by base t ds rest w (last_number d) e h stop = let s = same-whole e h stop (digits-run d) in
    ([], ap (λ (x : List ℕ). digits_value base x ∷ []) s.0, inl (s.1, refl))
listed-by base t ds rest w (more_numbers {r} {vs = ws} k g j) e h stop = let s =
    same-front (no-digit base 46 36 refl w) e h stop k (digits-run g) in
    (ws, ap (λ (x : List ℕ). digits_value base x ∷ ws) s.0, inr (r, s.1, j))

-- what is left to read
abbrev pub AreLeftNumbers : ℕ → Option (List ℕ) → List ℕ → Type 0
AreLeftNumbers base None ws = ws ≡ []
AreLeftNumbers base (Some t) ws = Listed base t ws

-- the numbers so far, and those that are left, are those of the text
abbrev pub Taken : ℕ → ℕ → List ℕ → Option (List ℕ) → List ℕ → Type 0
Taken base limit t left xs = (vs : List ℕ) → Listed base t vs → (ws : List ℕ) × AreLeftNumbers base left ws
    × (vs ≡ xs ++ ws) × All (λ v. v ≤ limit) xs

module _ (base limit : ℕ) (whole t ds rest xs : List ℕ) (w : base ≤ 36) (taken : Taken base limit whole (Some t) xs)
    (e : t ≡ ds ++ rest) (h : Run (is_digit base) ds []) (stop : Stops (is_digit base) rest) where
  pub value-over : limit < digits_value base ds → (vs : List ℕ) → Listed base whole vs → All (λ v. v ≤ limit) vs → ⊥
  unfolding ListedCase
  value-over l vs k all =
      let g = taken vs k in
      let c = listed-by base t ds rest w g.1 e h stop in
      let there : vs ≡ xs ++ digits_value base ds ∷ c.0 = g.2 ∙ ap (λ (y : List ℕ). xs ++ y) c.1 in
      let size : length xs < length (xs ++ digits_value base ds ∷ c.0) =
      omega (arith, length-append xs (digits_value base ds ∷ c.0)) in
      let seam : get_or (xs ++ digits_value base ds ∷ c.0) (length xs) 0 ≡ digits_value base ds =
      get_or-append_seam xs (digits_value base ds) c.0 0 in
      let known = rw there at all in
      let le = known (length xs) 0 size in
      absurd (omega arith)

  value-joined : (n : ℕ) (o : Option (List ℕ)) → n ≡ digits_value base ds → n ≤ limit
      → ((ws : List ℕ) → ((([] ≡ rest) × (ws ≡ [])) ⊎ ((r : List ℕ) × (46 ∷ r ≡ rest) × Listed base r ws))
      → AreLeftNumbers base o ws) → Taken base limit whole o (xs ++ n ∷ [])
  unfolding ListedCase
  value-joined n o p q f vs k =
      let g = taken vs k in
      let c = listed-by base t ds rest w g.1 e h stop in
      let there : vs ≡ (xs ++ n ∷ []) ++ c.0 = g.2 ∙ ap (λ (y : List ℕ). xs ++ y) c.1
      ∙ ap (λ (m : ℕ). xs ++ m ∷ c.0) (sym p) ∙ sym (append_assoc xs (n ∷ []) c.0) in (
        c.0,
        f c.0 c.2,
        there,
        All-append (λ v. v ≤ limit) xs (n ∷ []) g.3 (All-cons (λ v. v ≤ limit) n [] q
            (All-nil (λ v. v ≤ limit))),
      )

  value-last : (n : ℕ) → n ≡ digits_value base ds → n ≤ limit → Lacks 46 rest
      → Taken base limit whole None (xs ++ n ∷ [])
  value-last n p q l = value-joined n None p q (λ ws z. elim z [ inl x ↦ x.1 | inr x ↦ absurd (lacks-none l x.1) ])

  value-more : (n : ℕ) (r : List ℕ) → n ≡ digits_value base ds → n ≤ limit → rest ≡ 46 ∷ r
      → Taken base limit whole (Some r) (xs ++ n ∷ [])
  value-more n r p q l = value-joined n (Some r) p q
      (λ ws z. elim z [
        | inl x ↦ absurd (no-mark x.0 l)
        | inr x ↦ (let same : x.0 ≡ r = same-tail x.1 l in rw same at x.2)
      ])

  pub value-next : (n : ℕ) (o : Option (Bor (List ℕ))) → n ≡ digits_value base ds → n ≤ limit
      → MatchOption o (Lacks 46 rest) (λ r. rest ≡ 46 ∷ r.now) → Taken base limit whole (option_map (λ t. t.now) o)
      (xs ++ n ∷ [])
  value-next n None p q l = value-last n p q l
  value-next n (Some r) p q l = value-more n r.now p q l

  pub value-shorter : (o : Option (Bor (List ℕ))) → MatchOption o (Lacks 46 rest) (λ r. rest ≡ 46 ∷ r.now)
      → (elim o [ None ↦ 0 | Some t ↦ length t.now + 1 ]) < length t + 1
  value-shorter None l = omega arith
  value-shorter (Some r) l = (let a : length rest ≡ length (46 ∷ r.now) = ap length l in
      let b : length t ≡ length (ds ++ rest) = ap length e in omega (arith, length-append ds rest))

nothing-not : {c : ℕ} {xs : List ℕ} → [] ≡ c ∷ xs → ⊥
nothing-not e = cc

-- the first bytes, and the rests
pub heads-equal : {a b : ℕ} {xs ys : List ℕ} → a ∷ xs ≡ b ∷ ys → a ≡ b
heads-equal e = cc

pub tails-equal : {a b : ℕ} {xs ys : List ℕ} → a ∷ xs ≡ b ∷ ys → xs ≡ ys
tails-equal e = cc

star-nothing : {xs : List ℕ} → 42 ∷ xs ≡ [] → ⊥
star-nothing e = cc

dot-nothing : {xs : List ℕ} → 46 ∷ xs ≡ [] → ⊥
dot-nothing e = cc

dot-dash : {xs ys : List ℕ} → 46 ∷ xs ≡ 45 ∷ ys → ⊥
dot-dash e = let h = heads-equal e in absurd (omega arith)

-- a text says at most one repeat, and one list of numbers
pub one-repeat : {t : List ℕ} {a c : ℕ} {b d : Option ℕ} → SaysRepeat t a b → SaysRepeat t c d → (a ≡ c) × (b ≡ d)
unfolding RepeatCase
one-repeat {t} {d = d} (says_exactly h) k =
    let r = repeat-by t t [] k (sym (append-nil t)) (digits-run h) tt in
    (sym r.0, elim r.1 [ inl x ↦ sym x.1 | inr x ↦ absurd (star-nothing x.1) ])
one-repeat {t} (says_between {ds} {es} e h j) k =
    let r = repeat-by t ds (42 ∷ es) k e h refl in
    (sym r.0, elim r.1 [ inl x ↦ absurd (nothing-not x.0) | inr x ↦ ap most (sym (tails-equal x.1)) ∙ sym x.2 ])

pub one-listed : (base : ℕ) (t : List ℕ) {vs ws : List ℕ} → base ≤ 36 → Listed base t vs → Listed base t ws → vs ≡ ws
unfolding ListedCase
one-listed base t w (last_number d) k =
    let r = listed-by base t t [] w k (sym (append-nil t)) (digits-run d) tt in
    elim r.2 [
      | inl x ↦ ap (λ (xs : List ℕ). digits_value base t ∷ xs) (sym x.1) ∙ sym r.1
      | inr x ↦ absurd (dot-nothing x.1)
    ]
one-listed base t w (more_numbers {ds} {r = rest} {vs} e d h) k =
    let r = listed-by base t ds (46 ∷ rest) w k e (digits-run d) (no-digit base 46 36 refl w) in
    elim r.2 [
      | inl x ↦ absurd (nothing-not x.0)
      | inr x ↦ (let same : x.0 ≡ rest = tails-equal x.1 in
          ap (λ (xs : List ℕ). digits_value base ds ∷ xs) (one-listed base rest w h (rw same at x.2)) ∙ sym r.1)
    ]

-- a range
pub ends-range : (base : ℕ) (t ds es front rest : List ℕ) → base ≤ 36 → t ≡ ds ++ 45 ∷ es → Digits base ds []
    → t ≡ front ++ rest → Run (is_digit base) front [] → Stops (is_digit base) rest → (ds ≡ front) × (45 ∷ es ≡ rest)
ends-range base t ds es front rest w e d cut run stop = same-front (no-digit base 45 36 refl w) cut run stop e
    (digits-run d)

-- numbers with dots are no range
pub listed-no_range : (base : ℕ) (t front after : List ℕ) {vs : List ℕ} → base ≤ 36 → Listed base t vs → t ≡ front
    ++ 45 ∷ after → Run (is_digit base) front [] → ⊥
unfolding ListedCase
listed-no_range base t front after w k cut run =
    let r = listed-by base t front (45 ∷ after) w k cut run (no-digit base 45 36 refl w) in
    elim r.2 [ inl x ↦ absurd (nothing-not x.0) | inr x ↦ absurd (dot-dash x.1) ]
