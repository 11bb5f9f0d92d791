-- Which tokens a first byte leaves, and how far each reaches.
-- Serves: Kind::first_token, is_read_back
use Rattle.std.proofs.Common.{◌≡◌, ◌≢◌, ℕ, ◌≤◌, ◌-◌, ◌||◌, ◌==◌, cond, Bool, true, false, List, [], ◌∷◌, length, take}
use Rattle.std.proofs.Common.{drop, refl, sym, arith, ◌⊎◌, inl, inr}
use Rattle.pegread.specs.declared.kind.Kind.{Kind}
use Rattle.pegread.specs.declared.kind.Kind.TheVariants.{Ident, Arrow, Begin, Literal, Class, Action, Bad, End}
use Rattle.pegread.specs.Kinds.{is_sign, is_closed}
use Rattle.lexer.specs.SliceEnds.{NoPiece, found, bad, at_end}
use Rattle.pegread.specs.Slices.{starts_name, Names, Closes, close, escape, plain, Body, last, nested, other, Stands}
use Rattle.pegread.specs.Slices.{StandsNone, ident, arrow, begin, single, double, class, action, Piece, First, NoDash}
use Rattle.lexer.proofs.FirstLemmas as firsts
use Rattle.pegread.proofs.SliceLemmas.{stands-part, Decided, closes-by}

pub closes-one : {mark : ℕ} {t r s : List ℕ} → mark ≢ 92 → Closes mark t r → Closes mark t s → r ≡ s
unfolding Decided
closes-one m close d = elim (closes-by d) [
  | inl x ↦ sym x.1
  | inr y ↦ elim y [ inl z ↦ absurd (m z.0) | inr w ↦ absurd (w.0 refl) ]
]
closes-one m (escape c) d = elim (closes-by d) [
  | inl x ↦ absurd (m (sym x.0))
  | inr y ↦ elim y [
    | inl z ↦ closes-one m c (let same : z.2 ≡ _ = cc in rw same at z.4)
    | inr w ↦ absurd (w.1 refl)
  ]
]
closes-one m (plain p q c) d = elim (closes-by d)
    [ inl x ↦ absurd (p x.0) | inr y ↦ elim y [ inl z ↦ absurd (q z.0) | inr w ↦ closes-one m c w.2 ] ]

pub body-one : {t r s : List ℕ} → Body t r → Body t s → r ≡ s
body-one last last = refl
body-one last (other p q h) = absurd (q refl)
body-one (nested h k) (nested u v) = body-one k (rw (sym (body-one h u)) at v)
body-one (nested h k) (other p q u) = absurd (p refl)
body-one (other p q h) last = absurd (q refl)
body-one (other p q h) (nested u v) = absurd (p refl)
body-one (other p q h) (other p' q' u) = body-one h u

-- each token that stands there ends where this one does
first-alone : {k : Kind} {t r : List ℕ} → Stands k t r → ((j : Kind) (s : List ℕ) → Stands j t s → r ≡ s) → First k t r
first-alone h f = firsts.first-alone Piece Stands Bad End stands-part h f

-- whether the byte begins an arrow or what a mark closes
abbrev begins_longer : ℕ → Bool
begins_longer b = (b == 60) || (b == 39) || (b == 34) || (b == 91) || (b == 123)

-- whether the byte begins no token but itself
abbrev is_lone : ℕ → Bool
is_lone b = cond (starts_name b) false (cond (begins_longer b) false true)

no-name : (x y : Bool) → x ≡ true → cond x false y ≡ true → ⊥
no-name true y h k = cc
no-name false y h k = cc

lone-ends : {k : Kind} {b : ℕ} {bs s : List ℕ} → is_lone b ≡ true → Stands k (b ∷ bs) s → bs ≡ s
lone-ends {b = b} l (ident h n) = absurd (no-name (starts_name b) (cond (begins_longer b) false true) h l)
lone-ends l arrow = cc
lone-ends l begin = cc
lone-ends l (single c) = cc
lone-ends l (double c) = cc
lone-ends l (class c) = cc
lone-ends l (action c) = cc
lone-ends l _ = refl

-- the byte c is a token, wherever it stands
pub first-sign : {k : Kind} {b c : ℕ} → b ≡ c → is_lone c ≡ true → ((r : List ℕ) → Stands k (c ∷ r) r) → (r : List ℕ)
    → First k (b ∷ r) r
first-sign e l h r = rw e (first-alone (h r) (λ _ _ x. lone-ends l x))

single-closes : {k : Kind} {bs s : List ℕ} → Stands k (39 ∷ bs) s → Closes 39 bs s
single-closes (ident h n) = cc
single-closes (single c) = c

double-closes : {k : Kind} {bs s : List ℕ} → Stands k (34 ∷ bs) s → Closes 34 bs s
double-closes (ident h n) = cc
double-closes (double c) = c

class-closes : {k : Kind} {bs s : List ℕ} → Stands k (91 ∷ bs) s → Closes 93 bs s
class-closes (ident h n) = cc
class-closes (class c) = c

action-body : {k : Kind} {bs s : List ℕ} → Stands k (123 ∷ bs) s → Body bs s
action-body (ident h n) = cc
action-body (action c) = c

ident-names : {k : Kind} {b : ℕ} {bs s : List ℕ} → starts_name b ≡ true → Stands k (b ∷ bs) s → Names bs s
ident-names e (ident h n) = n
ident-names e _ = cc

arrow-longest : {k : Kind} {bs s : List ℕ} → Stands k (60 ∷ 45 ∷ bs) s → length bs ≤ length s
arrow-longest (ident h n) = absurd (let e : starts_name 60 ≡ true = h in cc)
arrow-longest arrow = omega arith
arrow-longest begin = omega arith

begin-longest : {k : Kind} {bs s : List ℕ} → NoDash bs → Stands k (60 ∷ bs) s → bs ≡ s
begin-longest d (ident h n) = cc
begin-longest d arrow = absurd (d refl)
begin-longest d begin = refl

nothing-stands : {k : Kind} {b : ℕ} {bs s : List ℕ} → b ≢ 60 → starts_name b ≡ false → is_sign k ≡ false
    → is_closed k ≡ false → Stands k (b ∷ bs) s → ⊥
nothing-stands a n e f (ident h m) = cc
nothing-stands a n e f arrow = a refl
nothing-stands a n e f begin = a refl
nothing-stands a n e f _ = cc

pub first-end : (t : List ℕ) → length t ≡ 0 → First End t t
first-end [] e = at_end
first-end (b ∷ bs) e = cc

-- the code's rest of nothing
nothing-left : (t : List ℕ) → take (length t - length t) (drop (length t) t) ≡ []
nothing-left t = grind (arith)

first-single : {b : ℕ} {bs r : List ℕ} → b ≡ 39 → Closes b bs r → First Literal (b ∷ bs) r
first-single h c =
    let d = rw h at c in
    rw h (first-alone (single d) (λ _ _ x. closes-one (omega arith) d (single-closes x)))

first-double : {b : ℕ} {bs r : List ℕ} → b ≡ 34 → Closes b bs r → First Literal (b ∷ bs) r
first-double h c =
    let d = rw h at c in
    rw h (first-alone (double d) (λ _ _ x. closes-one (omega arith) d (double-closes x)))

pub first-literal : {b : ℕ} {bs r : List ℕ} → (b ≡ 39) ⊎ ((b ≢ 39) × (b ≡ 34)) → Closes b bs r
    → First Literal (b ∷ bs) r
first-literal h c = elim h [ inl x ↦ first-single x c | inr y ↦ first-double y.1 c ]

pub first-class : {b : ℕ} {bs r : List ℕ} → b ≡ 91 → Closes 93 bs r → First Class (b ∷ bs) r
first-class h c = rw h (first-alone (class c) (λ _ _ x. closes-one (omega arith) c (class-closes x)))

pub first-action : {b : ℕ} {bs r : List ℕ} → b ≡ 123 → Body bs r → First Action (b ∷ bs) r
first-action h c = rw h (first-alone (action c) (λ _ _ x. body-one c (action-body x)))

pub first-arrow : {bs ds : List ℕ} → bs ≡ 45 ∷ ds → First Arrow (60 ∷ bs) ds
first-arrow e = rw e (found (record { stands = arrow; longest = λ _ s x. arrow-longest x }))

pub first-begin : {bs : List ℕ} → NoDash bs → First Begin (60 ∷ bs) bs
first-begin d = first-alone begin (λ _ _ x. begin-longest d x)

module _ {b : ℕ} {t bs : List ℕ} (e : t ≡ b ∷ bs) where
  pub first-ident : {r : List ℕ} → starts_name b ≡ true → Names bs r → ((s : List ℕ) → Names bs s → length r ≤ length s)
      → First Ident t r
  first-ident h n l = rw (e) (found (record { stands = ident h n; longest = λ _ s x. l s (ident-names h x) }))

  pub first-bad : NoPiece Piece t → b ≢ 60 → starts_name b ≡ false → StandsNone is_sign (b ∷ bs)
      → StandsNone is_closed (b ∷ bs) → First Bad t (take (length t - length t) (drop (length t) t))
  first-bad w a n p q = rw (nothing-left t, e) (bad (rw e at w) (λ k s h. nothing-stands a n (p k s h) (q k s h) h))
