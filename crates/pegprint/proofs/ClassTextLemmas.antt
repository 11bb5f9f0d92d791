-- The runs of a set of bytes, the items that their text is read as, and that the canonical text of a set spells it.
-- Serves: is_read_back
use Rattle.std.proofs.Common.{◌≡◌, ℕ, ◌+◌, ◌<◌, ◌≤◌, ◌==◌, ◌||◌, ◌&&◌, nat_lt, nat_le, Bool, true, false, List, [], ◌∷◌}
use Rattle.std.proofs.Common.{◌++◌, map, cond, refl, ap, sym, ◌∙◌, subst, arith, inl, inr, ◌≢◌, not, append_assoc}
use Rattle.std.specs.List.{flat_map, range_with_len}
use Rattle.std.proofs.Math.Bool.{or_assoc, not-not}
use Rattle.std.proofs.lemmas.Bool.{cases_Bool, ltb-true, ltb-false, or_parts}
use Rattle.std.proofs.lemmas.Bool.Decides.{eqb_tells, nat_tests}
use Rattle.std.proofs.lemmas.List.FromFn.{get_or-map-range_with_len}
use Rattle.ruletable.specs.Runs.{runs_of, test_of, in_runs, AreApart}
use Rattle.ruletable.proofs.RunsLemmas.{are_runs, after-same, one-alone, one-more}
use Rattle.pegread.specs.Classes.{in_range, in_ranges, GoesOn, item_char, item_range, Ranges, no_items, more_items}
use Rattle.pegread.specs.Classes.{bytes_in, complement, NoHat, SpellsSet, positive, negative}
use Rattle.pegread.specs.Escapes.{shown, run_text, runs_text, class_text}
use Rattle.pegread.specs.Formed.{IsByteSet}
use Rattle.pegread.specs.Slices.{Closes, close, plain}
use Rattle.pegprint.proofs.ByteShapeLemmas.{Shape, as_is, lettered, backslashed, octals, shape-char, closes-on, IsBare}
use Rattle.pegprint.proofs.ByteShapeLemmas.{shown-shape}

-- each range goes up, and is of bytes
abbrev pub GoUp : List (ℕ × ℕ) → Type 0
GoUp [] = Unit {0}
GoUp (x ∷ xs) = (x.0 ≤ x.1) × (x.1 < 256) × GoUp xs

abbrev bits : (ℕ → Bool) → List Bool
bits f = map f (range_with_len 0 256)

bits-same : (f : ℕ → Bool) (b : ℕ) → b < 256 → test_of (bits f) b ≡ f b
bits-same f b h = get_or-map-range_with_len f 0 256 b b false h (omega arith)

runs-same : (f : ℕ → Bool) → runs_of f ≡ runs_of (test_of (bits f))
runs-same f = after-same f (test_of (bits f)) 0 (omega arith) (λ b h. sym (bits-same f b h))

up-in : (a z : ℕ) → a ≤ z → (nat_le a z && nat_le z z) ≡ true
up-in a z h = grind (arith, nat_tests)

last-byte : (x : ℕ × ℕ) → x.0 ≤ x.1 → ((b : ℕ) → 256 ≤ b → in_range x b ≡ false) → x.1 < 256
last-byte x up h = elim (cases_Bool (nat_lt x.1 256)) [
  | inl e ↦ ltb-true x.1 256 e
  | inr e ↦ absurd (let no = h x.1 (ltb-false x.1 256 e) in let yes = up-in x.0 x.1 up in cc)
]

go-up : (n : ℕ) (xs : List (ℕ × ℕ)) → AreApart n xs → ((b : ℕ) → 256 ≤ b → in_runs xs b ≡ false) → GoUp xs
go-up n [] a h = tt
go-up n (x ∷ xs) a h =
    let none : (b : ℕ) → 256 ≤ b → (in_range x b ≡ false) × (in_runs xs b ≡ false) =
    λ b l. or_parts (in_range x b) (in_runs xs b) (h b l) in
    (a.1, last-byte x a.1 (λ b l. (none b l).0), go-up (x.1 + 2) xs a.2 (λ b l. (none b l).1))

in-same : (xs : List (ℕ × ℕ)) (b : ℕ) → in_ranges xs b ≡ in_runs xs b
in-same [] b = refl
in-same (x ∷ xs) b = ap (λ v. in_range x b || v) (in-same xs b)

pub runs-up : (f : ℕ → Bool) → GoUp (runs_of f)
runs-up f = let r = are_runs (bits f) in subst GoUp (sym (runs-same f)) (go-up 0 _ r.apart r.bytes)

in-runs : (f : ℕ → Bool) (b : ℕ) → b < 256 → in_ranges (runs_of f) b ≡ f b
in-runs f b h = in-same (runs_of f) b ∙ ap (λ xs. in_runs xs b) (runs-same f) ∙ (are_runs (bits f)).members b h
    ∙ bits-same f b h

-- a run of two is read as two items
abbrev pub items_of : ℕ × ℕ → List (ℕ × ℕ)
items_of x = cond (x.0 == x.1) ((x.0, x.0) ∷ []) (cond (x.0 + 1 == x.1) ((x.0, x.0) ∷ (x.1, x.1) ∷ []) (x ∷ []))

in-items : (x : ℕ × ℕ) (xs : List (ℕ × ℕ)) (b : ℕ) → x.0 ≤ x.1 → in_ranges (items_of x ++ xs) b
    ≡ (in_range x b || in_ranges xs b)
in-items x xs b h = elim (eqb_tells x.0 x.1) [
  | inl e ↦ rw (e.0) (ap (λ (v : ℕ). (nat_le x.0 b && nat_le b v) || in_ranges xs b) e.1)
  | inr e ↦ rw (e.0) (elim (eqb_tells (x.0 + 1) x.1) [
    | inl k ↦ rw (k.0) (ap (λ (v : Bool). v || (in_range (x.1, x.1) b || in_ranges xs b)) (one-alone x.0 b)
        ∙ sym (or_assoc (b == x.0) (in_range (x.1, x.1) b) (in_ranges xs b))
        ∙ ap (λ (v : Bool). v || in_ranges xs b) (sym (one-more x.0 x.1 x.1 b k.1 (omega arith))))
    | inr k ↦ rw (k.0) refl
  ])
]

in-all : (xs : List (ℕ × ℕ)) (b : ℕ) → GoUp xs → in_ranges (flat_map items_of xs) b ≡ in_ranges xs b
in-all [] b w = refl
in-all (x ∷ xs) b w = in-items x (flat_map items_of xs) b w.0 ∙ ap (λ (v : Bool). in_range x b || v) (in-all xs b w.2)

-- the items of the runs' texts are the set's bytes
pub in-set : (f : ℕ → Bool) (b : ℕ) → b < 256 → in_ranges (flat_map items_of (runs_of f)) b ≡ f b
in-set f b h = in-all (runs_of f) b (runs-up f) ∙ in-runs f b h

-- begins with no `-` and no `^`
abbrev Leads : List ℕ → Type 0
Leads [] = Unit {0}
Leads (b ∷ bs) = (b ≢ 45) × (b ≢ 94)

leads-no_range : (u : List ℕ) → Leads u → GoesOn u → ⊥
leads-no_range [] h g = g
leads-no_range (b ∷ []) h g = g
leads-no_range (b ∷ c ∷ cs) h g = h.0 g

leads-no_hat : (u : List ℕ) → Leads u → NoHat u
leads-no_hat [] h = tt
leads-no_hat (b ∷ bs) h = h.1

shape-leads : {c : ℕ} {s : List ℕ} (u : List ℕ) → Shape IsBare c s → Leads (s ++ u)
shape-leads u (as_is p q) = (p.1, p.2)
shape-leads u (lettered h) = (omega arith, omega arith)
shape-leads u (backslashed h) = (omega arith, omega arith)
shape-leads u (octals h k i j) = (omega arith, omega arith)

abbrev bare-closes : (b : ℕ) → IsBare b → b ≢ 93
bare-closes b p = p.0

-- what is known of a text, whatever follows it: it is read as the items
record IsRead (xs : List (ℕ × ℕ)) (s : List ℕ) : Type 0 where
  leads : Leads s
  ranges : Ranges s xs
  closes : (r m : List ℕ) → Closes 93 r m → Closes 93 (s ++ r) m

read-one : {a : ℕ} {s : List ℕ} (u : List ℕ) {xs : List (ℕ × ℕ)} → Shape IsBare a s → IsRead xs u
    → IsRead ((a, a) ∷ xs) (s ++ u)
read-one {s = s} u v w = record {
  leads = shape-leads u v;
  ranges = more_items (item_char (shape-char u v) (leads-no_range u w.leads)) w.ranges;
  closes = λ r m y. subst (λ (z : List ℕ). Closes 93 z m) (sym (append_assoc s u r))
      (closes-on bare-closes (inr (omega arith)) v (w.closes r m y));
}

read-range : {a b : ℕ} {s t : List ℕ} (u : List ℕ) {xs : List (ℕ × ℕ)} → Shape IsBare a s → Shape IsBare b t
    → IsRead xs u → IsRead ((a, b) ∷ xs) (s ++ (45 ∷ (t ++ u)))
read-range {s = s} {t = t} u v k w = record {
  leads = shape-leads (45 ∷ (t ++ u)) v;
  ranges = more_items (item_range (shape-char (45 ∷ (t ++ u)) v) (shape-char u k)) w.ranges;
  closes = λ r m y. subst (λ (z : List ℕ). Closes 93 z m)
      (sym (append_assoc s (45 ∷ (t ++ u)) r ∙ ap (λ (z : List ℕ). s ++ (45 ∷ z)) (append_assoc t u r)))
      (closes-on bare-closes (inr (omega arith)) v (plain (omega arith) (omega arith)
      (closes-on bare-closes (inr (omega arith)) k (w.closes r m y))));
}

read-run : (x : ℕ × ℕ) (xs : List (ℕ × ℕ)) (u : List ℕ) → x.0 ≤ x.1 → x.1 < 256 → IsRead xs u
    → IsRead (items_of x ++ xs) (run_text x ++ u)
read-run x xs u h k w = elim (eqb_tells x.0 x.1) [
  | inl e ↦ rw (e.0) (read-one u (shown-shape x.0 (omega arith)) w)
  | inr e ↦ rw (e.0) (elim (eqb_tells (x.0 + 1) x.1) [
    | inl l ↦ rw (l.0) (subst (λ (z : List ℕ). IsRead ((x.0, x.0) ∷ (x.1, x.1) ∷ xs) z)
        (sym (append_assoc (shown x.0) (shown x.1) u))
        (read-one (shown x.1 ++ u) (shown-shape x.0 (omega arith)) (read-one u (shown-shape x.1 k) w)))
    | inr l ↦ rw (l.0) (subst (λ (z : List ℕ). IsRead (x ∷ xs) z) (sym (append_assoc (shown x.0) (45 ∷ shown x.1) u))
        (read-range u (shown-shape x.0 (omega arith)) (shown-shape x.1 k) w))
  ])
]

read-all : (xs : List (ℕ × ℕ)) → GoUp xs → IsRead (flat_map items_of xs) (flat_map run_text xs)
read-all [] w = record { leads = tt; ranges = no_items; closes = λ r m y. y }
read-all (x ∷ xs) w = read-run x (flat_map items_of xs) (flat_map run_text xs) w.0 w.1 (read-all xs w.2)

read-runs : (f : ℕ → Bool) → IsRead (flat_map items_of (runs_of f)) (runs_text f)
read-runs f = read-all (runs_of f) (runs-up f)

same-set : (f : ℕ → Bool) → IsByteSet f → (b : ℕ) → f b ≡ bytes_in (in_ranges (flat_map items_of (runs_of f))) b
same-set f w b = same-bytes (nat_lt b 256) refl
  where
    same-bytes : (v : Bool) → nat_lt b 256 ≡ v → f b ≡ cond v (in_ranges (flat_map items_of (runs_of f)) b) false
    same-bytes true h = sym (in-set f b (ltb-true b 256 h))
    same-bytes false h = w b (ltb-false b 256 h)

same-complement : (f : ℕ → Bool) → IsByteSet f → (b : ℕ)
    → f b ≡ complement (in_ranges (flat_map items_of (runs_of (complement f)))) b
same-complement f w b = same-bytes (nat_lt b 256) refl
  where
    same-bytes : (v : Bool) → nat_lt b 256 ≡ v → f b
        ≡ cond v (not (in_ranges (flat_map items_of (runs_of (complement f))) b)) false
    same-bytes true h =
        let e = in-set (complement f) b (ltb-true b 256 h) in
        let g : complement f b ≡ not (f b) = ap (λ (v : Bool). cond v (not (f b)) false) h in
        sym (ap not (e ∙ g) ∙ not-not (f b))
    same-bytes false h = w b (ltb-false b 256 h)

spelled-by : (f : ℕ → Bool) → IsByteSet f → (v : Bool)
    → SpellsSet (cond v (91 ∷ 94 ∷ (runs_text (complement f) ++ 93 ∷ [])) (91 ∷ (runs_text f ++ 93 ∷ []))) f
spelled-by f w true = negative _ refl (read-runs (complement f)).ranges (same-complement f w)
spelled-by f w false = let a = read-runs f in positive _ refl (leads-no_hat _ a.leads) a.ranges (same-set f w)

pub set-spelled : (f : ℕ → Bool) → IsByteSet f → SpellsSet (class_text f) f
set-spelled f w = spelled-by f w (f 255)

-- a class's text after its first bracket
pub record Inside (s : List ℕ) : Type 0 where
  pub inside : List ℕ
  pub whole : s ≡ 91 ∷ inside
  pub closes : (r : List ℕ) → Closes 93 (inside ++ r) r

inside-of : (f : ℕ → Bool) (r : List ℕ) → Closes 93 ((runs_text f ++ 93 ∷ []) ++ r) r
inside-of f r = subst (λ (z : List ℕ). Closes 93 z r) (sym (append_assoc (runs_text f) (93 ∷ []) r))
    ((read-runs f).closes (93 ∷ r) r close)

inside-by : (f : ℕ → Bool) (v : Bool) → Inside (cond v (91 ∷ 94 ∷ (runs_text (complement f) ++ 93 ∷ []))
    (91 ∷ (runs_text f ++ 93 ∷ [])))
inside-by f true = record {
  inside = 94 ∷ (runs_text (complement f) ++ 93 ∷ []);
  whole = refl;
  closes = λ r. plain (omega arith) (omega arith) (inside-of (complement f) r);
}
inside-by f false = record { inside = runs_text f ++ 93 ∷ []; whole = refl; closes = inside-of f }

pub class-inside : (f : ℕ → Bool) → Inside (class_text f)
class-inside f = inside-by f (f 255)
