-- A class spells one set, and a slice spells no other.
-- Serves: class_set, is_read_back, one_tree, read_peg, spells_one_class, spells_some_class
use Rattle.std.proofs.Common.{◌≡◌, ℕ, zero, suc, ◌<◌, ◌≤◌, ◌||◌, ◌&&◌, nat_le, not, Bool, true, false, List, [], ◌∷◌}
use Rattle.std.proofs.Common.{◌++◌, length, get_or, refl, sym, ap, ◌∙◌, arith, ◌⊎◌, inl, inr}
use Rattle.std.proofs.Math.Path.{fun_ext}
use Rattle.std.proofs.lemmas.Bool.{cases_eq, cases_lt, lt-ltb, le-ltb}
use Rattle.std.proofs.lemmas.List.{get_or_past}
use Rattle.pegread.specs.Chars.{Char, SpellsNone, Paired}
use Rattle.pegread.specs.Classes.{IsClass, bracketed, GoesOn, Item, item_char, item_range, Ranges, no_items, more_items}
use Rattle.pegread.specs.Classes.{in_ranges, bytes_in, complement, NoHat, SpellsSet, positive, negative, SpellsItems}
use Rattle.pegread.proofs.CharFrontLemmas.{char-one, char-shorter, no-char, some-char}
use Rattle.pegread.proofs.SpellsBytesLemmas.{closed-by, char-paired, none-paired, paired-after_plain, same-inside}

-- after the `-` of a range the class goes on
goes-on : (m : List ℕ) {r : List ℕ} {b : ℕ} → Char m r b → GoesOn (45 ∷ m)
goes-on [] h = absurd (no-char _ _ _ h tt)
goes-on (c ∷ cs) h = refl

no-range : {m r s : List ℕ} {b : ℕ} → (GoesOn s → ⊥) → s ≡ 45 ∷ m → Char m r b → ⊥
no-range {m} n e h = n (rw e (goes-on m h))

item-same : {t r s : List ℕ} {a b c d : ℕ} → Item t r a b → Item t s c d → (r ≡ s) × (a ≡ c) × (b ≡ d)
item-same (item_char h n) (item_char k m) = let e = char-one _ _ _ _ _ h k in (e.0, e.1, e.1)
item-same (item_char h n) (item_range k l) = let e = char-one _ _ _ _ _ h k in absurd (no-range n e.0 l)
item-same (item_range h l) (item_char k n) = let e = char-one _ _ _ _ _ k h in absurd (no-range n e.0 l)
item-same (item_range {m = m} h l) (item_range {m = u} k i) =
    let e = char-one _ _ _ _ _ h k in
    let dashes = e.0 in
    let after : m ≡ u = cc in
    let f = char-one _ _ _ _ _ l (rw (sym after) at i) in
    (f.0, e.1, f.1)

item-some : {t r : List ℕ} {a b : ℕ} → Item t r a b → SpellsNone t → ⊥
item-some (item_char h n) e = no-char _ _ _ h e
item-some (item_range h k) e = no-char _ _ _ h e

ranges-same : {t : List ℕ} {xs ys : List (ℕ × ℕ)} → Ranges t xs → Ranges t ys → xs ≡ ys
ranges-same no_items no_items = refl
ranges-same no_items (more_items h k) = absurd (item-some h tt)
ranges-same (more_items h k) no_items = absurd (item-some h tt)
ranges-same (more_items {a = a} {b = b} {xs = xs} h k) (more_items {a = c} {b = d} {xs = ys} i j) =
    let e = item-same h i in
    let rest = ranges-same k (rw (sym e.0) at j) in
    let first : (a, b) ≡ (c, d) = ap (λ (v : ℕ). (v, b)) e.1 ∙ ap (λ (v : ℕ). (c, v)) e.2 in
    ap (λ (x : ℕ × ℕ). x ∷ xs) first ∙ ap (λ (z : List (ℕ × ℕ)). (c, d) ∷ z) rest

item-shorter : {t r : List ℕ} {a b : ℕ} → Item t r a b → length r < length t
item-shorter (item_char h n) = char-shorter h
item-shorter (item_range h k) = let x = char-shorter h in let y = char-shorter k in omega arith

-- what follows an item has no backslash alone
pub item-paired : {t r : List ℕ} {a b : ℕ} → Item t r a b → Paired t → Paired r
item-paired (item_char h n) p = char-paired h p
item-paired (item_range h k) p = char-paired k (paired-after_plain (omega arith) (char-paired h p))

pub item-smaller : {t r : List ℕ} {a b : ℕ} → Item t r a b → length r < length t
item-smaller h = item-shorter h

abbrev HasItem : List ℕ → Type 0
HasItem t = (r : List ℕ) × (a : ℕ) × (b : ℕ) × Item t r a b

-- the item that begins with a character
item-from : (t r : List ℕ) (a : ℕ) → Char t r a → Paired r → HasItem t
item-from t [] a h p = ([], a, a, item_char h (λ g. g))
item-from t (b ∷ []) a h p = (b ∷ [], a, a, item_char h (λ g. g))
item-from t (b ∷ c ∷ cs) a h p = elim (cases_eq b 45) [
  | inl e ↦ range-from (rw e at h) (rw e at p)
  | inr n ↦ (b ∷ c ∷ cs, a, a, item_char h n)
]
  where
    range-from : Char t (45 ∷ c ∷ cs) a → Paired (45 ∷ c ∷ cs) → HasItem t
    range-from k q = elim (some-char (c ∷ cs)) [
      | inl e ↦ absurd (let x : c ∷ cs ≡ [] = none-paired (c ∷ cs) e (paired-after_plain (omega arith) q) in cc)
      | inr x ↦ (x.0, a, x.1, item_range k x.2)
    ]

some-item : (t : List ℕ) → Paired t → (t ≡ []) ⊎ HasItem t
some-item t p = elim (some-char t) [
  | inl e ↦ inl (none-paired t e p)
  | inr x ↦ inr (item-from t x.0 x.1 x.2 (char-paired x.2 p))
]

ranges-within : (n : ℕ) (t : List ℕ) → length t ≤ n → Paired t → (xs : List (ℕ × ℕ)) × Ranges t xs
ranges-within zero [] h p = ([], no_items)
ranges-within zero (b ∷ bs) h p = absurd (omega arith)
ranges-within (suc n) t h p = elim (some-item t p) [
  | inl e ↦ rw e ([], no_items)
  | inr x ↦ (let k = item-shorter x.3 in let y = ranges-within n x.0 (omega arith) (item-paired x.3 p) in
      ((x.1, x.2) ∷ y.0, more_items x.3 y.1))
]

some-ranges : (t : List ℕ) → Paired t → (xs : List (ℕ × ℕ)) × Ranges t xs
some-ranges t p = ranges-within (length t) t (omega arith) p

-- a class's brackets, and what stands between them
pub record Bracketed (slice : List ℕ) : Type 0 where
  pub inside : List ℕ
  pub cut : slice ≡ 91 ∷ (inside ++ 93 ∷ [])
  pub paired : Paired inside

pub class-bracketed : {slice : List ℕ} → IsClass slice → Bracketed slice
class-bracketed (bracketed c) = let x = closed-by c in
    record { inside = x.inside; cut = ap (λ (z : List ℕ). 91 ∷ z) x.cut; paired = x.paired }

abbrev HasSet : List ℕ → Type 0
HasSet slice = (f : ℕ → Bool) × SpellsSet slice f

positive-set : (slice inside : List ℕ) → slice ≡ 91 ∷ (inside ++ 93 ∷ []) → NoHat inside → Paired inside → HasSet slice
positive-set slice inside e n p = let x = some-ranges inside p in
    (bytes_in (in_ranges x.0), positive slice e n x.1 (λ b. refl))

negative-set : (slice inside : List ℕ) → slice ≡ 91 ∷ 94 ∷ (inside ++ 93 ∷ []) → Paired inside → HasSet slice
negative-set slice inside e p = let x = some-ranges inside p in
    (complement (in_ranges x.0), negative slice e x.1 (λ b. refl))

set-of : (slice inside : List ℕ) → slice ≡ 91 ∷ (inside ++ 93 ∷ []) → Paired inside → HasSet slice
set-of slice [] e p = positive-set slice [] e tt p
set-of slice (b ∷ bs) e p = elim (cases_eq b 94) [
  | inl k ↦ negative-set slice bs (rw k at e) (paired-after_plain (omega arith) p)
  | inr n ↦ positive-set slice (b ∷ bs) e n p
]

pub some-class : (slice : List ℕ) → IsClass slice → (f : ℕ → Bool) × SpellsSet slice f
some-class slice h = let q = class-bracketed h in set-of slice q.inside q.cut q.paired

no-hat : {s t : List ℕ} → NoHat s → s ≡ 94 ∷ t → ⊥
no-hat n e = (let k = rw e at n in k refl)

pub one-class : (slice : List ℕ) (f g : ℕ → Bool) → SpellsSet slice f → SpellsSet slice g → f ≡ g
one-class slice f g (positive {inside = s} _ e n x p) (positive {inside = t} _ k m y q) =
    let same : s ≡ t = same-inside 91 93 91 93 s t (sym e ∙ k) in
    let items = ranges-same x (rw (sym same) at y) in
    fun_ext (λ b. p b ∙ ap (λ (z : List (ℕ × ℕ)). bytes_in (in_ranges z) b) items ∙ sym (q b))
one-class slice f g (positive {inside = s} _ e n x p) (negative {inside = t} _ k y q) =
    absurd (no-hat n (same-inside 91 93 91 93 s (94 ∷ t) (sym e ∙ k)))
one-class slice f g (negative {inside = s} _ e x p) (positive {inside = t} _ k m y q) =
    absurd (no-hat m (same-inside 91 93 91 93 t (94 ∷ s) (sym k ∙ e)))
one-class slice f g (negative {inside = s} _ e x p) (negative {inside = t} _ k y q) =
    let hats : 94 ∷ s ≡ 94 ∷ t = same-inside 91 93 91 93 (94 ∷ s) (94 ∷ t) (sym e ∙ k) in
    let same : s ≡ t = cc in
    let items = ranges-same x (rw (sym same) at y) in
    fun_ext (λ b. p b ∙ ap (λ (z : List (ℕ × ℕ)). complement (in_ranges z) b) items ∙ sym (q b))

module _ where
  or_assoc : (x y z : Bool) → ((x || y) || z) ≡ (x || (y || z))
  or_assoc true y z = refl
  or_assoc false y z = refl

  or_false : (x : Bool) → x ≡ (x || false)
  or_false true = refl
  or_false false = refl

  -- one more range in the set, and one fewer to come
  pub items-step : {t : List ℕ} (s u : List Bool) (a b : ℕ) (xs : List (ℕ × ℕ))
      → ((k : ℕ) → get_or u k false ≡ (get_or s k false || (nat_le a k && nat_le k b)))
      → SpellsItems t (λ k. get_or s k false || in_ranges ((a, b) ∷ xs) k)
      → SpellsItems t (λ k. get_or u k false || in_ranges xs k)
  items-step s u a b xs e h = record {
    items = h.items;
    ranges = h.ranges;
    same = λ k. ap (λ (v : Bool). v || in_ranges xs k) (e k) ∙ or_assoc (get_or s k false) (nat_le a k && nat_le k b)
        (in_ranges xs k) ∙ h.same k;
  }

  -- no item is left
  pub items-ended : {t u : List ℕ} (s : List Bool) → u ≡ []
      → ((xs : List (ℕ × ℕ)) → Ranges u xs → SpellsItems t (λ k. get_or s k false || in_ranges xs k))
      → SpellsItems t (λ k. get_or s k false)
  items-ended s e f = let h = f [] (rw e no_items) in
      record { items = h.items; ranges = h.ranges; same = λ k. or_false (get_or s k false) ∙ h.same k }

  in-set : (s : List Bool) (f : ℕ → Bool) → length s ≡ 256 → ((b : ℕ) → get_or s b false ≡ f b) → (b : ℕ)
      → get_or s b false ≡ bytes_in f b
  in-set s f n e b = elim (cases_lt b 256) [
    | inl h ↦ rw (lt-ltb b 256 h) (e b)
    | inr h ↦ rw (le-ltb b 256 h) (get_or_past s b false (omega arith))
  ]

  out-set : (s u : List Bool) (f : ℕ → Bool) → length u ≡ 256 → ((b : ℕ) → get_or s b false ≡ f b)
      → ((b : ℕ) → b < 256 → get_or u b false ≡ not (get_or s b false)) → (b : ℕ) → get_or u b false ≡ complement f b
  out-set s u f n e g b = elim (cases_lt b 256) [
    | inl h ↦ rw (lt-ltb b 256 h) (g b h ∙ ap not (e b))
    | inr h ↦ rw (le-ltb b 256 h) (get_or_past u b false (omega arith))
  ]

  pub class-positive : {slice text : List ℕ} (s : List Bool) → slice ≡ 91 ∷ (text ++ 93 ∷ []) → NoHat text
      → length s ≡ 256 → SpellsItems text (λ b. get_or s b false) → SpellsSet slice (λ b. get_or s b false)
  class-positive s e n l h = positive _ e n h.ranges (in-set s (in_ranges h.items) l h.same)

  pub class-negative : {slice text items : List ℕ} (s u : List Bool) → slice ≡ 91 ∷ (text ++ 93 ∷ []) → text ≡ 94
      ∷ items → length u ≡ 256 → SpellsItems items (λ b. get_or s b false)
      → ((b : ℕ) → b < 256 → get_or u b false ≡ not (get_or s b false)) → SpellsSet slice (λ b. get_or u b false)
  class-negative s u e k l h g = negative _ (rw k at e) h.ranges (out-set s u (in_ranges h.items) l h.same g)
