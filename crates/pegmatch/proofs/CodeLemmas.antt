-- There are no more cells than nodes at positions.
-- Serves: Packrat::match_unit of packrat
use Rattle.std.proofs.Common.{◌≡◌, ◌⊎◌, inl, inr, ℕ, zero, suc, ◌+◌, ◌*◌, ◌<◌, ◌≤◌, Bool, true, false, if◌then◌else◌}
use Rattle.std.proofs.Common.{List, [], ◌∷◌, length, Option, Some, None, refl, sym, ◌∙◌, ap, subst, arith}
use Rattle.std.proofs.Math.Nat.{mul-le-mul_right}
use Rattle.std.proofs.lemmas.Bool.{cases_lt, cases_order}
use Rattle.memo.specs.Entries.{Entry}
use Rattle.memo.specs.declared.found.Found.{Found}
use Rattle.memo.specs.Entries.{found_at, AreDifferent}
use Rattle.pegmatch.specs.CellOutcomes.{HasCell}
use Rattle.memo.proofs.FoundAtLemmas.{is_of, is_of_own}

pub data In : ℕ → List ℕ → Type 0 where
  now : {a b : ℕ} {xs : List ℕ} → a ≡ b → In a (b ∷ xs)
  on : {a b : ℕ} {xs : List ℕ} → In a xs → In a (b ∷ xs)

pub in_cases : {a b : ℕ} {xs : List ℕ} → In a (b ∷ xs) → (a ≡ b) ⊎ In a xs
in_cases (now same) = inl same
in_cases (on h) = inr h

abbrev pub Differ : List ℕ → Type 0
Differ [] = Unit {0}
Differ (x ∷ xs) = (In x xs → ⊥) × Differ xs

record Without (x : ℕ) (ys : List ℕ) : Type 0 where
  pub rest : List ℕ
  pub shorter : length ys ≡ suc (length rest)
  pub keeps : (a : ℕ) → (a ≡ x → ⊥) → In a ys → In a rest

list_without : (x : ℕ) (ys : List ℕ) → In x ys → Without x ys
list_without x ys (now {xs = xs} same) =
    record { rest = xs; shorter = refl; keeps = λ a differs h. left a differs same h }
  where
    left : {b : ℕ} (a : ℕ) → (a ≡ x → ⊥) → x ≡ b → In a (b ∷ xs) → In a xs
    left a differs same (now h) = absurd (differs (h ∙ sym same))
    left a differs same (on h) = h
list_without x ys (on {b = b} {xs = xs} h) =
    let w = list_without x xs h in
    record { rest = b ∷ w.rest; shorter = ap suc w.shorter; keeps = λ a differs g. kept w a differs g }
  where
    kept : (w : Without x xs) (a : ℕ) → (a ≡ x → ⊥) → In a (b ∷ xs) → In a (b ∷ w.rest)
    kept w a differs (now g) = now g
    kept w a differs (on g) = on (w.keeps a differs g)

-- different members of a list are no more than it has
pub at_most : (xs ys : List ℕ) → Differ xs → ((a : ℕ) → In a xs → In a ys) → length xs ≤ length ys
at_most [] ys different among = omega arith
at_most (x ∷ xs) ys different among =
    let w = list_without x ys (among x (now refl)) in
    let rest = at_most xs w.rest different.1 (λ a h. w.keeps a (λ same. different.0 (subst (λ v. In v xs) same h))
    (among a (on h))) in
    omega (arith, rest, w.shorter)

abbrev pub down : ℕ → List ℕ
down zero = []
down (suc n) = n ∷ down n

pub in_down : (n k : ℕ) → k < n → In k (down n)
in_down zero k lt = absurd (omega arith)
in_down (suc n) k lt = by (cases_lt k n) (λ less. in_down n k less)
  where
    by : ((k < n) ⊎ (n ≤ k)) → (k < n → In k (down n)) → In k (n ∷ down n)
    by (inl less) ih = on (ih less)
    by (inr le) ih = now (omega arith)

pub length_down : (n : ℕ) → length (down n) ≡ n
length_down zero = refl
length_down (suc n) = ap suc (length_down n)

-- a pair as a number
abbrev pub code : ℕ → ℕ → ℕ → ℕ
code w n p = n * w + p

pub code_same : (w n p m q : ℕ) → p < w → q < w → code w n p ≡ code w m q → (n ≡ m) × (p ≡ q)
code_same w n p m q lt less is = by (cases_order n m)
  where
    by : (n ≡ m) ⊎ ((n < m) ⊎ (m < n)) → (n ≡ m) × (p ≡ q)
    by (inl same) = let both : n * w ≡ m * w = ap (λ v. v * w) same in (same, omega arith)
    by (inr (inl low)) = let far : (n + 1) * w ≤ m * w = mul-le-mul_right w (omega arith) in absurd (omega arith)
    by (inr (inr low)) = let far : (m + 1) * w ≤ n * w = mul-le-mul_right w (omega arith) in absurd (omega arith)

pub code_below : (w n p b : ℕ) → n < b → p < w → code w n p < b * w
code_below w n p b lt less = let far : (n + 1) * w ≤ b * w = mul-le-mul_right w (omega arith) in omega arith

some_none : {f : Found} → Some f ≡ None → ⊥
some_none h = cc h

at_pair : (cells : List Entry) (n p m q : ℕ) (v : Option Found) → n ≡ m → p ≡ q → found_at cells m q ≡ v
    → found_at cells n p ≡ v
at_pair cells n p m q v is same h = rw (is, same) h

module _ (w : ℕ) where
  abbrev pub cell_codes : List Entry → List ℕ
  cell_codes [] = []
  cell_codes (c ∷ cells) = code w c.node c.position ∷ cell_codes cells

  pub length_cell_codes : (cells : List Entry) → length (cell_codes cells) ≡ length cells
  length_cell_codes [] = refl
  length_cell_codes (c ∷ cells) = ap suc (length_cell_codes cells)

  -- the cell of a number
  pub record CellOf (cells : List Entry) (a : ℕ) : Type 0 where
    pub node : ℕ
    pub position : ℕ
    pub has : HasCell cells node position
    pub is : a ≡ code w node position

  has_later : (c : Entry) (cells : List Entry) (n p : ℕ) → HasCell cells n p → HasCell (c ∷ cells) n p
  has_later c cells n p h = by (is_of c n p) h
    where
      by : (v : Bool) → HasCell cells n p → (f : Found) × ((if v then Some c.found else found_at cells n p) ≡ Some f)
      by true g = (c.found, refl)
      by false g = g

  pub cell_of : {a : ℕ} (cells : List Entry) → In a (cell_codes cells) → CellOf cells a
  cell_of [] h = elim h [ ]
  cell_of (c ∷ cells) (now is) =
      record { node = c.node; position = c.position; has = (c.found, rw (is_of_own c) refl); is = is }
  cell_of (c ∷ cells) (on h) = let l = cell_of cells h in
      record { node = l.node; position = l.position; has = has_later c cells l.node l.position l.has; is = l.is }

  -- a pair without a cell is not among the cells
  pub not_among : (cells : List Entry) (n p : ℕ) → ((m q : ℕ) → HasCell cells m q → q < w) → p < w
      → found_at cells n p ≡ None → In (code w n p) (cell_codes cells) → ⊥
  not_among cells n p low lt none h =
      let c = cell_of cells h in
      let same = code_same w n p c.node c.position lt (low c.node c.position c.has) c.is in
      some_none (sym (at_pair cells n p c.node c.position (Some c.has.0) same.0 same.1 c.has.1) ∙ none)

  pub cells_differ : (cells : List Entry) → ((m q : ℕ) → HasCell cells m q → q < w) → AreDifferent cells
      → Differ (cell_codes cells)
  cells_differ [] low d = tt
  cells_differ (c ∷ cells) low d =
      let later = λ (m q : ℕ) (h : HasCell cells m q). low m q (has_later c cells m q h) in (
        not_among cells c.node c.position later (low c.node c.position (c.found, rw (is_of_own c) refl)) d.0,
        cells_differ cells later d.1,
      )

-- numbers below a bound that differ are no more than it
pub at_most_below : (ks : List ℕ) (b : ℕ) → Differ ks → ((a : ℕ) → In a ks → a < b) → length ks ≤ b
at_most_below ks b d low = let h = at_most ks (down b) d (λ a i. in_down b a (low a i)) in
    omega (arith, length_down b, h)

-- cells are no more than nodes at positions
pub cells_at_most : (cells : List Entry) (n k : ℕ) → AreDifferent cells
    → ((m q : ℕ) → HasCell cells m q → (m < n) × (q ≤ k)) → length cells ≤ n * (k + 1)
cells_at_most cells n k d low =
    let codes = cells_differ (k + 1) cells (λ m q h. let l = low m q h in omega (arith, l.1)) d in
    let most = at_most_below (cell_codes (k + 1) cells) (n * (k + 1)) codes
    (λ a i.
    let c = cell_of (k + 1) cells i in
    let l = low c.node c.position c.has in
    rw c.is (code_below (k + 1) c.node c.position n l.0 (omega (arith, l.1)))) in
    omega (arith, most, length_cell_codes (k + 1) cells)

-- where a pair has a cell there is one
pub some_cell : (cells : List Entry) (n p : ℕ) → HasCell cells n p → 1 ≤ length cells
some_cell [] n p h = absurd (cc h.1)
some_cell (c ∷ cells) n p h = omega arith
