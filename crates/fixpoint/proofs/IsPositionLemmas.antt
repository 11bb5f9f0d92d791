-- Where a list has a name first.
-- Serves: add_name, add_use, names_of_rules, check_peg, check_abnf (notes, sound)
use Rattle.std.proofs.Common.{◌≡◌, ℕ, zero, suc, ◌<◌, ◌==◌, inl, inr, Bool, true, false, ◌||◌, cond, not, nat_lt, List}
use Rattle.std.proofs.Common.{[], ◌∷◌, ◌++◌, length, get_or, position, Some, None, refl, sym, ◌∙◌, ap, arith}
use Rattle.std.specs.List.{list_any, prefix_len}
use Rattle.std.proofs.lemmas.Bool.{cases_Bool}
use Rattle.std.proofs.lemmas.Bool.Decides.{eqb_tells, nat_tests}
use Rattle.std.proofs.lemmas.List.Quantifiers.{position-Some}
use Rattle.std.proofs.lemmas.Slice.Eq.{bytes_eq-Decides}
use Rattle.std.specs.Str.{bytes_eq}
use Rattle.ruletable.specs.Rules.{key_of, same_name}
use Rattle.ruletable.specs.declared.table.NameCase.{NameCase}
use Rattle.fixpoint.specs.FirstUses.{is_among}
use Rattle.fixpoint.specs.NameUses.{IsPosition, here, there}

-- an element passes exactly where there is a first one that does
any-counted : {X : Type 0} (p : X → Bool) (xs : List X) → list_any p xs ≡ nat_lt (prefix_len (λ x. not (p x)) xs)
    (length xs)
any-counted p [] = grind (arith, nat_tests)
any-counted p (x ∷ xs) = elim (cases_Bool (p x)) [
  | inl e ↦ rw e (grind (arith, nat_tests))
  | inr e ↦ rw e (any-counted p xs ∙ grind (arith, nat_tests))
]

pub position-none : {X : Type 0} (p : X → Bool) (xs : List X) → position p xs ≡ None → list_any p xs ≡ false
position-none p xs h = any-counted p xs ∙ by (nat_lt (prefix_len (λ x. not (p x)) xs) (length xs)) h
  where
    by : (b : Bool) → cond b (Some (prefix_len (λ x. not (p x)) xs)) None ≡ None → b ≡ false
    by true e = absurd (cc e)
    by false e = refl

or-neither : (b c : Bool) → (b || c) ≡ false → (b ≡ false) × (c ≡ false)
or-neither true c is = absurd (cc is)
or-neither false c is = (refl, is)

or_else : (b c : Bool) → c ≡ true → (b || c) ≡ true
or_else true c is = refl
or_else false c is = is

unequal-false : (i j : ℕ) → (i ≡ j → ⊥) → (i == j) ≡ false
unequal-false i j differ = elim (eqb_tells i j) [ inl e ↦ absurd (differ e.1) | inr e ↦ e.0 ]

one_less : (i j : ℕ) → (suc i == suc j) ≡ (i == j)
one_less i j = elim (eqb_tells i j) [
  | inl e ↦ (elim (eqb_tells (suc i) (suc j)) [ inl more ↦ more.0 | inr other ↦ absurd (other.1 (ap suc e.1)) ])
      ∙ sym e.0
  | inr e ↦ unequal-false (suc i) (suc j) (λ is. e.1 (omega (arith, is))) ∙ sym e.0
]

module _ (case : NameCase) where
  -- names that compare alike
  pub own_name : (name : List ℕ) → same_name case name name ≡ true
  own_name name = (bytes_eq-Decides (key_of case name) (key_of case name)).1 refl

  as_same : (a b c : List ℕ) → same_name case a b ≡ true → same_name case c a ≡ same_name case c b
  as_same a b c is = ap (bytes_eq (key_of case c)) ((bytes_eq-Decides (key_of case a) (key_of case b)).0 is)

  same_name-turned : (a b : List ℕ) → same_name case a b ≡ true → same_name case b a ≡ true
  same_name-turned a b is = (bytes_eq-Decides (key_of case b) (key_of case a)).1
      (sym ((bytes_eq-Decides (key_of case a) (key_of case b)).0 is))

  either_way : (a b : List ℕ) → same_name case a b ≡ same_name case b a
  either_way a b = elim (cases_Bool (same_name case a b)) [
    | inl e ↦ e ∙ sym (same_name-turned a b e)
    | inr e ↦ elim (cases_Bool (same_name case b a)) [
      | inl back ↦ same_name-turned b a back ∙ sym back
      | inr other ↦ e
          ∙ sym other
    ]
  ]

  -- positions
  pub position_append : {name : List ℕ} {xs : List (List ℕ)} {i : ℕ} (ys : List (List ℕ)) → IsPosition case name xs i
      → IsPosition case name (xs ++ ys) i
  position_append ys (here is) = here is
  position_append ys (there other p) = there other (position_append ys p)

  pub position_below : {name : List ℕ} {xs : List (List ℕ)} {i : ℕ} → IsPosition case name xs i → i < length xs
  position_below (here is) = omega arith
  position_below (there other p) = let lt = position_below p in omega (arith, lt)

  pub position_among : {name : List ℕ} {xs : List (List ℕ)} {i : ℕ} → IsPosition case name xs i → is_among case xs name
      ≡ true
  position_among {name = name} (here {first = first} {names = names} is) = ap (λ b. b || is_among case names name) is
  position_among {name = name} (there {first = first} {names = names} other p) =
      or_else (same_name case name first) (is_among case names name) (position_among p)

  pub position_last : (name : List ℕ) (xs : List (List ℕ)) → is_among case xs name ≡ false
      → IsPosition case name (xs ++ name ∷ []) (length xs)
  position_last name [] none = here (own_name name)
  position_last name (x ∷ xs) none = let two = or-neither (same_name case name x) (is_among case xs name) none in
      there two.0 (position_last name xs two.1)

  position_by : (name : List ℕ) (xs : List (List ℕ)) (i : ℕ) → i < length xs → same_name case name (get_or xs i [])
      ≡ true →
      ((j : ℕ) → j < i → same_name case name (get_or xs j []) ≡ false) → IsPosition case name xs i
  position_by name [] i lt is before = absurd (omega (arith, lt))
  position_by name (x ∷ xs) zero lt is before = here is
  position_by name (x ∷ xs) (suc i) lt is before = there (before 0 (omega arith))
      (position_by name xs i (omega (arith, lt)) is (λ j less. before (suc j) (omega (arith, less))))

  pub position_of : (name : List ℕ) (xs : List (List ℕ)) (i : ℕ) → position (same_name case name) xs ≡ Some i
      → IsPosition case name xs i
  position_of name xs i h = let p = position-Some (same_name case name) xs i [] h in position_by name xs i p.0 p.1 p.2

  -- names that compare alike have one position, and others have not
  pub same_position : (a b : List ℕ) {xs : List (List ℕ)} {i j : ℕ} → IsPosition case a xs i → IsPosition case b xs j
      → (i == j) ≡ same_name case b a
  same_position a b (here {first = first} is) (here other) = sym (as_same a first b is ∙ other)
  same_position a b (here {first = first} is) (there {i = j} other p) = unequal-false 0 (suc j) (λ e. omega (arith, e))
      ∙ sym (as_same a first b is ∙ other)
  same_position a b (there {first = first} {i = i} other p) (here is) = unequal-false (suc i) 0 (λ e. omega (arith, e))
      ∙ sym (either_way b a ∙ as_same b first a is ∙ other)
  same_position a b (there {i = i} other p) (there {i = j} unlike q) = one_less i j ∙ same_position a b p q
