-- A list of different items is no longer than dotted rules and origins allow.
-- Serves: items_at_most, judge, lower_viable.
use Rattle.std.proofs.Common.{◌≡◌, ℕ, zero, suc, ◌+◌, ◌*◌, ◌<◌, ◌≤◌, List, [], ◌∷◌, ◌++◌, length, refl, sym, ◌∙◌, ap}
use Rattle.std.proofs.Common.{subst, arith, length-append, suc-mul, ◌⊎◌, inl, inr}
use Rattle.std.proofs.lemmas.Bool.{cases_lt}
use Rattle.std.specs.Prelude.{slice_get, Some}
use Rattle.flatgrammar.specs.Flat.{Node, Flat, Dot, at, Set, Begins, Reading, Calling, Starts, starts, name_starts}
use Rattle.flatgrammar.specs.Flat.{reads, calls}
use Rattle.flatgrammar.specs.Holds.{Holds, begins, called, has_read, returned}
use Rattle.flatgrammar.proofs.SliceGetLemmas.{get_below}
use Rattle.flatgrammar.specs.Positions.{width, positions, In, now, on, AreDifferent}

-- the list without one member
record Without {A : Type 0} (x : A) (ys : List A) : Type 0 where
  rest : List A
  shorter : length ys ≡ suc (length rest)
  keeps : (a : A) → (a ≡ x → ⊥) → In a ys → In a rest

list_without : {A : Type 0} (x : A) (ys : List A) → In x ys → Without x ys
list_without x [] h = elim h [ ]
list_without x (y ∷ ys) (now is) = record { rest = ys; shorter = refl; keeps = λ a differs h. kept a differs h }
  where
    kept : (a : _) → (a ≡ x → ⊥) → In a (y ∷ ys) → In a ys
    kept a differs (now same) = absurd (differs (same ∙ sym is))
    kept a differs (on h) = h
list_without x (y ∷ ys) (on h) =
    let w = list_without x ys h in
    record { rest = y ∷ w.rest; shorter = ap suc w.shorter; keeps = λ a differs g. kept w a differs g }
  where
    kept : (w : Without x ys) (a : _) → (a ≡ x → ⊥) → In a (y ∷ ys) → In a (y ∷ w.rest)
    kept w a differs (now same) = now same
    kept w a differs (on g) = on (w.keeps a differs g)

-- different members of a list are no more than it has
pub at_most : {A : Type 0} (xs ys : List A) → AreDifferent xs → ((a : A) → In a xs → In a ys) → length xs ≤ length ys
at_most [] ys different among = omega arith
at_most (x ∷ xs) ys different among =
    let w = list_without x ys (among x (now refl)) in
    let rest = at_most xs w.rest different.1 (λ a h. w.keeps a (λ same. different.0 (subst (λ v. In v xs) same h))
    (among a (on h))) in
    omega (arith, rest, w.shorter)

in_left : {A : Type 0} {a : A} {xs : List A} (ys : List A) → In a xs → In a (xs ++ ys)
in_left ys (now h) = now h
in_left ys (on h) = on (in_left ys h)

in_right : {A : Type 0} {a : A} (xs : List A) {ys : List A} → In a ys → In a (xs ++ ys)
in_right [] h = h
in_right (x ∷ xs) h = on (in_right xs h)

-- f at each number below n
abbrev pub every : {A : Type 0} → ℕ → (ℕ → A) → List A
every zero f = []
every (suc n) f = f n ∷ every n f

pub in_every : {A : Type 0} (n k : ℕ) (f : ℕ → A) → k < n → In (f k) (every n f)
in_every zero k f lt = absurd (omega arith)
in_every (suc n) k f lt = by (cases_lt k n) (λ less. in_every n k f less)
  where
    by : ((k < n) ⊎ (n ≤ k)) → (k < n → In (f k) (every n f)) → In (f k) (f n ∷ every n f)
    by (inl less) ih = on (ih less)
    by (inr le) ih = let same : k ≡ n = omega arith in now (ap f same)

pub length_every : {A : Type 0} (n : ℕ) (f : ℕ → A) → length (every n f) ≡ n
length_every zero f = refl
length_every (suc n) f = ap suc (length_every n f)

abbrev positions_from : ℕ → List Node → List Dot
positions_from s [] = []
positions_from s (node ∷ nodes) = every (width node) (λ k. at s k) ++ positions_from (suc s) nodes

length_positions : (s : ℕ) (nodes : List Node) → length (positions_from s nodes) ≡ positions nodes
length_positions s [] = refl
length_positions s (node ∷ nodes) =
    omega (
      arith,
      length-append (every (width node) (λ k. at s k)) (positions_from (suc s) nodes),
      length_every (width node) (λ k. at s k),
      length_positions (suc s) nodes,
    )

in_positions : (s i k : ℕ) (nodes : List Node) {node : Node} → slice_get nodes i ≡ Some node → k < width node
    → In (at (s + i) k) (positions_from s nodes)
in_positions s i k [] is lt = absurd cc
in_positions s zero k (n ∷ nodes) {node = node} is lt =
    let same : node ≡ n = cc in let zero_is : s ≡ s + 0 = omega arith in
    in_left (positions_from (suc s) nodes) (subst (λ v. In (at v k) (every (width n) (λ u. at s u))) zero_is
    (in_every (width n) k (λ u. at s u) (subst (λ v. k < width v) same lt)))
in_positions s (suc i) k (n ∷ nodes) is lt =
    let one : suc s + i ≡ s + suc i = omega arith in
    in_right (every (width n) (λ u. at s u)) (subst (λ v. In (at v k) (positions_from (suc s) nodes)) one
    (in_positions (suc s) i k nodes is lt))

abbrev pairs : {A : Type 0} → ℕ → List A → List (A × ℕ)
pairs n [] = []
pairs n (x ∷ xs) = every n (λ i. (x, i)) ++ pairs n xs

length_pairs : {A : Type 0} (n : ℕ) (xs : List A) → length (pairs n xs) ≡ length xs * n
length_pairs n [] = omega arith
length_pairs {A = A} n (x ∷ xs) =
    let f : ℕ → A × ℕ = λ i. (x, i) in
    let part = length-append (every n f) (pairs n xs) in
    let one = length_every n f in
    let rest = length_pairs n xs in
    let split = suc-mul (length xs) n in
    let more : suc (length xs) * n ≡ n + length xs * n = omega (arith, split) in
    part ∙ (ap (λ v. v + length (pairs n xs)) one ∙ (ap (λ v. n + v) rest ∙ sym more))

in_pairs : {A : Type 0} (n i : ℕ) (x : A) (xs : List A) → i < n → In x xs → In (x, i) (pairs n xs)
in_pairs n i x [] lt h = elim h [ ]
in_pairs {A = A} n i x (y ∷ xs) lt (now is) = in_left (pairs n xs)
    (subst (λ v. In {A = A × ℕ} (v, i) (every n (λ u. (y, u)))) (sym is) (in_every n i (λ u. (y, u)) lt))
in_pairs n i x (y ∷ xs) lt (on h) = in_right (every n (λ u. (y, u))) (in_pairs n i x xs lt h)

module _ (flat : Flat) where
  -- a dotted rule of some node
  abbrev pub IsPosition : Dot → Type 0
  IsPosition (at s k) = (node : Node) × (slice_get flat.nodes s ≡ Some node) × (k < width node)

  begins_within : {node : Node} {k : ℕ} → Begins node k → k < width node
  begins_within Begins.letters = omega arith
  begins_within Begins.concat = omega arith
  begins_within (Begins.alt lt) = omega arith
  begins_within Begins.rep = omega arith
  begins_within Begins.iterations = omega arith
  begins_within Begins.opt = omega arith
  begins_within Begins.opt_empty = omega arith

  reading_within : {node : Node} {k l : ℕ} {set : Set} → Reading node k set l → l < width node
  reading_within (Reading.letter {sets = sets} {k = k} is) = omega (arith, get_below sets k is)

  pub calling_within : {node : Node} {k l t : ℕ} → Calling node k t l → l < width node
  calling_within (Calling.member {ms = ms} {k = k} is) = omega (arith, get_below ms k is)
  calling_within (Calling.alternative {ms = ms} {k = k} is) = omega (arith, get_below ms k is)
  calling_within (Calling.iteration lt) = omega arith
  calling_within Calling.iteration_uncounted = omega arith
  calling_within (Calling.takes lt) = omega arith
  calling_within Calling.takes_uncounted = omega arith
  calling_within Calling.operand = omega arith

  starts_position : {s : ℕ} {p : Dot} → Starts flat s p → IsPosition p
  starts_position (starts {node = node} is b) = (node, is, begins_within b)
  starts_position (name_starts is at_r st) = starts_position st

  pub holds_position : {x : List ℕ} {i j : ℕ} {p : Dot} → Holds flat x j p i → IsPosition p
  holds_position (begins st) = starts_position st
  holds_position (called h c st) = starts_position st
  holds_position (has_read h (reads {node = node} is r) get lies) = (node, is, reading_within r)
  holds_position (returned h e g (calls {node = node} is c) t) = (node, is, calling_within c)

  pub holds_origin : {x : List ℕ} {i j : ℕ} {p : Dot} → Holds flat x j p i → i ≤ j
  holds_origin (begins st) = omega arith
  holds_origin (called h c st) = omega arith
  holds_origin (has_read h r get lies) = omega (arith, holds_origin h)
  holds_origin (returned h e g c t) = omega (arith, holds_origin h, holds_origin g)

  position_in : (p : Dot) → IsPosition p → In p (positions_from 0 flat.nodes)
  position_in (at s k) h =
      let zero_is : 0 + s ≡ s = omega arith in
      subst (λ v. In (at v k) (positions_from 0 flat.nodes)) zero_is (in_positions 0 s k flat.nodes h.1 h.2)

  -- a list of different items of set j
  pub items_at_most : (x : List ℕ) (j : ℕ) (set : List (Dot × ℕ)) → AreDifferent set
      → ((p : Dot) (i : ℕ) → In (p, i) set → Holds flat x j p i) →
      length set ≤ positions flat.nodes * (j + 1)
  items_at_most x j set different sound =
      let among = at_most set (pairs (j + 1) (positions_from 0 flat.nodes)) different
      (λ a h. let g = sound a.0 a.1 h in let lt : a.1 < j + 1 = omega (arith, holds_origin g) in
      in_pairs (j + 1) a.1 a.0 (positions_from 0 flat.nodes) lt (position_in a.0 (holds_position g))) in
      let size = length_pairs (j + 1) (positions_from 0 flat.nodes) in
      rw (← length_positions 0 flat.nodes) (rw (← size) among)
