-- The test says which names are one slip apart.
-- Serves: push_meant; explain_peg_note, one_note_explanation of pegexplain; one_statement_of_abnf of abnfrun
use Rattle.std.proofs.Common.{◌≡◌, ℕ, zero, suc, ◌+◌, ◌<◌, ◌≤◌, ◌==◌, ◌&&◌, ◌||◌, Bool, true, false, List, [], ◌∷◌}
use Rattle.std.proofs.Common.{◌++◌, length, take, min, Option, Some, None, refl, sym, ap, subst, ◌∙◌}
use Rattle.std.proofs.Common.{arith, ⊎_elim, if◌then◌else◌, eq-eqb, le-leb}
use borrow.Author.Tests.{eqb-true, leb-true}
use Rattle.std.proofs.lemmas.Bool.{and_from, and_parts, cases_lt, cases_order}
use Rattle.std.proofs.lemmas.List.{length-map, length-take}
use Rattle.std.proofs.lemmas.Option.{slice_get_within}
use Rattle.std.specs.Char.{to_ascii_lowercase}
use Rattle.std.specs.Prelude.{bytes_eq, nat_le, slice_get}
use Rattle.std.specs.Cmp.Lexicographic.{same_text}
use Rattle.std.specs.Str.{str_to_ascii_lowercase}
use Rattle.diagnostics.specs.EditTests.{is_edit_at, has_one_at_most, is_swapped, is_within_one}
use Rattle.diagnostics.specs.NearNames.{AreNear, IsFirstNear, IsMeant, IsMeantIf, WithinOneEdit, deleted, inserted}
use Rattle.diagnostics.specs.NearNames.{meant_reported, no_edit, replaced, swapped}

-- one item more in front of both
in-front : (x : ℕ) {a b : List ℕ} → WithinOneEdit a b → WithinOneEdit (x ∷ a) (x ∷ b)
in-front x no_edit = no_edit
in-front x (inserted front rest b) = inserted (x ∷ front) rest b
in-front x (deleted front rest b) = deleted (x ∷ front) rest b
in-front x (replaced front rest b c) = replaced (x ∷ front) rest b c
in-front x (swapped front rest b c) = swapped (x ∷ front) rest b c

or-cases : {P : Type 0} (a b : Bool) → a || b ≡ true → (a ≡ true → P) → (b ≡ true → P) → P
or-cases true b h f g = f refl
or-cases false b h f g = g h

or-left : (a b : Bool) → a ≡ true → a || b ≡ true
or-left true b h = refl
or-left false b h = absurd (cc h)

or-right : (a b : Bool) → b ≡ true → a || b ≡ true
or-right true b h = refl
or-right false b h = h

same-bytes : (a b : List ℕ) → bytes_eq a b ≡ true → a ≡ b
same-bytes a b h = same_text a b (sym h)

short-inserts : (ys : List ℕ) → has_one_at_most ys ≡ true → WithinOneEdit [] ys
short-inserts [] h = no_edit
short-inserts (y ∷ []) h = inserted [] [] y
short-inserts (y ∷ v ∷ ys) h = absurd (cc h)

short-deletes : (xs : List ℕ) → has_one_at_most xs ≡ true → WithinOneEdit xs []
short-deletes [] h = no_edit
short-deletes (x ∷ []) h = deleted [] [] x
short-deletes (x ∷ v ∷ xs) h = absurd (cc h)

swap-edits : (x y : ℕ) (xs ys : List ℕ) → is_swapped x xs y ys ≡ true → WithinOneEdit (x ∷ xs) (y ∷ ys)
swap-edits x y [] ys h = absurd (cc h)
swap-edits x y (v ∷ xs) [] h = absurd (cc h)
swap-edits x y (v ∷ xs) (w ∷ ys) h =
    let p = and_parts (x == w) ((v == y) && bytes_eq xs ys) h in
    let q = and_parts (v == y) (bytes_eq xs ys) p.1 in
    let e : w ≡ x = sym (eqb-true x w p.0) in
    let f : y ≡ v = sym (eqb-true v y q.0) in
    let g : ys ≡ xs = sym (same-bytes xs ys q.1) in
    rw (e, f, g) (swapped [] xs x v)

edit-edits : (a b : List ℕ) → is_edit_at a b ≡ true → WithinOneEdit a b
edit-edits [] ys h = short-inserts ys h
edit-edits (x ∷ xs) [] h = short-deletes (x ∷ xs) h
edit-edits (x ∷ xs) (y ∷ ys) h = or-cases (bytes_eq xs ys) _ h
    (λ same. (let e : ys ≡ xs = sym (same-bytes xs ys same) in rw e (replaced [] xs x y)))
    (λ more. or-cases (bytes_eq (x ∷ xs) ys) _ more
    (λ same. (let e : ys ≡ x ∷ xs = sym (same-bytes (x ∷ xs) ys same) in rw e (inserted [] (x ∷ xs) y)))
    (λ rest. or-cases (bytes_eq xs (y ∷ ys)) _ rest
    (λ same. (let e : xs ≡ y ∷ ys = same-bytes xs (y ∷ ys) same in rw e (deleted [] (y ∷ ys) x)))
    (λ last. swap-edits x y xs ys last)))

step-edits : (x y : ℕ) (xs ys : List ℕ) (v : Bool) → (x == y) ≡ v
    → (is_within_one xs ys ≡ true → WithinOneEdit xs ys)
    → (if v then is_within_one xs ys else is_edit_at (x ∷ xs) (y ∷ ys)) ≡ true → WithinOneEdit (x ∷ xs) (y ∷ ys)
step-edits x y xs ys true e ih h = (let same : y ≡ x = sym (eqb-true x y e) in rw same (in-front x (ih h)))
step-edits x y xs ys false e ih h = edit-edits (x ∷ xs) (y ∷ ys) h

pub test-edits : (a b : List ℕ) → is_within_one a b ≡ true → WithinOneEdit a b
test-edits [] ys h = short-inserts ys h
test-edits (x ∷ xs) [] h = short-deletes (x ∷ xs) h
test-edits (x ∷ xs) (y ∷ ys) h = step-edits x y xs ys (x == y) refl (test-edits xs ys) h

-- where the test says yes
bytes-same : (a : List ℕ) → bytes_eq a a ≡ true
bytes-same [] = refl
bytes-same (x ∷ xs) = and_from (x == x) (bytes_eq xs xs) (eq-eqb x x refl) (bytes-same xs)

-- one item more in front of both, the same or not, where the lists from there on are one
either-branch : (v : Bool) (a b : Bool) → (v ≡ true → a ≡ true) → (v ≡ false → b ≡ true) → (if v then a else b) ≡ true
either-branch true a b f g = f refl
either-branch false a b f g = g refl

same-tests : (a : List ℕ) → is_within_one a a ≡ true
same-tests [] = refl
same-tests (x ∷ xs) = either-branch (x == x) (is_within_one xs xs) (is_edit_at (x ∷ xs) (x ∷ xs)) (λ e. same-tests xs)
    (λ e. or-left (bytes_eq xs xs) _ (bytes-same xs))

insert-tests : (b : ℕ) (rest : List ℕ) → is_within_one rest (b ∷ rest) ≡ true
insert-tests b [] = refl
insert-tests b (r ∷ rs) = either-branch (r == b) (is_within_one rs (r ∷ rs)) (is_edit_at (r ∷ rs) (b ∷ r ∷ rs))
    (λ e. insert-tests r rs)
    (λ e. or-right (bytes_eq rs (r ∷ rs)) _ (or-left (bytes_eq (r ∷ rs) (r ∷ rs)) _ (bytes-same (r ∷ rs))))

delete-tests : (b : ℕ) (rest : List ℕ) → is_within_one (b ∷ rest) rest ≡ true
delete-tests b [] = refl
delete-tests b (r ∷ rs) = either-branch (b == r) (is_within_one (r ∷ rs) rs) (is_edit_at (b ∷ r ∷ rs) (r ∷ rs))
    (λ e. delete-tests r rs)
    (λ e. or-right (bytes_eq (r ∷ rs) rs) _ (or-right (bytes_eq (b ∷ r ∷ rs) rs) _
    (or-left (bytes_eq (r ∷ rs) (r ∷ rs)) _ (bytes-same (r ∷ rs)))))

replace-tests : (b c : ℕ) (rest : List ℕ) → is_within_one (b ∷ rest) (c ∷ rest) ≡ true
replace-tests b c rest = either-branch (b == c) (is_within_one rest rest) (is_edit_at (b ∷ rest) (c ∷ rest))
    (λ e. same-tests rest) (λ e. or-left (bytes_eq rest rest) _ (bytes-same rest))

swap-tests : (b c : ℕ) (rest : List ℕ) → is_within_one (b ∷ c ∷ rest) (c ∷ b ∷ rest) ≡ true
swap-tests b c rest = either-branch (b == c) (is_within_one (c ∷ rest) (b ∷ rest))
    (is_edit_at (b ∷ c ∷ rest) (c ∷ b ∷ rest)) (λ e. replace-tests c b rest)
    (λ e. or-right (bytes_eq (c ∷ rest) (b ∷ rest)) _ (or-right (bytes_eq (b ∷ c ∷ rest) (b ∷ rest)) _
    (or-right (bytes_eq (c ∷ rest) (c ∷ b ∷ rest)) _
    (and_from (b == b) ((c == c) && bytes_eq rest rest) (eq-eqb b b refl)
    (and_from (c == c) (bytes_eq rest rest) (eq-eqb c c refl) (bytes-same rest))))))

-- items in front of both
fronts-test : (front a b : List ℕ) → is_within_one a b ≡ true → is_within_one (front ++ a) (front ++ b) ≡ true
fronts-test [] a b h = h
fronts-test (x ∷ front) a b h = either-branch (x == x) (is_within_one (front ++ a) (front ++ b))
    (is_edit_at (x ∷ front ++ a) (x ∷ front ++ b)) (λ e. fronts-test front a b h)
    (λ e. (let yes : (x == x) ≡ true = eq-eqb x x refl in let both : true ≡ false = sym yes ∙ e in absurd (cc both)))

pub edits-test : {a b : List ℕ} → WithinOneEdit a b → is_within_one a b ≡ true
edits-test (no_edit {a = a}) = same-tests a
edits-test (inserted front rest b) = fronts-test front rest (b ∷ rest) (insert-tests b rest)
edits-test (deleted front rest b) = fronts-test front (b ∷ rest) rest (delete-tests b rest)
edits-test (replaced front rest b c) = fronts-test front (b ∷ rest) (c ∷ rest) (replace-tests b c rest)
edits-test (swapped front rest b c) =
    fronts-test front (b ∷ c ∷ rest) (c ∷ b ∷ rest) (swap-tests b c rest)

-- the first name that is near is one
first-one : (name : List ℕ) (names : List (List ℕ)) (a b : List ℕ) → IsFirstNear name names a
    → IsFirstNear name names b → a ≡ b
first-one name names a b g h = ⊎_elim
    (λ (same : g.position ≡ h.position).
    let at : Some a ≡ Some b = sym g.there ∙ (ap (slice_get names) same ∙ h.there) in
    cc at)
    (λ less. ⊎_elim (λ lt. absurd (h.first g.position a lt g.there g.near))
    (λ lt. absurd (g.first h.position b lt h.there h.near)) less)
    (cases_order g.position h.position)

pub meant-one : (name : List ℕ) (names : List (List ℕ)) (a b : Option (List ℕ)) → IsMeant name names a
    → IsMeant name names b → a ≡ b
meant-one name names None None g h = refl
meant-one name names None (Some b) g h = absurd (g h.position b h.there h.near)
meant-one name names (Some a) None g h = absurd (h g.position a g.there g.near)
meant-one name names (Some a) (Some b) g h = ap Some (first-one name names a b g h)

pub meant-line-one : (early : Bool) (names : List (List ℕ)) (name a b : List ℕ) → IsMeantIf early names name a
    → IsMeantIf early names name b → a ≡ b
meant-line-one false names name a b g h = g ∙ sym h
meant-line-one true names name a b g h =
    g.2 ∙ ap meant_reported (meant-one name names g.0 h.0 g.1 h.1) ∙ sym h.2

-- the test says which names are near
lower-length : (a : List ℕ) → length (str_to_ascii_lowercase a) ≡ length a
lower-length a = length-map a to_ascii_lowercase

pub near-is : (a b : List ℕ) → (nat_le 3 (length (str_to_ascii_lowercase a)) && (nat_le 3 (length b)
    && is_within_one (str_to_ascii_lowercase a) (str_to_ascii_lowercase b))) ≡ true → AreNear a b
near-is a b h =
    let p = and_parts (nat_le 3 (length (str_to_ascii_lowercase a))) _ h in
    let q = and_parts (nat_le 3 (length b)) _ p.1 in
    record {
      long = subst (λ (n : ℕ). 3 ≤ n) (lower-length a) (leb-true 3 _ p.0);
      other_long = leb-true 3 _ q.0;
      edit = test-edits _ _ q.1;
    }

pub is-near : (a b : List ℕ) → AreNear a b → (nat_le 3 (length (str_to_ascii_lowercase a)) && (nat_le 3 (length b)
    && is_within_one (str_to_ascii_lowercase a) (str_to_ascii_lowercase b))) ≡ true
is-near a b n = and_from _ _ (le-leb 3 _ (subst (λ (n : ℕ). 3 ≤ n) (sym (lower-length a)) n.long))
    (and_from _ _ (le-leb 3 _ n.other_long) (edits-test n.edit))

-- what the code's test says of a name
module _ (name d lower : List ℕ) (near : Bool) (is_lower : lower ≡ str_to_ascii_lowercase name)
    (is : near ≡ (nat_le 3 (length lower) && (nat_le 3 (length d) && is_within_one lower (str_to_ascii_lowercase d))))
  where
    same-test : (nat_le 3 (length (str_to_ascii_lowercase name)) && (nat_le 3 (length d)
        && is_within_one (str_to_ascii_lowercase name) (str_to_ascii_lowercase d))) ≡ near
    same-test = sym (is ∙ ap (λ (z : List ℕ). nat_le 3 (length z) && (nat_le 3 (length d)
        && is_within_one z (str_to_ascii_lowercase d))) is_lower)

    pub near-by : near ≡ true → AreNear name d
    near-by holds = near-is name d (same-test ∙ holds)

    pub not-near-by : near ≡ false → AreNear name d → ⊥
    not-near-by never n =
        let both : true ≡ false = sym (is-near name d n) ∙ same-test ∙ never in
        absurd (cc both)

-- one name more that is not near
taken-at : {A : Type 0} (n : ℕ) (xs : List A) (i : ℕ) → i < n → slice_get (take n xs) i ≡ slice_get xs i
taken-at zero xs i lt = absurd (omega (arith, lt))
taken-at (suc n) [] i lt = refl
taken-at (suc n) (x ∷ xs) zero lt = refl
taken-at (suc n) (x ∷ xs) (suc i) lt = taken-at n xs i (omega (arith, lt))

abbrev pub NoneNear : List ℕ → List (List ℕ) → ℕ → Type 0
NoneNear name names n = (k : ℕ) (other : List ℕ) → k < n → slice_get names k ≡ Some other → AreNear name other → ⊥

pub none-more : (name : List ℕ) (names : List (List ℕ)) (count i : ℕ) (d : List ℕ) → i < count
    → slice_get names i ≡ Some d → (AreNear name d → ⊥) → NoneNear name (take count names) i
    → NoneNear name (take count names) (i + 1)
none-more name names count i d lt at bars before k other low there near = ⊎_elim
    (λ less. before k other less there near)
    (λ most.
    let here : k ≡ i = omega (arith, low, most) in
    let same : Some other ≡ Some d = sym there ∙ (ap (slice_get (take count names)) here
    ∙ (taken-at count names i lt ∙ at)) in
    let e : other ≡ d = cc same in
    bars (subst (λ (v : List ℕ). AreNear name v) e near))
    (cases_lt k i)

pub none-near : (name : List ℕ) (names : List (List ℕ)) (count n : ℕ) → n ≡ min (length names) count
    → NoneNear name (take count names) n → IsMeant name (take count names) None
none-near name names count n is none k other there near =
    let lt = slice_get_within (take count names) k other there in
    none k other (omega (arith, lt, is, length-take count names)) there near

pub some-near : (name : List ℕ) (names : List (List ℕ)) (count i : ℕ) (d : List ℕ) → i < count
    → slice_get names i ≡ Some d → AreNear name d → NoneNear name (take count names) i
    → IsMeant name (take count names) (Some d)
some-near name names count i d lt at near none = record {
  position = i;
  there = taken-at count names i lt ∙ at;
  near = near;
  first = none;
}
