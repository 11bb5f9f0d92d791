-- Lists of numbers by name, one number more; and what has the positions of what passes.
-- Serves: positions_of, explain_note, mention_lines, add_number, numbers_of; find_fates, find_order of abnftexts
use Rattle.std.proofs.Common.{◌≡◌, ℕ, zero, suc, ◌+◌, ◌<◌, Bool, true, false, cond, Option, Some, None, List, [], ◌∷◌}
use Rattle.std.proofs.Common.{◌++◌, length, map, get_or, take, position, refl, sym, ap, ◌∙◌, arith, append_assoc}
use Rattle.std.proofs.Common.{append-nil, Vec, Global, nat_lt, if◌then◌else◌, add-one}
use Rattle.std.specs.Borrow.{Bor}
use Rattle.std.specs.Prelude.{slice_get, bytes_eq, option_map, option_to_list}
use Rattle.std.specs.Slice.{IsItemAt}
use Rattle.std.specs.List.{filter, find, position_or_len}
use Rattle.std.proofs.lemmas.Bool.{ltb-false, ltb-true}
use Rattle.std.proofs.lemmas.List.{length_push, take_more}
use Rattle.std.proofs.lemmas.List.Concat.{flat_map-append}
use Rattle.std.proofs.lemmas.List.Elements.{filter_agree}
use Rattle.std.proofs.lemmas.List.Folds.{find_at}
use Rattle.std.proofs.lemmas.List.Quantifiers.{position-Some}
use Rattle.std.proofs.lemmas.Option.{cond_some, get_or_from_slice_get, slice_get-get_or, slice_get-map, slice_get_past}
use Rattle.std.proofs.lemmas.Simd.{map-map}
use Rattle.std.proofs.lemmas.Slice.Eq.{bytes_eq-Decides}
use Rattle.ruletable.specs.Rules.{Defines, Rule, Rules, bodies_of, find_in, key_of, same_name, set_body, with_body}
use Rattle.ruletable.specs.declared.table.Defined.{Defined}
use Rattle.ruletable.specs.declared.table.Defined.TheVariants.{Added, Duplicate}
use Rattle.ruletable.specs.declared.table.NameCase.{NameCase}
use Rattle.diagnostics.specs.NumberLists.{items_at, list_of, numbers_for, positions_from}
use Rattle.diagnostics.proofs.MentionsUnderLemmas.{filter-mapped}

module _ {A : Type 0} (p : A → Bool) (xs : List A) where
  none-within : (b : Bool) (n : ℕ) → cond b (Some n) None ≡ None → b ≡ false
  none-within true n e = cc
  none-within false n e = refl

  -- the one at the position that a search gives
  pub found-there : (id : ℕ) → position p xs ≡ Some id → find p xs ≡ slice_get xs id
  found-there id e = find_at p xs ∙ ap (λ (k : ℕ). slice_get xs k)
      (cond_some (nat_lt (position_or_len p xs) (length xs)) (position_or_len p xs) id e).1

  pub found-nowhere : position p xs ≡ None → find p xs ≡ None
  found-nowhere e =
      let late = none-within (nat_lt (position_or_len p xs) (length xs)) (position_or_len p xs) e in
      find_at p xs ∙ slice_get_past xs (position_or_len p xs) (ltb-false (position_or_len p xs) (length xs) late)

module _ {A : Type 0} (p : A → Bool) where
  pub found-within : (xs : List A) (id : ℕ) → position p xs ≡ Some id → id < length xs
  found-within [] id e = absurd (cc e)
  found-within (x ∷ xs) id e = (position-Some p (x ∷ xs) id x e).0

  found-passes : (xs : List A) (id : ℕ) (x : A) → position p xs ≡ Some id → slice_get xs id ≡ Some x → p x ≡ true
  found-passes xs id x e at =
      ap p (sym (get_or_from_slice_get xs id x x at)) ∙ (position-Some p xs id x e).1

  found-first : (xs : List A) (id k : ℕ) (x : A) → position p xs ≡ Some id → k < id → slice_get xs k ≡ Some x
      → p x ≡ false
  found-first xs id k x e lt at =
      ap p (sym (get_or_from_slice_get xs k x x at)) ∙ (position-Some p xs id x e).2 k lt

abbrev pub Numbers : Type 0
Numbers = Vec ℕ Global

-- the list that a table has for a name
body-listed : (o : Option (Rule Numbers)) (b : Numbers) → option_map (λ row. row.body) o ≡ Some b
    → list_of o ≡ b.items
body-listed None b e = absurd (cc e)
body-listed (Some row) b e = (let same : row.body ≡ b = cc e in ap (λ (v : Numbers). v.items) same)

module _ (lists : Rules Numbers) (name : List ℕ) where
  pub listed-found : (id : ℕ) (b : Numbers) → find_in lists name ≡ Some id → slice_get (bodies_of lists) id ≡ Some b
      → numbers_for lists name ≡ b.items
  listed-found id b e at =
      ap list_of (found-there (λ row. same_name lists.names name row.name) lists.rules id e)
      ∙ body-listed (slice_get lists.rules id) b (sym (slice_get-map (λ row. row.body) lists.rules id) ∙ at)

  pub listed-nowhere : find_in lists name ≡ None → numbers_for lists name ≡ []
  listed-nowhere e = ap list_of (found-nowhere (λ row. same_name lists.names name row.name) lists.rules e)

module _ (names : NameCase) where
  same-key : (a b : List ℕ) → same_name names a b ≡ true → key_of names a ≡ key_of names b
  same-key a b h = (bytes_eq-Decides (key_of names a) (key_of names b)).0 h

  like-named : (n a b : List ℕ) → same_name names a b ≡ true → same_name names n a ≡ same_name names n b
  like-named n a b h = ap (λ (k : List ℕ). bytes_eq (key_of names n) k) (same-key a b h)

  apart-named : (n a b : List ℕ) → same_name names n b ≡ true → same_name names a b ≡ false
      → same_name names n a ≡ false
  apart-named n a b h f = by (same_name names n a) refl
    where
      by : (v : Bool) → same_name names n a ≡ v → v ≡ false
      by false e = refl
      by true e = sym h ∙ ap (λ (k : List ℕ). bytes_eq k (key_of names b)) (same-key n a e) ∙ f

  -- a number for a name, as another name sees it
  module _ (other name : List ℕ) (number : ℕ) where
    abbrev pub more_if : Bool → List ℕ
    more_if same = if same then number ∷ [] else []

    abbrev passes : Rule Numbers → Bool
    passes row = same_name names other row.name

    here-listed : (row : Rule Numbers) (w : Numbers) (rest : List (Rule Numbers))
        → w.items ≡ row.body.items ++ number ∷ [] → same_name names name row.name ≡ true
        → list_of (find passes (record { name = row.name; body = w; span = row.span } ∷ rest))
        ≡ list_of (find passes (row ∷ rest)) ++ more_if (same_name names other name)
    here-listed row w rest e own = by (passes row) refl
      where
        like : same_name names other name ≡ passes row
        like = like-named other name row.name own

        by : (t : Bool) → passes row ≡ t
            → list_of (cond t (Some (record { name = row.name; body = w; span = row.span })) (find passes rest))
            ≡ list_of (cond t (Some row) (find passes rest)) ++ more_if (same_name names other name)
        by true h = e ∙ ap (λ (b : Bool). row.body.items ++ more_if b) (sym (like ∙ h))
        by false h = sym (append-nil (list_of (find passes rest)))
            ∙ ap (λ (b : Bool). list_of (find passes rest) ++ more_if b) (sym (like ∙ h))

    there-listed : (row : Rule Numbers) (rest changed : List (Rule Numbers)) → same_name names name row.name ≡ false
        → list_of (find passes changed) ≡ list_of (find passes rest) ++ more_if (same_name names other name)
        → list_of (find passes (row ∷ changed))
        ≡ list_of (find passes (row ∷ rest)) ++ more_if (same_name names other name)
    there-listed row rest changed apart h = by (passes row) refl
      where
        by : (t : Bool) → passes row ≡ t → list_of (cond t (Some row) (find passes changed))
            ≡ list_of (cond t (Some row) (find passes rest)) ++ more_if (same_name names other name)
        by true e = sym (append-nil row.body.items) ∙ ap (λ (b : Bool). row.body.items ++ more_if b)
            (sym (apart-named other name row.name e apart))
        by false e = h

    -- at the end of the list that the name has
    pub set-listed : (rows : List (Rule Numbers)) (id : ℕ) (b w : Numbers)
        → slice_get (map (λ row. row.body) rows) id ≡ Some b → w.items ≡ b.items ++ number ∷ []
        → ((row : Rule Numbers) → slice_get rows id ≡ Some row → same_name names name row.name ≡ true)
        → ((k : ℕ) (row : Rule Numbers) → k < id → slice_get rows k ≡ Some row
        → same_name names name row.name ≡ false)
        → list_of (find passes (set_body rows id w))
        ≡ list_of (find passes rows) ++ more_if (same_name names other name)
    set-listed [] id b w at e own before = absurd (cc at)
    set-listed (row ∷ rows) zero b w at e own before =
        let same : b ≡ row.body = cc at in
        here-listed row w rows (e ∙ ap (λ (v : Numbers). v.items ++ number ∷ []) same) (own row refl)
    set-listed (row ∷ rows) (suc id) b w at e own before =
        there-listed row rows (set_body rows id w) (before 0 row (omega arith) refl)
        (set-listed rows id b w at e own (λ k r lt there. before (suc k) r (omega (arith, lt)) there))

    none-first : (t : Bool) (row : Rule Numbers) (o : Option (Rule Numbers)) → cond t (Some row) o ≡ None
        → (t ≡ false) × (o ≡ None)
    none-first true row o e = cc
    none-first false row o e = (refl, e)

    -- in a list of its own
    pub push-listed : (rows : List (Rule Numbers)) (row : Rule Numbers)
        → find (λ r. same_name names name r.name) rows ≡ None → row.name ≡ name → row.body.items ≡ number ∷ []
        → list_of (find passes (rows ++ row ∷ []))
        ≡ list_of (find passes rows) ++ more_if (same_name names other name)
    push-listed [] row none is list = by (passes row) refl
      where
        by : (t : Bool) → passes row ≡ t
            → list_of (cond t (Some row) None) ≡ more_if (same_name names other name)
        by true h = list ∙ ap more_if (sym (ap (same_name names other) (sym is) ∙ h))
        by false h = ap more_if (sym (ap (same_name names other) (sym is) ∙ h))
    push-listed (x ∷ rows) row none is list =
        let apart = none-first (same_name names name x.name) x (find (λ r. same_name names name r.name) rows) none in
        there-listed x rows (rows ++ row ∷ []) apart.0 (push-listed rows row apart.1 is list)

-- a table with one number more for a name
module _ (old : Rules Numbers) (name : List ℕ) (number : ℕ) where
  pub body-pushed : (id : ℕ) (b w : Numbers) → find_in old name ≡ Some id → slice_get (bodies_of old) id ≡ Some b
      → w.items ≡ b.items ++ number ∷ [] → (other : List ℕ) → numbers_for (with_body old id w) other
      ≡ numbers_for old other ++ (if same_name old.names other name then number ∷ [] else [])
  body-pushed id b w e at is other =
      set-listed old.names other name number old.rules id b w at is
      (λ row there. found-passes (λ r. same_name old.names name r.name) old.rules id row e there)
      (λ k row lt there. found-first (λ r. same_name old.names name r.name) old.rules id k row e lt there)

  pub list-defined : (new : Rules Numbers) (rule : Rule Numbers) (done : Defined) → find_in old name ≡ None
      → rule.name ≡ name → rule.body.items ≡ number ∷ [] → Defines old new rule done → (new.names ≡ old.names)
      × ((other : List ℕ) → numbers_for new other
      ≡ numbers_for old other ++ (if same_name old.names other name then number ∷ [] else []))
  list-defined new rule (Added id) none is list d = (
    ap (λ (t : Rules Numbers). t.names) d.2,
    λ other. ap (λ (t : Rules Numbers). numbers_for t other) d.2
        ∙ push-listed old.names other name number old.rules rule
        (found-nowhere (λ r. same_name old.names name r.name) old.rules none) is list,
  )
  list-defined new rule (Duplicate id) none is list d =
      let found : find_in old name ≡ Some id = ap (find_in old) (sym is) ∙ d.0 in
      absurd (cc (none, found))

-- the positions of what passes
module _ {A : Type 0} (p : A → Bool) where
  more-first : (t : Bool) (n : ℕ) (a b c : List ℕ) → a ≡ b ++ c
      → cond t (n ∷ a) a ≡ cond t (n ∷ b) b ++ c
  more-first true n a b c h = ap (λ (l : List ℕ). n ∷ l) h
  more-first false n a b c h = h

  pub indexes-more : (n : ℕ) (xs : List A) (i m : ℕ) (d : A) → i < length xs → m ≡ n + i
      → positions_from n p (take (suc i) xs)
      ≡ positions_from n p (take i xs) ++ (if p (get_or xs i d) then m ∷ [] else [])
  indexes-more n [] i m d lt is = absurd (omega (arith, lt))
  indexes-more n (x ∷ xs) zero m d lt is =
      let same : n ≡ m = omega (arith, is) in
      ap (λ (k : ℕ). if p x then k ∷ [] else []) same
  indexes-more n (x ∷ xs) (suc i) m d lt is =
      more-first (p x) n (positions_from (suc n) p (take (suc i) xs)) (positions_from (suc n) p (take i xs))
      (if p (get_or xs i d) then m ∷ [] else [])
      (indexes-more (suc n) xs i m d (omega (arith, lt)) (omega (arith, is)))

  there-next : (front xs : List A) (x : A) → slice_get (front ++ x ∷ xs) (length front) ≡ Some x
  there-next [] xs x = refl
  there-next (y ∷ front) xs x = there-next front xs x

  one-longer : (front : List A) (x : A) → length (front ++ x ∷ []) ≡ suc (length front)
  one-longer front x = (let l = length_push front x in omega (arith, l))

  -- they have what passes
  pub items-pass : (front xs : List A)
      → items_at (front ++ xs) (positions_from (length front) p xs) ≡ filter p xs
  items-pass front [] = refl
  items-pass front (x ∷ xs) =
      let rest : items_at (front ++ x ∷ xs) (positions_from (suc (length front)) p xs) ≡ filter p xs =
      ap (λ (n : ℕ). items_at (front ++ x ∷ xs) (positions_from n p xs)) (sym (one-longer front x))
      ∙ ap (λ (all : List A). items_at all (positions_from (length (front ++ x ∷ [])) p xs))
      (sym (append_assoc front (x ∷ []) xs)) ∙ items-pass (front ++ x ∷ []) xs in
      by rest (p x)
    where
      by : items_at (front ++ x ∷ xs) (positions_from (suc (length front)) p xs) ≡ filter p xs → (t : Bool)
          → items_at (front ++ x ∷ xs) (cond t (length front ∷ positions_from (suc (length front)) p xs)
          (positions_from (suc (length front)) p xs)) ≡ cond t (x ∷ filter p xs) (filter p xs)
      by rest true = rw (there-next front xs x) (ap (λ (l : List A). x ∷ l) rest)
      by rest false = rest

  -- the first of them has the first that passes
  pub first-passes : (front xs : List A) (k : ℕ) → slice_get (positions_from (length front) p xs) 0 ≡ Some k
      → slice_get (front ++ xs) k ≡ find p xs
  first-passes front [] k e = absurd (cc e)
  first-passes front (x ∷ xs) k e = by (first-passes (front ++ x ∷ []) xs k) (p x) e
    where
      by : (slice_get (positions_from (length (front ++ x ∷ [])) p xs) 0 ≡ Some k
          → slice_get ((front ++ x ∷ []) ++ xs) k ≡ find p xs) → (t : Bool)
          → slice_get (cond t (length front ∷ positions_from (suc (length front)) p xs)
          (positions_from (suc (length front)) p xs)) 0 ≡ Some k
          → slice_get (front ++ x ∷ xs) k ≡ cond t (Some x) (find p xs)
      by deep true h = (let same : length front ≡ k = cc h in
          ap (λ (n : ℕ). slice_get (front ++ x ∷ xs) n) (sym same) ∙ there-next front xs x)
      by deep false h = ap (λ (all : List A). slice_get all k) (sym (append_assoc front (x ∷ []) xs))
          ∙ deep (ap (λ (n : ℕ). slice_get (positions_from n p xs) 0) (one-longer front x) ∙ h)

  pub none-passes : (n : ℕ) (xs : List A) → slice_get (positions_from n p xs) 0 ≡ None → find p xs ≡ None
  none-passes n [] e = refl
  none-passes n (x ∷ xs) e = by (none-passes (suc n) xs) (p x) e
    where
      by : (slice_get (positions_from (suc n) p xs) 0 ≡ None → find p xs ≡ None) → (t : Bool)
          → slice_get (cond t (n ∷ positions_from (suc n) p xs) (positions_from (suc n) p xs)) 0 ≡ None
          → cond t (Some x) (find p xs) ≡ None
      by deep true h = absurd (cc h)
      by deep false h = deep h

-- what `get` gives
module _ {A : Type 0} (xs : List A) where
  pub got-there : (k : ℕ) (x : A) → true ≡ nat_lt k (length xs) → x ≡ get_or xs k x → slice_get xs k ≡ Some x
  got-there k x low is =
      slice_get-get_or xs k x (ltb-true k (length xs) (sym low)) ∙ ap Some (sym is)

  pub got-none : (k : ℕ) → false ≡ nat_lt k (length xs) → slice_get xs k ≡ None
  got-none k high = slice_get_past xs k (ltb-false k (length xs) (sym high))

  pub item-got : (k : ℕ) (o : Option (Bor A)) → IsItemAt xs k o → option_map (λ x. x.now) o ≡ slice_get xs k
  item-got k None h = sym (got-none k h.0)
  item-got k (Some x) h = sym (got-there k x.now h.0 h.1)

  -- one position more
  pub items-more : (indexes : List ℕ) (i : ℕ) (o : Option A) → i < length indexes
      → slice_get xs (get_or indexes i 0) ≡ o
      → items_at xs (take (i + 1) indexes) ≡ items_at xs (take i indexes) ++ option_to_list o
  items-more indexes i o lt there =
      ap (items_at xs) (take_more indexes i 0 lt)
      ∙ flat_map-append (λ n. option_to_list (slice_get xs n)) (take i indexes) (get_or indexes i 0 ∷ [])
      ∙ ap (λ (l : List A). items_at xs (take i indexes) ++ l)
      (append-nil (option_to_list (slice_get xs (get_or indexes i 0))) ∙ ap option_to_list there)

pub map-twice : {A B : Type 0} (f : A → B) (o : Option (Bor A))
    → option_map (λ x. f x.now) o ≡ option_map f (option_map (λ x. x.now) o)
map-twice f None = refl
map-twice f (Some x) = refl

-- those that positions select, as contracts see them
pub picked-mapped : {A B : Type 0} (f : A → B) (p : B → Bool) (q : A → Bool) → ((x : A) → q x ≡ p (f x))
    → (xs : List A) (indexes : List ℕ) (found : List (Bor A)) → map (λ x. x.now) found ≡ items_at xs indexes
    → indexes ≡ positions_from 0 q xs → map (λ x. f x.now) found ≡ filter p (map f xs)
picked-mapped f p q agree xs indexes found e is =
    sym (map-map f (λ x. x.now) found)
    ∙ ap (map f) (e ∙ ap (items_at xs) is ∙ items-pass q [] xs ∙ filter_agree q (λ x. p (f x)) agree xs)
    ∙ filter-mapped f p xs

-- a table that lists the positions of what passes, one item more
module _ {A : Type 0} (passes : List ℕ → A → Bool) (xs : List A) where
  pub lists-more : (old new : Rules Numbers) (i : ℕ) (x : A) → i < length xs → x ≡ get_or xs i x
      → ((name : List ℕ) → numbers_for old name ≡ positions_from 0 (passes name) (take i xs))
      → ((name : List ℕ) → numbers_for new name ≡ numbers_for old name ++ (if passes name x then i ∷ [] else []))
      → (name : List ℕ) → numbers_for new name ≡ positions_from 0 (passes name) (take (i + 1) xs)
  lists-more old new i x lt is so_far more = λ name.
      more name ∙ ap (λ (l : List ℕ). l ++ (if passes name x then i ∷ [] else [])) (so_far name)
      ∙ ap (λ (y : A). positions_from 0 (passes name) (take i xs) ++ (if passes name y then i ∷ [] else [])) is
      ∙ sym (indexes-more (passes name) 0 xs i i x lt (omega arith))
      ∙ ap (λ (k : ℕ). positions_from 0 (passes name) (take k xs)) (sym (add-one i))

  -- none of them
  pub lists-none : (lists : Rules Numbers) → lists.rules ≡ [] → (name : List ℕ)
      → numbers_for lists name ≡ positions_from 0 (passes name) (take 0 xs)
  lists-none lists none = λ name. ap (λ (rows : List (Rule Numbers)). list_of
      (find (λ row. same_name lists.names name row.name) rows)) none
