-- A table's rules, as its rows hold them and its map finds them.
-- Serves: RuleTable::define, RuleTable::find, RuleTable::name, RuleTable::body, RuleTable::span, RuleTable::len
use Rattle.std.proofs.Common.{◌≡◌, ℕ, zero, suc, ◌+◌, ◌<◌, ◌≤◌, Bool, true, false, cond, not, List, [], ◌∷◌, ◌++◌}
use Rattle.std.proofs.Common.{length, map, get_or, slice_get, position, Option, Some, None, refl, sym, ap, ◌∙◌, arith}
use Rattle.std.proofs.Common.{Vec, Global, set, ◌⊎◌, inl, inr}
use Rattle.std.proofs.Math.Logic.{⊎_elim}
use Rattle.std.proofs.lemmas.Bool.{cases_Bool, eq-eqb, le-ltb, lt-ltb, ltb-false, ltb-true, ne_eqb}
use Rattle.std.proofs.lemmas.List.{length-append, length-map, map-append}
use Rattle.std.proofs.lemmas.List.Folds.{position_or_len_push}
use Rattle.std.proofs.lemmas.List.Sums.{prefix_len-le-length}
use Rattle.std.proofs.lemmas.Option.{slice_get-get_or, slice_get-map}
use Rattle.std.proofs.lemmas.Slice.Eq.{bytes_eq-Decides}
use Rattle.std.specs.HashMap.{HashMap, UpdatesBy, get_by}
use Rattle.std.specs.List.{position_or_len, prefix_len}
use Rattle.std.specs.Map.{KeepsOthers, lookup}
use Rattle.std.specs.Option.{option_map, option_map_or, unwrap_or}
use Rattle.std.specs.Str.{bytes_eq}
use Rattle.ruletable.specs.Rules.{Rule, find_in, key_of, same_name, set_body}
use Rattle.ruletable.specs.RuleRows.{rule_in, rules_in, table_of, HasIdsOf}
use Rattle.ruletable.specs.declared.table.NameCase.{NameCase}
use Rattle.ruletable.specs.declared.table.Row.{Row}

-- two texts are equal where their bytes are
bytes_eq-same : (xs : List ℕ) → bytes_eq xs xs ≡ true
bytes_eq-same xs = (bytes_eq-Decides xs xs).1 refl

same-bytes : (xs ys : List ℕ) → bytes_eq xs ys ≡ true → xs ≡ ys
same-bytes xs ys = (bytes_eq-Decides xs ys).0

bytes_eq-apart : (xs ys : List ℕ) → bytes_eq xs ys ≡ false → bytes_eq ys xs ≡ false
bytes_eq-apart xs ys h = by (bytes_eq ys xs) refl
  where
    by : (b : Bool) → bytes_eq ys xs ≡ b → b ≡ false
    by false e = refl
    by true e = sym (bytes_eq-same ys) ∙ ap (λ zs. bytes_eq zs ys) (same-bytes ys xs e) ∙ h

-- the first that passes, in a list and in the list with one more
none_found : (b : Bool) (n : ℕ) → cond b (Some n) None ≡ None → b ≡ false
none_found true n is = absurd (cc is)
none_found false n is = refl

some_found : (b : Bool) (n i : ℕ) → cond b (Some n) None ≡ Some i → (b ≡ true) × (n ≡ i)
some_found true n i is = (refl, ap (λ o. unwrap_or o 0) is)
some_found false n i is = absurd (cc is)

module _ {X : Type 0} (p : X → Bool) (xs : List X) (y : X) where
  at_end : position p xs ≡ None → position_or_len p xs ≡ length xs
  at_end is =
      let past = ltb-false (position_or_len p xs) (length xs) (none_found _ _ is) in
      let within = prefix_len-le-length (λ x. not (p x)) xs in
      omega (arith, past, within)

  found_at : (i : ℕ) → position_or_len p (xs ++ y ∷ []) ≡ i → i ≤ length xs → position p (xs ++ y ∷ []) ≡ Some i
  found_at i is le =
      rw is (ap (λ b. cond b (Some i) None) (lt-ltb i (length (xs ++ y ∷ []))
      (omega (arith, length-append xs (y ∷ [])))))

  pub position-last : position p xs ≡ None → p y ≡ true → position p (xs ++ y ∷ []) ≡ Some (length xs)
  position-last is fits =
      found_at (length xs) (position_or_len_push p xs y
      ∙ rw (at_end is, eq-eqb (length xs) (length xs) refl, fits) (omega arith)) (omega arith)

  pub position-before : (i : ℕ) → position p xs ≡ Some i → position p (xs ++ y ∷ []) ≡ Some i
  position-before i is =
      let found = some_found _ _ _ is in
      let lt = ltb-true (position_or_len p xs) (length xs) found.0 in
      found_at i (position_or_len_push p xs y
      ∙ ap (λ b. cond b (length xs + cond (p y) 0 1) (position_or_len p xs))
      (ne_eqb (position_or_len p xs) (length xs) (λ same. absurd (omega (arith, lt, same))))
      ∙ found.1) (omega (arith, lt, found.1))

  pub position-other : p y ≡ false → position p (xs ++ y ∷ []) ≡ position p xs
  position-other fails = by (position p xs) refl
    where
      by : (o : Option ℕ) → position p xs ≡ o → position p (xs ++ y ∷ []) ≡ position p xs
      by (Some i) is = position-before i is ∙ sym is
      by None is =
          let end : position_or_len p (xs ++ y ∷ []) ≡ length xs + 1 =
          position_or_len_push p xs y ∙ rw (at_end is, eq-eqb (length xs) (length xs) refl, fails) refl in
          rw end (ap (λ b. cond b (Some (length xs + 1)) None) (le-ltb (length xs + 1) (length (xs ++ y ∷ []))
          (omega (arith, length-append xs (y ∷ []))))) ∙ sym is

-- an element of a list with one more is one before it or the last
get_pushed : {X : Type 0} (xs : List X) (y : X) (n : ℕ) {x : X} → slice_get (xs ++ y ∷ []) n ≡ Some x
    → (slice_get xs n ≡ Some x) ⊎ ((n ≡ length xs) × (y ≡ x))
get_pushed [] y zero is = inr (refl, cc is)
get_pushed [] y (suc n) is = absurd (cc is)
get_pushed (z ∷ xs) y zero is = inl is
get_pushed (z ∷ xs) y (suc n) is = ⊎_elim inl (λ last. inr (ap suc last.0, last.1)) (get_pushed xs y n is)

-- where the first stands that passes, among what f makes of a list
prefix_len-map : {X Y : Type 0} (f : X → Y) (p : Y → Bool) (xs : List X) → prefix_len p (map f xs)
    ≡ prefix_len (λ x. p (f x)) xs
prefix_len-map f p [] = refl
prefix_len-map f p (x ∷ xs) = ap (λ n. cond (p (f x)) (1 + n) 0) (prefix_len-map f p xs)

pub position-map : {X Y : Type 0} (f : X → Y) (p : Y → Bool) (xs : List X)
    → position p (map f xs) ≡ position (λ x. p (f x)) xs
position-map f p xs = rw (prefix_len-map f (λ y. not (p y)) xs, length-map xs f)

-- another body leaves the names
module _ {E : Type 0} where
  names_of-set_body : (rules : List (Rule E)) (id : ℕ) (w : E) → map (λ rule. rule.name) (set_body rules id w)
      ≡ map (λ rule. rule.name) rules
  names_of-set_body [] id w = refl
  names_of-set_body (rule ∷ rules) zero w = refl
  names_of-set_body (rule ∷ rules) (suc id) w = ap (λ l. rule.name ∷ l) (names_of-set_body rules id w)

  name_kept : (rules : List (Rule E)) (id : ℕ) (w : E) (n : ℕ) (rule : Rule E)
      → slice_get (set_body rules id w) n ≡ Some rule
      → (old : Rule E) × (slice_get rules n ≡ Some old) × (rule.name ≡ old.name)
  name_kept [] id w n rule is = absurd (cc is)
  name_kept (r ∷ rules) zero w zero rule is =
      (r, refl, ap (λ o. option_map_or (λ (q : Rule E). q.name) o []) (sym is))
  name_kept (r ∷ rules) zero w (suc n) rule is = (rule, is, refl)
  name_kept (r ∷ rules) (suc id) w zero rule is = (rule, is, refl)
  name_kept (r ∷ rules) (suc id) w (suc n) rule is = name_kept rules id w n rule is

  pub rules_in-push : (rows : List (Row E)) (row : Row E) → rules_in (rows ++ row ∷ [])
      ≡ rules_in rows ++ rule_in row ∷ []
  rules_in-push rows row = map-append rule_in rows (row ∷ [])

  -- another body in a row is that of the rule
  pub rules_in-set : (rows : List (Row E)) (id : ℕ) (row : Row E) (w : E) → slice_get rows id ≡ Some row
      → rules_in (set rows id (record { name = row.name; body = w; span = row.span }))
      ≡ set_body (rules_in rows) id w
  rules_in-set [] id row w at = refl
  rules_in-set (r ∷ rows) zero row w at =
      let same : r ≡ row = ap (λ o. unwrap_or o row) at in
      ap (λ (r : Row E). record { name = r.name.items; body = w; span = r.span } ∷ rules_in rows) (sym same)
  rules_in-set (r ∷ rows) (suc id) row w at = ap (λ rules. rule_in r ∷ rules) (rules_in-set rows id row w at)

  -- the row at the id of a rule
  pub row_at : (rows : List (Row E)) (id : ℕ) (row : Row E) → id < length (rules_in rows) → row ≡ get_or rows id row
      → slice_get rows id ≡ Some row
  row_at rows id row lt is =
      slice_get-get_or rows id row (omega (arith, lt, length-map rows rule_in)) ∙ ap Some (sym is)

  -- a part of the rule at an id
  pub part_at : {X : Type 0} (f : Rule E → X) (rows : List (Row E)) (id : ℕ) (row : Row E) → id < length (rules_in rows)
      → row ≡ get_or rows id row → slice_get (map f (rules_in rows)) id ≡ Some (f (rule_in row))
  part_at f rows id row lt is =
      slice_get-map f (rules_in rows) id
      ∙ ap (option_map f) (slice_get-map rule_in rows id ∙ ap (option_map rule_in) (row_at rows id row lt is))

module _ {E : Type 0} (names : NameCase) where
  -- the id of a name's key is that of the rule of that name
  pub found_by_key : {S : Type 0} (rows : List (Row E)) (ids : HashMap (Vec ℕ Global) ℕ S) (name key : List ℕ)
      → HasIdsOf names rows ids → key ≡ key_of names name
      → get_by (λ k. bytes_eq key k.items) ids ≡ find_in (table_of names rows) name
  found_by_key rows ids name key has is = has.found key
      ∙ ap (λ k. position (λ (rule : Rule E). bytes_eq k (key_of names rule.name)) (rules_in rows)) is

  pub no_ids : {S : Type 0} (ids : HashMap (Vec ℕ Global) ℕ S) → ids.entries ≡ [] → HasIdsOf {E = E} names [] ids
  no_ids ids empty = record {
    found = λ key. ap (lookup (λ k. bytes_eq key k.items)) empty;
    unique = record { own = λ id rule at. absurd (cc at) };
  }

  -- one more row, whose key is new
  module _ {S : Type 0} (rows : List (Row E)) (row : Row E) (key : Vec ℕ Global) (old new : HashMap (Vec ℕ Global) ℕ S)
      (has : HasIdsOf names rows old) (is : key.items ≡ key_of names row.name.items)
      (none : get_by (λ k. bytes_eq key.items k.items) old ≡ None)
      (updates : UpdatesBy (λ x y. bytes_eq x.items y.items) (λ k. bytes_eq key.items k.items) old new
      (Some (length rows))) where
    abbrev passes : List ℕ → Rule E → Bool
    passes q rule = bytes_eq q (key_of names rule.name)

    -- the new key
    found_new : (q : List ℕ) → q ≡ key.items → get_by (λ k. bytes_eq q k.items) new
        ≡ position (passes q) (rules_in rows ++ rule_in row ∷ [])
    found_new q same =
        rw same (updates.1 ∙ ap Some (sym (length-map rows rule_in))
        ∙ sym (position-last (passes key.items) (rules_in rows) (rule_in row) (sym (has.found key.items) ∙ none)
        (ap (bytes_eq key.items) (sym is) ∙ bytes_eq-same key.items)))

    -- another key
    found_other : (q : List ℕ) → bytes_eq q key.items ≡ false → get_by (λ k. bytes_eq q k.items) new
        ≡ position (passes q) (rules_in rows ++ rule_in row ∷ [])
    unfolding KeepsOthers
    found_other q apart =
        updates.3 (λ k. bytes_eq q k.items) (λ x y at. ap (λ z. bytes_eq z y.items) (same-bytes q x.items at))
        (λ k at. ap (bytes_eq q) (sym (same-bytes key.items k.items at)) ∙ apart)
        ∙ has.found q
        ∙ sym (position-other (passes q) (rules_in rows) (rule_in row) (ap (bytes_eq q) (sym is) ∙ apart))

    found_pushed : (q : List ℕ) → get_by (λ k. bytes_eq q k.items) new
        ≡ position (passes q) (rules_in (rows ++ row ∷ []))
    found_pushed q = rw (rules_in-push rows row) (⊎_elim (λ same. found_new q (same-bytes q key.items same))
        (found_other q) (cases_Bool (bytes_eq q key.items)))

    none_of_name : find_in (table_of names rows) row.name.items ≡ None
    none_of_name = sym (found_by_key rows old row.name.items key.items has is) ∙ none

    own_pushed : (id : ℕ) (rule : Rule E) → slice_get (rules_in rows ++ rule_in row ∷ []) id ≡ Some rule
        → position (λ r. same_name names rule.name r.name) (rules_in rows ++ rule_in row ∷ []) ≡ Some id
    own_pushed id rule at = ⊎_elim
        (λ before. position-before _ (rules_in rows) (rule_in row) id (has.unique.own id rule before))
        (λ last. rw (sym last.1) (position-last _ (rules_in rows) (rule_in row) none_of_name
        (bytes_eq-same (key_of names row.name.items)) ∙ ap Some (sym last.0)))
        (get_pushed (rules_in rows) (rule_in row) id at)

    pub has_pushed : HasIdsOf names (rows ++ row ∷ []) new
    has_pushed = record {
      found = found_pushed;
      unique = record {
        own = λ id rule at.
            ap (position (λ r. same_name names rule.name r.name)) (rules_in-push rows row) ∙ own_pushed id rule
            (ap (λ l. slice_get l id) (sym (rules_in-push rows row)) ∙ at);
      };
    }

  -- and leaves what finds the names
  keys_kept : (test : List ℕ → Bool) (rules : List (Rule E)) (id : ℕ) (w : E)
      → position (λ r. test (key_of names r.name)) (set_body rules id w)
      ≡ position (λ r. test (key_of names r.name)) rules
  keys_kept test rules id w =
      sym (position-map (λ r. r.name) (λ n. test (key_of names n)) (set_body rules id w))
      ∙ ap (position (λ n. test (key_of names n))) (names_of-set_body rules id w)
      ∙ position-map (λ r. r.name) (λ n. test (key_of names n)) rules

  pub has_set : {S : Type 0} (rows : List (Row E)) (ids : HashMap (Vec ℕ Global) ℕ S) (id : ℕ) (row : Row E) (w : E)
      → slice_get rows id ≡ Some row → HasIdsOf names rows ids
      → HasIdsOf names (set rows id (record { name = row.name; body = w; span = row.span })) ids
  has_set rows ids id row w at has = record {
    found = λ key. has.found key ∙ sym (keys_kept (bytes_eq key) (rules_in rows) id w)
        ∙ ap (position (λ r. bytes_eq key (key_of names r.name))) (sym (rules_in-set rows id row w at));
    unique = record {
      own = λ n rule is.
          ap (position (λ r. same_name names rule.name r.name)) (rules_in-set rows id row w at)
          ∙ keys_kept (bytes_eq (key_of names rule.name)) (rules_in rows) id w
          ∙ own_set (rules_in rows) has.unique.own n rule (ap (λ l. slice_get l n)
          (sym (rules_in-set rows id row w at)) ∙ is);
    };
  }
    where
      own_set : (rules : List (Rule E))
          → ((n : ℕ) (rule : Rule E) → slice_get rules n ≡ Some rule
          → find_in (record { names = names; rules = rules }) rule.name ≡ Some n)
          → (n : ℕ) (rule : Rule E) → slice_get (set_body rules id w) n ≡ Some rule
          → find_in (record { names = names; rules = rules }) rule.name ≡ Some n
      own_set rules own n rule is =
          let there = name_kept rules id w n rule is in
          ap (λ m. find_in (record { names = names; rules = rules }) m) there.2 ∙ own n there.0 there.1
