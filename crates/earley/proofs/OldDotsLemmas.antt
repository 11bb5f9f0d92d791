-- The dotted rules of an item set that belong to what began before, and their parts.
-- Serves: awaited_at.
use Rattle.std.proofs.Common.{◌≡◌, ◌⊎◌, inl, inr, ◌↔◌, ℕ, zero, suc, ◌+◌, ◌<◌, ◌≤◌, false, List, [], ◌∷◌, ◌++◌, length}
use Rattle.std.proofs.Common.{take, refl, sym, ◌∙◌, ap, subst, arith, slice_index_or}
use Rattle.std.proofs.lemmas.Bool.{cases_lt}
use Rattle.std.proofs.lemmas.List.{append-nil}
use Rattle.std.specs.Prelude.{Contains, Option, Some, None, true}
use Rattle.flatgrammar.specs.Flat.{Flat, Dot, at}
use Rattle.flatgrammar.specs.Holds.{Holds}
use Rattle.flatgrammar.specs.ItemClosures.{item_at}
use Rattle.flatgrammar.specs.NodeSteps.{flat_of}
use Rattle.flatgrammar.specs.OldItems as old_items
use Rattle.flatgrammar.specs.OldItems.{HasPart, IsNameNode, IsOld}
use Rattle.flatgrammar.specs.CalledParts.{AreAwaited, IsPartOf}
use Rattle.flatgrammar.specs.Positions.{In, now, on}
use Rattle.flatgrammar.specs.Stacks.{node_at}
use Rattle.flatgrammar.specs.TableViews.{callee_of, name_of}
use Rattle.flatgrammar.specs.declared.closure.DottedRule.{DottedRule}
use Rattle.flatgrammar.specs.declared.tables.Tables as code_flat
use Rattle.flatgrammar.proofs.InLemmas.{among_more, at_end, at_index_in, before_end, from_front, in_front, in_left}
use Rattle.flatgrammar.proofs.CalledPartsLemmas.{callee_calls, calls_callee, has_part_of, node_named, not_named}
use Rattle.flatgrammar.proofs.CalledPartsLemmas.{part_has}
use Rattle.earleyitems.specs.ChartSets.{AreDotsOf, AreOlderDotsOf, IsSet}
use Rattle.earley.specs.OldDots as dots_of
use Rattle.earley.specs.OldDots.{AddsNode, AreOldDots, ArePartsOf, Enters, EntersFrom, IsOldDot, IsPartOfSome}

pair_same : {a b : ℕ × ℕ} → Some a ≡ Some b → a ≡ b
pair_same h = cc h

not_in : {A : Type 0} {a : A} → In a [] → ⊥
not_in h = elim h [ ]

in_cases : {A : Type 0} {a : A} (xs ys : List A) → In a (xs ++ ys) → In a xs ⊎ In a ys
in_cases [] ys h = inr h
in_cases (x ∷ xs) ys (now same) = inl (now same)
in_cases {a = a} (x ∷ xs) ys (on h) = by (in_cases xs ys h)
  where
    by : In a xs ⊎ In a ys → In a (x ∷ xs) ⊎ In a ys
    by (inl g) = inl (on g)
    by (inr g) = inr g

in_right : {A : Type 0} {a : A} (xs : List A) {ys : List A} → In a ys → In a (xs ++ ys)
in_right [] h = h
in_right (x ∷ xs) h = on (in_right xs h)

wider_take : {s : DottedRule} (dots : List DottedRule) (count : ℕ) → In s (take count dots)
    → In s (take (count + 1) dots)
wider_take [] zero h = absurd (not_in h)
wider_take [] (suc count) h = absurd (not_in h)
wider_take (x ∷ xs) zero h = absurd (not_in h)
wider_take {s = s} (x ∷ xs) (suc count) h =
    subst (λ v. In s (take v (x ∷ xs))) next (by h (λ g. wider_take xs count g))
  where
    next : suc (count + 1) ≡ suc count + 1
    next = omega arith

    by : In s (x ∷ take count xs) → (In s (take count xs) → In s (take (count + 1) xs))
        → In s (x ∷ take (count + 1) xs)
    by (now same) rest = now same
    by (on g) rest = on (rest g)

here_take : (dots : List DottedRule) (count : ℕ) (d : DottedRule) → count < length dots
    → In (slice_index_or dots count d) (take (count + 1) dots)
here_take [] count d less = absurd (omega (arith, less))
here_take (x ∷ xs) zero d less = subst (λ v. In x (take v (x ∷ xs))) next (now refl)
  where
    next : suc 0 ≡ 0 + 1
    next = omega arith
here_take (x ∷ xs) (suc count) d less =
    subst (λ v. In (slice_index_or xs count d) (take v (x ∷ xs))) next (on (here_take xs count d (omega (arith, less))))
  where
    next : suc (count + 1) ≡ suc count + 1
    next = omega arith

-- the node's dotted rules among the first so many
pub record AddsFirst (dots : List DottedRule) (count node : ℕ) (old new : List DottedRule) : Type 0 where
  pub added : List DottedRule
  pub grown : new ≡ old ++ added
  pub are : (s : DottedRule) → In s added ↔ (In s (take count dots) × (s.node ≡ node))

module _ (dots : List DottedRule) (node : ℕ) (old : List DottedRule) where
  pub first_none : AddsFirst dots 0 node old old
  first_none = record {
    added = [];
    grown = sym (append-nil old);
    are = λ s. (λ h. absurd (not_in h), λ h. absurd (not_in h.0));
  }

  pub first_all : (count : ℕ) (new : List DottedRule) → length dots ≤ count → AddsFirst dots count node old new
      → AddsNode dots node old new
  first_all count new le a = record {
    added = a.added;
    grown = a.grown;
    are = λ s. (
      λ h. let g = (a.are s).0 h in (from_front s dots count g.0, g.1),
      λ h. (a.are s).1 (in_front s dots count le h.0, h.1),
    );
  }

  module _ (count : ℕ) (d : DottedRule) (new : List DottedRule) (lt : count < length dots)
      (a : AddsFirst dots count node old new) where
    abbrev one : DottedRule
    one = slice_index_or dots count d

    wider_first : {s : DottedRule} → In s (take count dots) → In s (take (count + 1) dots)
    wider_first h = wider_take dots count h

    which_first : (s : DottedRule) → In s (take (count + 1) dots) → In s (take count dots) ⊎ (s ≡ one)
    which_first s h = among_more s dots count d lt (subst (λ v. In s (take v dots)) next h)
      where
        next : count + 1 ≡ suc count
        next = omega arith

    pub first_more : (more : List DottedRule) → more ≡ new ++ one ∷ [] → one.node ≡ node
        → AddsFirst dots (count + 1) node old more
    first_more more is at_node = record {
      added = a.added ++ one ∷ [];
      grown = is ∙ (ap (λ v. v ++ one ∷ []) a.grown ∙ assoc old a.added);
      are = λ s. (λ h. to s (before_end s one a.added h), λ h. back s (which_first s h.0) h.1);
    }
      where
        assoc : (xs ys : List DottedRule) → (xs ++ ys) ++ one ∷ [] ≡ xs ++ (ys ++ one ∷ [])
        assoc [] ys = refl
        assoc (x ∷ xs) ys = ap (λ v. x ∷ v) (assoc xs ys)

        to : (s : DottedRule) → In s a.added ⊎ (s ≡ one) → In s (take (count + 1) dots) × (s.node ≡ node)
        to s (inl h) = let g = (a.are s).0 h in (wider_first g.0, g.1)
        to s (inr same) = (
          subst (λ v. In v (take (count + 1) dots)) (sym same) (here_take dots count d lt),
          ap (λ v. v.node) same
              ∙ at_node,
        )

        back : (s : DottedRule) → In s (take count dots) ⊎ (s ≡ one) → s.node ≡ node → In s (a.added ++ one ∷ [])
        back s (inl h) same = in_left (one ∷ []) ((a.are s).1 (h, same))
        back s (inr same) node_is = subst (λ v. In v (a.added ++ one ∷ [])) (sym same) (at_end one a.added)

    pub first_same : (one.node ≡ node → ⊥) → AddsFirst dots (count + 1) node old new
    first_same other = record {
      added = a.added;
      grown = a.grown;
      are = λ s. (
        λ h. let g = (a.are s).0 h in (wider_first g.0, g.1),
        λ h. back s (which_first s h.0) h.1,
      );
    }
      where
        back : (s : DottedRule) → In s (take count dots) ⊎ (s ≡ one) → s.node ≡ node → In s a.added
        back s (inl h) same = (a.are s).1 (h, same)
        back s (inr same) node_is = absurd (other (ap (λ v. v.node) (sym same) ∙ node_is))

-- what a dotted rule enters
module _ (tables : code_flat.Tables) (dots : List DottedRule) (q : DottedRule) (entered : List ℕ)
    (old : List DottedRule) where
  pub enters_none : ((m : ℕ) → Enters tables q m → In m entered) → EntersFrom tables dots q entered entered old old
  enters_none has = record {
    added = [];
    grown = sym (append-nil old);
    sound = λ s h. absurd (not_in h);
    kept = λ m h. h;
    all = λ m h. inl h;
    has = has;
  }

  pub calls_nothing : callee_of tables (item_at 0 q) ≡ None → (m : ℕ) → Enters tables q m → In m entered
  calls_nothing none m e = let some = e.callee in absurd (cc (none, some))

  module _ (node next : ℕ) (is : callee_of tables (item_at 0 q) ≡ Some (node, next)) where
    same_node : {m : ℕ} → Enters tables q m → node ≡ m
    same_node e = let some = e.callee in ap (λ v. v.0) (pair_same (sym is ∙ some))

    pub calls_name : name_of tables node ≡ true → (m : ℕ) → Enters tables q m → In m entered
    calls_name is_true m e =
        let is_false = subst (λ v. name_of tables v ≡ false) (sym (same_node e)) e.no_name in
        absurd (cc (is_true, is_false))

    pub was_entered : In node entered → (m : ℕ) → Enters tables q m → In m entered
    was_entered h m e = subst (λ v. In v entered) (same_node e) h

    pub enters_node : (more : List ℕ) (new : List DottedRule) → name_of tables node ≡ false
        → more ≡ entered ++ node ∷ [] → AddsNode dots node old new → EntersFrom tables dots q entered more old new
    enters_node more new is_false grown adds = record {
      added = adds.added;
      grown = adds.grown;
      sound = λ s h. let g = (adds.are s).0 h in (
        record {
          next = next;
          callee = subst (λ v. callee_of tables (item_at 0 q) ≡ Some (v, next)) (sym g.1) is;
          no_name = subst (λ v. name_of tables v ≡ false) (sym g.1) is_false;
        },
        g.0,
      );
      kept = λ m h. subst (λ v. In m v) (sym grown) (in_left (node ∷ []) h);
      all = λ m h. by m (before_end m node entered (subst (λ v. In m v) grown h));
      has = λ m e. subst (λ v. In m v) (sym grown)
          (subst (λ v. In v (entered ++ node ∷ [])) (same_node e) (at_end node entered));
    }
      where
        by : (m : ℕ) → In m entered ⊎ (m ≡ node) → In m entered ⊎ ((s : DottedRule) → In s dots → s.node ≡ m
            → In s adds.added)
        by m (inl h) = inl h
        by m (inr same) = inr (λ s h at_m. (adds.are s).1 (h, at_m ∙ same))

-- how far the work on old dotted rules has come
pub record IsOldWork (tables : code_flat.Tables) (n : ℕ) (older dots old : List DottedRule) (entered : List ℕ)
    (count : ℕ) : Type 0 where
  pub sound : (s : DottedRule) → In s old → IsOldDot tables n older dots s
  pub older_in : (s : DottedRule) → In s older → In s old
  pub whole_in : n ≡ 0 → (s : DottedRule) → In s dots → s.node ≡ tables.start → In s old
  pub all : (m : ℕ) → In m entered → (s : DottedRule) → In s dots → s.node ≡ m → In s old
  pub worked : (s : DottedRule) → In s (take count old) → (m : ℕ) → Enters tables s m → In m entered

module _ (tables : code_flat.Tables) (n : ℕ) (older dots : List DottedRule) where
  pub work_begins : (old : List DottedRule) (none : List ℕ) → none ≡ [] → old ≡ older → (n ≡ 0 → ⊥)
      → IsOldWork tables n older dots old none 0
  work_begins old none is_none is some = record {
    sound = λ s h. dots_of.older (subst (λ v. In s v) is h);
    older_in = λ s h. subst (λ v. In s v) (sym is) h;
    whole_in = λ zero_is. absurd (some zero_is);
    all = λ m h. absurd (not_in (subst (λ v. In m v) is_none h));
    worked = λ s h. absurd (not_in h);
  }

  pub work_begins_whole : (mid old : List DottedRule) (none : List ℕ) → none ≡ [] → mid ≡ older → n ≡ 0
      → AddsNode dots tables.start mid old → IsOldWork tables n older dots old none 0
  work_begins_whole mid old none is_none is zero_is adds = record {
    sound = λ s h. from s (in_cases mid adds.added (subst (λ v. In s v) adds.grown h));
    older_in = λ s h. subst (λ v. In s v) (sym adds.grown) (in_left adds.added (subst (λ v. In s v) (sym is) h));
    whole_in = λ _ s h same. subst (λ v. In s v) (sym adds.grown) (in_right mid ((adds.are s).1 (h, same)));
    all = λ m h. absurd (not_in (subst (λ v. In m v) is_none h));
    worked = λ s h. absurd (not_in h);
  }
    where
      from : (s : DottedRule) → In s mid ⊎ In s adds.added → IsOldDot tables n older dots s
      from s (inl h) = dots_of.older (subst (λ v. In s v) is h)
      from s (inr h) = let g = (adds.are s).0 h in dots_of.whole zero_is g.0 g.1

  take_kept : (xs ys : List DottedRule) (k : ℕ) → k ≤ length xs → take k (xs ++ ys) ≡ take k xs
  take_kept xs ys zero le = refl
  take_kept [] ys (suc k) le = absurd (omega (arith, le))
  take_kept (x ∷ xs) ys (suc k) le = ap (λ v. x ∷ v) (take_kept xs ys k (omega (arith, le)))

  index_kept : (xs ys : List DottedRule) (k : ℕ) (d : DottedRule) → k < length xs
      → slice_index_or (xs ++ ys) k d ≡ slice_index_or xs k d
  index_kept [] ys k d lt = absurd (omega (arith, lt))
  index_kept (x ∷ xs) ys zero d lt = refl
  index_kept (x ∷ xs) ys (suc k) d lt = index_kept xs ys k d (omega (arith, lt))

  length_more : (xs ys : List DottedRule) → length xs ≤ length (xs ++ ys)
  length_more [] ys = omega arith
  length_more (x ∷ xs) ys = let le = length_more xs ys in omega (arith, le)

  pub work_more : (old new : List DottedRule) (entered more : List ℕ) (count : ℕ) (d : DottedRule)
      → count < length old → IsOldWork tables n older dots old entered count
      → EntersFrom tables dots (slice_index_or old count d) entered more old new
      → IsOldWork tables n older dots new more (count + 1)
  work_more old new entered more count d lt w e = record {
    sound = λ s h. from s (in_cases old e.added (subst (λ v. In s v) e.grown h));
    older_in = λ s h. kept s (w.older_in s h);
    whole_in = λ zero_is s h same. kept s (w.whole_in zero_is s h same);
    all = λ m h s stands same. all m (e.all m h) s stands same;
    worked = λ s h m enters. by s (among_more s new count d less (subst (λ v. In s (take v new)) next h)) m enters;
  }
    where
      next : count + 1 ≡ suc count
      next = omega arith

      less : count < length new
      less = let le = subst (λ v. length old ≤ length v) (sym e.grown) (length_more old e.added) in
          omega (arith, lt, le)

      from : (s : DottedRule) → In s old ⊎ In s e.added → IsOldDot tables n older dots s
      from s (inl h) = w.sound s h
      from s (inr h) =
          let g = e.sound s h in dots_of.entered (w.sound (slice_index_or old count d) (at_index_in old count d lt)) g.0
          g.1

      kept : (s : DottedRule) → In s old → In s new
      kept s h = subst (λ v. In s v) (sym e.grown) (in_left e.added h)

      all : (m : ℕ) → In m entered ⊎ ((s : DottedRule) → In s dots → s.node ≡ m → In s e.added)
          → (s : DottedRule) → In s dots → s.node ≡ m → In s new
      all m (inl h) s stands same = kept s (w.all m h s stands same)
      all m (inr f) s stands same = subst (λ v. In s v) (sym e.grown) (in_right old (f s stands same))

      by : (s : DottedRule) → In s (take count new) ⊎ (s ≡ slice_index_or new count d) → (m : ℕ) → Enters tables s m
          → In m more
      by s (inl h) m enters = e.kept m (w.worked s (subst (λ v. In s v)
          (ap (λ v. take count v) e.grown ∙ take_kept old e.added count (omega (arith, lt))) h) m enters)
      by s (inr same) m enters =
          let here : s ≡ slice_index_or old count d =
          same ∙ (ap (λ v. slice_index_or v count d) e.grown ∙ index_kept old e.added count d lt) in
          e.has m (subst (λ v. Enters tables v m) here enters)

  pub work_done : (old : List DottedRule) (entered : List ℕ) (count : ℕ) → length old ≤ count
      → IsOldWork tables n older dots old entered count → AreOldDots tables n older dots old
  work_done old entered count le w = λ s. (w.sound s, back)
    where
      back : {s : DottedRule} → IsOldDot tables n older dots s → In s old
      back (dots_of.older {s = s} h) = w.older_in s h
      back (dots_of.whole {s = s} zero_is h same) = w.whole_in zero_is s h same
      back (dots_of.entered {q = q} {s = s} o e h) =
          w.all s.node (w.worked q (in_front q old count le (back o)) s.node e) s h refl

pub contains_in : (xs : List ℕ) (m : ℕ) → Contains xs m → In m xs
contains_in xs m h = subst (λ v. In v xs) h.2 (at_index_in xs h.0 m h.1)

-- one part more
pub part_more : (tables : code_flat.Tables) (n k : ℕ) (old new : List DottedRule) (part : DottedRule)
    (found : Option DottedRule) → found ≡ Some part → ((s : DottedRule) → (found ≡ Some s) ↔ IsPartOf tables n k s)
    → new ≡ old ++ part ∷ [] → (s : DottedRule) → In s new ↔ (In s old ⊎ IsPartOf tables n k s)
part_more tables n k old new part found there are is s = (
  λ h. to (before_end s part old (subst (λ v. In s v) is h)),
  λ h. subst (λ v. In s v) (sym is) (back h),
)
  where
    first : {a b : DottedRule} → ◌≡◌ {A = Option DottedRule} (Some a) (Some b) → a ≡ b
    first h = cc h

    to : In s old ⊎ (s ≡ part) → In s old ⊎ IsPartOf tables n k s
    to (inl h) = inl h
    to (inr same) = inr ((are s).0 (there ∙ ap (λ v. Some v) (sym same)))

    back : In s old ⊎ IsPartOf tables n k s → In s (old ++ part ∷ [])
    back (inl h) = in_left (part ∷ []) h
    back (inr p) = subst (λ v. In v (old ++ part ∷ [])) (first (sym there ∙ (are s).1 p)) (at_end part old)

-- the parts of the first so many
module _ (tables : code_flat.Tables) (dots : List DottedRule) where
  pub no_parts : (none : List DottedRule) → none ≡ [] → ArePartsOf tables (take 0 dots) none
  no_parts none is s = (λ h. absurd (not_in (subst (λ v. In s v) is h)), λ p. absurd (not_in p.stands))

  pub all_parts : (count : ℕ) (parts : List DottedRule) → length dots ≤ count
      → ArePartsOf tables (take count dots) parts
      → ArePartsOf tables dots parts
  all_parts count parts le are s = (
    λ h. let p = (are s).0 h in record { dot = p.dot; stands = from_front p.dot dots count p.stands; part = p.part },
    λ p. (are s).1 (record { dot = p.dot; stands = in_front p.dot dots count le p.stands; part = p.part }),
  )

  pub more_parts : (count : ℕ) (d : DottedRule) (parts new : List DottedRule) → count < length dots
      → ArePartsOf tables (take count dots) parts
      → ((s : DottedRule) → In s new ↔ (In s parts ⊎ IsPartOf tables (slice_index_or dots count d).node
      (slice_index_or dots count d).step s)) → ArePartsOf tables (take (count + 1) dots) new
  more_parts count d parts new lt are more s = (λ h. to ((more s).0 h), λ p. (more s).1 (which p (split p)))
    where
      to : In s parts ⊎ IsPartOf tables (slice_index_or dots count d).node (slice_index_or dots count d).step s
          → IsPartOfSome tables (take (count + 1) dots) s
      to (inl h) = let p = (are s).0 h in record { dot = p.dot; stands = wider_take dots count p.stands; part = p.part }
      to (inr p) = record { dot = slice_index_or dots count d; stands = here_take dots count d lt; part = p }

      split : (p : IsPartOfSome tables (take (count + 1) dots) s) → In p.dot (take count dots)
          ⊎ (p.dot ≡ slice_index_or dots count d)
      split p = among_more p.dot dots count d lt (subst (λ v. In p.dot (take v dots)) next p.stands)
        where
          next : count + 1 ≡ suc count
          next = omega arith

      which : (p : IsPartOfSome tables (take (count + 1) dots) s) → In p.dot (take count dots)
          ⊎ (p.dot ≡ slice_index_or dots count d)
          → In s parts ⊎ IsPartOf tables (slice_index_or dots count d).node (slice_index_or dots count d).step s
      which p (inl h) = inl ((are s).1 (record { dot = p.dot; stands = h; part = p.part }))
      which p (inr same) = inr (subst (λ (v : DottedRule). IsPartOf tables v.node v.step s) same p.part)

-- of an item set
module _ (tables : code_flat.Tables) (x : List ℕ) (n : ℕ) (set : List (Dot × ℕ))
    (is_set : IsSet (flat_of tables) x n set) (older dots old : List DottedRule)
    (are_older : AreOlderDotsOf set n older)
    (are_dots : AreDotsOf set dots) (are : AreOldDots tables n older dots old) where
  abbrev flat : Flat
  flat = flat_of tables

  dot_held : (s : DottedRule) → In s dots → (i : ℕ) × Holds flat x n (at s.node s.step) i
  dot_held s h = let g = (are_dots s).0 h in (g.origin, is_set.held (at s.node s.step) g.origin g.stands)

  held_dot : (s : DottedRule) (i : ℕ) → Holds flat x n (at s.node s.step) i → In s dots
  held_dot s i h = (are_dots s).1 (record { origin = i; stands = is_set.all (at s.node s.step) i h })

  origin_most : (p : Dot) (i : ℕ) → Holds flat x n p i → i ≤ n
  origin_most p i h = old_items_origin h
    where
      old_items_origin : {m i : ℕ} {p : Dot} → Holds flat x m p i → i ≤ m
      old_items_origin (Holds.begins st) = omega arith
      old_items_origin (Holds.called h c st) = omega arith
      old_items_origin (Holds.has_read h rd is has) = let le = old_items_origin h in omega (arith, le)
      old_items_origin (Holds.returned h e g c takes) =
          let one = old_items_origin h in let two = old_items_origin g in omega (arith, one, two)

  -- an origin, by which it is old
  at_origin : (i : ℕ) (s : ℕ) → i ≤ n → (i ≡ n → IsOld flat x n s n) → IsOld flat x n s i
  at_origin i s le now_old = by (cases_lt i n)
    where
      by : (i < n) ⊎ (n ≤ i) → IsOld flat x n s i
      by (inl lt) = old_items.before lt
      by (inr ge) =
          let same : i ≡ n = omega (arith, le, ge) in subst (λ v. IsOld flat x n s v) (sym same) (now_old same)

  old_held : {s : DottedRule} → IsOldDot tables n older dots s → (i : ℕ) × Holds flat x n (at s.node s.step) i
      × IsOld flat x n s.node i
  old_held (dots_of.older {s = s} h) =
      let g = (are_older s).0 h in
      (g.origin, is_set.held (at s.node s.step) g.origin g.stands, old_items.before g.older)
  old_held (dots_of.whole {s = s} zero_is h same) =
      let g = dot_held s h in
      let none : g.0 ≡ 0 = (let le = origin_most (at s.node s.step) g.0 g.1 in omega (arith, le, zero_is)) in (
        g.0,
        g.1,
        subst (λ v. IsOld flat x n v g.0) (sym same)
            (subst (λ v. IsOld flat x n flat.start v) (sym none) (old_items.whole zero_is)),
      )
  old_held (dots_of.entered {q = q} {s = s} o e h) =
      let from = old_held o in
      let g = dot_held s h in (
        g.0,
        g.1,
        at_origin g.0 s.node (origin_most (at s.node s.step) g.0 g.1)
            (λ same. old_items.entered from.1 from.2 (callee_calls tables q.node q.step e.callee)
            (λ name. let is_true = node_named tables s.node name in let is_false = e.no_name in
            cc (is_true, is_false))),
      )

  old_listed : {s i : ℕ} → IsOld flat x n s i → (p : DottedRule) → p.node ≡ s → Holds flat x n (at p.node p.step) i
      → IsOldDot tables n older dots p
  old_listed (old_items.before {i = i} lt) p same h =
      dots_of.older ((are_older p).1 (record { origin = i; older = lt; stands = is_set.all (at p.node p.step) i h }))
  old_listed (old_items.whole zero_is) p same h = dots_of.whole zero_is (held_dot p 0 h) same
  old_listed (old_items.entered {q = q} {r = r} {i = i} {s = s} g o c other) p same h =
      let e = calls_callee tables c in
      let from : DottedRule = record { node = e.0; step = e.1 } in
      dots_of.entered
      (old_listed o from (ap (λ v. node_at v) (sym e.3)) (subst (λ v. Holds flat x n v i) e.3 g))
      (subst (λ v. Enters tables from v) (sym same)
      (record { next = e.2; callee = e.5; no_name = not_named tables s other })) (held_dot p n h)

  pub parts_awaited : (parts : List DottedRule) → ArePartsOf tables old parts → AreAwaited flat x n parts
  parts_awaited parts found = record {
    sound = λ s h.
        let p = (found s).0 h in
        let o = old_held ((are p.dot).0 p.stands) in
        part_has tables x n (IsOld flat x n) p.dot.node p.dot.step s p.part o.0 o.1 o.2;
    whole = λ s p h st.
        let part = has_part_of tables x n (IsOld flat x n) s h in
        (found s).1 (record {
          dot = part.dot;
          stands = (are part.dot).1 (old_listed part.old part.dot refl part.held);
          part = part.part;
        });
  }
