-- The first of the alternatives before one that hides it, by where the first ones stand.
-- Serves: peg_hints
use Rattle.std.proofs.Common.{◌≡◌, ℕ, suc, ◌+◌, ◌<◌, ◌≤◌, Bool, true, false, cond, Option, Some, None, List, []}
use Rattle.std.proofs.Common.{◌∷◌, ◌++◌, length, take, drop, refl, sym, ap, ◌∙◌, arith}
use Rattle.std.specs.Prelude.{◌==◌, ◌&&◌, ◌||◌, not, bytes_eq, slice_get, if◌then◌else◌}
use Rattle.std.specs.Bool.{Decides, then_some}
use Rattle.std.specs.List.{find, list_any, starts_with}
use Rattle.std.specs.Option.{is_some, option_or}
use Rattle.std.proofs.Math.Nat.{min-eq_left, min-eq_right}
use Rattle.std.proofs.lemmas.Bool.Decides.{Decides-and, Decides-eqb, Decides-like, same_from_decides}
use Rattle.std.proofs.Common.{length-append}
use Rattle.std.proofs.Math.Seq.{take-append_seam}
use Rattle.std.proofs.lemmas.List.{length-take-le, take-append-drop}
use Rattle.std.proofs.lemmas.List.Folds.{list_any-append}
use Rattle.std.proofs.lemmas.Slice.Eq.{bytes_eq-Decides, starts_is}
use Rattle.diagnostics.specs.NumberLists.{positions_from}
use Rattle.diagnostics.proofs.NumberListsLemmas.{first-passes, none-passes}
use Rattle.pegread.specs.Pattern.{Pattern}
use Rattle.pegexplain.specs.CodeHints.{AreSizes, IsSized, earlier_position, first_at, hides, is_literal, is_sized}
use Rattle.pegexplain.specs.HiddenAlternatives.{AlternativeAt, HiddenBy, hidden_by, hidden_if, is_any, is_prefix}
use Rattle.pegexplain.specs.HiddenAlternatives.{shown_of, why_by}
use Rattle.pegexplain.specs.LeftUses.{or_else}
use Rattle.pegexplain.specs.declared.hints.why.Why.{Why}
use Rattle.pegexplain.specs.declared.hints.why.Why.TheVariants.{NeverFails, TakesAny, Prefix}

-- one more alternative
module _ (p : AlternativeAt → Bool) where
  more_first : (t : Bool) (n : ℕ) (a b c : List ℕ) → a ≡ b ++ c → cond t (n ∷ a) a ≡ cond t (n ∷ b) b ++ c
  more_first true n a b c h = ap (λ (l : List ℕ). n ∷ l) h
  more_first false n a b c h = h

  pub positions_pushed : (n m : ℕ) (xs : List AlternativeAt) (a : AlternativeAt) → m ≡ n + length xs
      → positions_from n p (xs ++ a ∷ []) ≡ positions_from n p xs ++ (if p a then m ∷ [] else [])
  positions_pushed n m [] a is =
      let same : n ≡ m = omega (arith, is) in ap (λ (k : ℕ). if p a then k ∷ [] else []) same
  positions_pushed n m (b ∷ xs) a is =
      more_first (p b) n (positions_from (suc n) p (xs ++ a ∷ [])) (positions_from (suc n) p xs)
      (if p a then m ∷ [] else []) (positions_pushed (suc n) m xs a (omega (arith, is)))

  first_of_both : (ns : List ℕ) (t : Bool) (m : ℕ) → slice_get (ns ++ (if t then m ∷ [] else [])) 0
      ≡ option_or (slice_get ns 0) (then_some t m)
  first_of_both [] true m = refl
  first_of_both [] false m = refl
  first_of_both (n ∷ ns) t m = refl

  pub first_pushed : (xs : List AlternativeAt) (a : AlternativeAt) (m : ℕ) → m ≡ length xs
      → first_at p (xs ++ a ∷ []) ≡ option_or (first_at p xs) (then_some (p a) m)
  first_pushed xs a m is =
      ap (λ (ns : List ℕ). slice_get ns 0) (positions_pushed 0 m xs a (omega (arith, is)))
      ∙ first_of_both (positions_from 0 p xs) (p a) m

-- the sizes of literals
pub sized_pushed : (old new : List ℕ) (xs : List AlternativeAt) (a : AlternativeAt) → IsSized old new a.literal
    → AreSizes old xs → AreSizes new (xs ++ a ∷ [])
sized_pushed old new [] a is are = (is.sized, tt)
sized_pushed old new (b ∷ xs) a is are = (is.kept b.literal are.0, sized_pushed old new xs a is are.1)

-- The earlier of two first positions is the first of both.
module _ (p q : AlternativeAt → Bool) where
  pub from_on : (r : AlternativeAt → Bool) (n m : ℕ) (xs : List AlternativeAt)
      → slice_get (positions_from n r xs) 0 ≡ Some m → n ≤ m
  from_on r n m [] e = absurd (cc e)
  from_on r n m (a ∷ xs) e = by (from_on r (suc n) m xs) (r a) e
    where
      by : (slice_get (positions_from (suc n) r xs) 0 ≡ Some m → suc n ≤ m) → (t : Bool)
          → slice_get (cond t (n ∷ positions_from (suc n) r xs) (positions_from (suc n) r xs)) 0 ≡ Some m → n ≤ m
      by deep true h = (let same : n ≡ m = cc h in omega (arith, same))
      by deep false h = (let le = deep h in omega (arith, le))

  front_is_earlier : (n : ℕ) (o : Option ℕ) → ((m : ℕ) → o ≡ Some m → n ≤ m) → earlier_position (Some n) o ≡ Some n
  front_is_earlier n None h = refl
  front_is_earlier n (Some m) h = ap Some (min-eq_left (h m refl))

  front_is_earlier_too : (n : ℕ) (o : Option ℕ) → ((m : ℕ) → o ≡ Some m → n ≤ m)
      → earlier_position o (Some n) ≡ Some n
  front_is_earlier_too n None h = refl
  front_is_earlier_too n (Some m) h = ap Some (min-eq_right (h m refl))

  first_from_both : (n : ℕ) (xs : List AlternativeAt)
      → earlier_position (slice_get (positions_from n p xs) 0) (slice_get (positions_from n q xs) 0)
      ≡ slice_get (positions_from n (λ a. p a || q a) xs) 0
  first_from_both n [] = refl
  first_from_both n (a ∷ xs) = by (first_from_both (suc n) xs) (p a) (q a)
    where
      late : (r : AlternativeAt → Bool) (m : ℕ) → slice_get (positions_from (suc n) r xs) 0 ≡ Some m → n ≤ m
      late r m e = let le = from_on r (suc n) m xs e in omega (arith, le)

      here : (m : ℕ) → Some n ≡ Some m → n ≤ m
      here m e = let same : n ≡ m = cc e in omega (arith, same)

      by : earlier_position (slice_get (positions_from (suc n) p xs) 0) (slice_get (positions_from (suc n) q xs) 0)
          ≡ slice_get (positions_from (suc n) (λ b. p b || q b) xs) 0 → (s t : Bool)
          → earlier_position (slice_get (cond s (n ∷ positions_from (suc n) p xs) (positions_from (suc n) p xs)) 0)
          (slice_get (cond t (n ∷ positions_from (suc n) q xs) (positions_from (suc n) q xs)) 0)
          ≡ slice_get (cond (s || t) (n ∷ positions_from (suc n) (λ b. p b || q b) xs)
          (positions_from (suc n) (λ b. p b || q b) xs)) 0
      by deep true true = front_is_earlier n (Some n) here
      by deep true false = front_is_earlier n _ (late q)
      by deep false true = front_is_earlier_too n _ (late p)
      by deep false false = deep

  pub first_of_either : (xs : List AlternativeAt) → earlier_position (first_at p xs) (first_at q xs)
      ≡ first_at (λ a. p a || q a) xs
  first_of_either xs = first_from_both 0 xs

-- tests that agree find the same
module _ (p q : AlternativeAt → Bool) where
  pub positions_agree : ((a : AlternativeAt) → p a ≡ q a) → (n : ℕ) (xs : List AlternativeAt)
      → positions_from n p xs ≡ positions_from n q xs
  positions_agree same n [] = refl
  positions_agree same n (a ∷ xs) =
      ap (λ t. cond t (n ∷ positions_from (suc n) p xs) (positions_from (suc n) p xs)) (same a)
      ∙ ap (λ (ns : List ℕ). cond (q a) (n ∷ ns) ns) (positions_agree same (suc n) xs)

  pub firsts_agree : ((a : AlternativeAt) → p a ≡ q a) → (xs : List AlternativeAt) → first_at p xs ≡ first_at q xs
  firsts_agree same xs = ap (λ (ns : List ℕ). slice_get ns 0) (positions_agree same 0 xs)

pub none_passes_at_all : (p : AlternativeAt → Bool) → ((a : AlternativeAt) → p a ≡ false) → (xs : List AlternativeAt)
    → first_at p xs ≡ None
none_passes_at_all p none xs = ap (λ (ns : List ℕ). slice_get ns 0) (by 0 xs)
  where
    by : (n : ℕ) (xs : List AlternativeAt) → positions_from n p xs ≡ []
    by n [] = refl
    by n (a ∷ xs) = ap (λ t. cond t (n ∷ positions_from (suc n) p xs) (positions_from (suc n) p xs)) (none a)
        ∙ by (suc n) xs

-- Literals that are prefixes of another one, by their sizes.
module _ (whole : List ℕ) where
  -- those that are prefixes, and whose sizes are among some
  abbrev pub is_prefix_sized : List ℕ → AlternativeAt → Bool
  is_prefix_sized sizes a = is_prefix a.literal (Some whole) && is_sized sizes a.literal

  begins_decides : (b : List ℕ) → Decides (starts_with (λ x y. x == y) whole b) (whole ≡ b ++ drop (length b) whole)
  begins_decides b =
      let s = starts_is Decides-eqb whole b (starts_with (λ x y. x == y) whole b) refl in
      (s.0, λ e. s.1 (drop (length b) whole) e)

  front_decides : (n : ℕ) (b : List ℕ) → n ≤ length whole
      → bytes_eq (take n whole) b ≡ (starts_with (λ x y. x == y) whole b && (n == length b))
  front_decides n b le = same_from_decides _ _
      (Decides-like _ forth back (bytes_eq-Decides (take n whole) b))
      (Decides-and _ _ (begins_decides b) (Decides-eqb n (length b)))
    where
      forth : take n whole ≡ b → (whole ≡ b ++ drop (length b) whole) × (n ≡ length b)
      forth e =
          let size : n ≡ length b = sym (length-take-le n whole le) ∙ ap length e in (
            sym (take-append-drop n whole) ∙ (ap (λ (z : List ℕ). z ++ drop n whole) e
                ∙ ap (λ (k : ℕ). b ++ drop k whole) size),
            size,
          )

      back : (whole ≡ b ++ drop (length b) whole) × (n ≡ length b) → take n whole ≡ b
      back h = ap (take n) h.0 ∙ (ap (λ (k : ℕ). take k (b ++ drop (length b) whole)) h.1
          ∙ take-append_seam b (drop (length b) whole))

  pub size_more : (sizes : List ℕ) (n : ℕ) (a : AlternativeAt) → n ≤ length whole
      → (is_prefix_sized sizes a || is_literal (take n whole) a.literal) ≡ is_prefix_sized (sizes ++ n ∷ []) a
  size_more sizes n a le = by a.literal
    where
      split : (s t u : Bool) → ((s && t) || (s && u)) ≡ (s && (t || (u || false)))
      split true true u = refl
      split true false true = refl
      split true false false = refl
      split false t u = refl

      by : (literal : Option (List ℕ))
          → ((is_prefix literal (Some whole) && is_sized sizes literal) || is_literal (take n whole) literal)
          ≡ (is_prefix literal (Some whole) && is_sized (sizes ++ n ∷ []) literal)
      by None = refl
      by (Some b) = rw (front_decides n b le, list_any-append (λ k. k == length b) sizes (n ∷ []))
          (split (starts_with (λ x y. x == y) whole b) (list_any (λ k. k == length b) sizes) (n == length b))

  pub size_past : (sizes : List ℕ) (n : ℕ) (a : AlternativeAt) → length whole < n
      → is_prefix_sized sizes a ≡ is_prefix_sized (sizes ++ n ∷ []) a
  size_past sizes n a lt = by a.literal
    where
      apart : (b : List ℕ) → starts_with (λ x y. x == y) whole b ≡ true → (n == length b) ≡ true → ⊥
      apart b s t =
          let e = (begins_decides b).0 s in
          let size = ap length e in
          let l = length-append b (drop (length b) whole) in
          let m = (Decides-eqb n (length b)).0 t in
          omega (arith, size, l, m, lt)

      both : (b : List ℕ) (s t u : Bool) → starts_with (λ x y. x == y) whole b ≡ s → (n == length b) ≡ u
          → (s && t) ≡ (s && (t || (u || false)))
      both b true t true e f = absurd (apart b e f)
      both b true true false e f = refl
      both b true false false e f = refl
      both b false t u e f = refl

      by : (literal : Option (List ℕ)) → (is_prefix literal (Some whole) && is_sized sizes literal)
          ≡ (is_prefix literal (Some whole) && is_sized (sizes ++ n ∷ []) literal)
      by None = refl
      by (Some b) = rw (list_any-append (λ k. k == length b) sizes (n ∷ []))
          (both b (starts_with (λ x y. x == y) whole b) (list_any (λ k. k == length b) sizes) (n == length b) refl refl)

  pub no_size_yet : (a : AlternativeAt) → is_prefix_sized [] a ≡ false
  no_size_yet a = by a.literal
    where
      and_false : (b : Bool) → (b && false) ≡ false
      and_false true = refl
      and_false false = refl

      by : (literal : Option (List ℕ)) → (is_prefix literal (Some whole) && is_sized [] literal) ≡ false
      by None = refl
      by (Some b) = and_false (starts_with (λ x y. x == y) whole b)

  -- where all sizes are known
  pub all_sized : (sizes : List ℕ) (xs : List AlternativeAt) → AreSizes sizes xs
      → first_at (is_prefix_sized sizes) xs ≡ first_at (λ a. is_prefix a.literal (Some whole)) xs
  all_sized sizes xs are = ap (λ (ns : List ℕ). slice_get ns 0) (by 0 xs are)
    where
      and_true : (b c : Bool) → c ≡ true → (b && c) ≡ b
      and_true true c e = e
      and_true false c e = refl

      by : (n : ℕ) (xs : List AlternativeAt) → AreSizes sizes xs → positions_from n (is_prefix_sized sizes) xs
          ≡ positions_from n (λ a. is_prefix a.literal (Some whole)) xs
      by n [] are = refl
      by n (a ∷ xs) are =
          ap (λ t. cond t (n ∷ positions_from (suc n) (is_prefix_sized sizes) xs)
          (positions_from (suc n) (is_prefix_sized sizes) xs))
          (and_true (is_prefix a.literal (Some whole)) (is_sized sizes a.literal) are.0)
          ∙ ap (λ (ns : List ℕ). cond (is_prefix a.literal (Some whole)) (n ∷ ns) ns) (by (suc n) xs are.1)

-- without a literal there is no prefix
pub none_prefixes : (xs : List AlternativeAt) → first_at (λ a. is_prefix a.literal None) xs ≡ None
none_prefixes xs = none_passes_at_all (λ a. is_prefix a.literal None) (λ a. by a.literal) xs
  where
    by : (literal : Option (List ℕ)) → is_prefix literal None ≡ false
    by None = refl
    by (Some b) = refl

-- what hides
pub hides_or : (whole : Option (List ℕ)) (a : AlternativeAt)
    → ((a.sure || is_prefix a.literal whole) || is_any a.e) ≡ hides false whole a
hides_or whole a = by a.sure (is_any a.e) (is_prefix a.literal whole)
  where
    by : (s d p : Bool) → ((s || p) || d) ≡ is_some (if s then Some NeverFails
        else (if d && not false then Some TakesAny else (if p then Some Prefix else None)))
    by true d p = refl
    by false true true = refl
    by false true false = refl
    by false false true = refl
    by false false false = refl

pub hides_null_or : (whole : Option (List ℕ)) (a : AlternativeAt)
    → (a.sure || is_prefix a.literal whole) ≡ hides true whole a
hides_null_or whole a = by a.sure (is_any a.e) (is_prefix a.literal whole)
  where
    by : (s d p : Bool) → (s || p) ≡ is_some (if s then Some NeverFails
        else (if d && not true then Some TakesAny else (if p then Some Prefix else None)))
    by true d p = refl
    by false true true = refl
    by false true false = refl
    by false false true = refl
    by false false false = refl

-- the first that hides an alternative
module _ (e : Pattern) (null : Bool) (whole : Option (List ℕ)) where
  abbrev pub why_of : AlternativeAt → Option Why
  why_of a = why_by a.sure (is_any a.e) a.literal null whole

  abbrev pub hidden_of : Option AlternativeAt → Option HiddenBy
  hidden_of None = None
  hidden_of (Some a) = hidden_if a.e e (why_of a)

  hidden_by_first : (xs : List AlternativeAt) → hidden_by e null whole xs ≡ hidden_of (find (hides null whole) xs)
  hidden_by_first [] = refl
  hidden_by_first (a ∷ xs) = by (hidden_by_first xs) (why_of a) refl
    where
      by : hidden_by e null whole xs ≡ hidden_of (find (hides null whole) xs) → (why : Option Why) → why_of a ≡ why
          → or_else (hidden_if a.e e why) (hidden_by e null whole xs)
          ≡ hidden_of (cond (is_some why) (Some a) (find (hides null whole) xs))
      by deep None is = deep
      by deep (Some why) is = rw is refl

  pub hidden_at_first : (xs : List AlternativeAt) (k : ℕ) → first_at (hides null whole) xs ≡ Some k
      → hidden_by e null whole xs ≡ hidden_of (slice_get xs k)
  hidden_at_first xs k at = hidden_by_first xs
      ∙ ap hidden_of (sym (first-passes (hides null whole) [] xs k at))

  pub hidden_by_none : (xs : List AlternativeAt) → first_at (hides null whole) xs ≡ None
      → hidden_by e null whole xs ≡ None
  hidden_by_none xs at = hidden_by_first xs ∙ ap hidden_of (none-passes (hides null whole) 0 xs at)

  pub shown_with : (a : AlternativeAt) (why : Why) → why_of a ≡ Some why
      → hidden_of (Some a) ≡ Some (record { later = shown_of why e; earlier = a.e; why = why })
  shown_with a why is = rw is refl

  pub shown_without : (a : AlternativeAt) → why_of a ≡ None → hidden_of (Some a) ≡ None
  shown_without a is = rw is refl
