-- Whether the letters of a line begin a list that a rule derives is decided. So it is known how far they do.
-- Serves: derivation_is_decided, furthest_is_found
use Rattle.std.proofs.Common.{◌≡◌, ℕ, zero, suc, ◌+◌, ◌<◌, ◌≤◌, ◌⊎◌, inl, inr, Bool, true, false, ◌&&◌, ◌||◌, eqb, List}
use Rattle.std.proofs.Common.{[], ◌∷◌, ◌++◌, length, Option, Some, None, refl, sym, ◌∙◌, ap, subst, arith, eqb-true}
use Rattle.std.proofs.Common.{eq-eqb, ⊎_elim}
use Rattle.std.specs.Prelude.{slice_get, take}
use Rattle.std.proofs.lemmas.Bool.{cases_lt}
use Rattle.std.proofs.lemmas.List.{append-nil}
use Rattle.abnfread.specs.Element.{Rule}
use Rattle.abnfcheck.specs.Prefixes.{BeginsMember, IsFurthest}
use Rattle.abnfcheck.specs.Decided.{Says}
use Rattle.abnfcheck.specs.Derivable.{AreLetters, RuleDerives}
use Rattle.abnfcheck.proofs.DerivesDecidedLemmas.{and_first, and_second, and_true, or_true, or_first, or_second}
use Rattle.abnfcheck.proofs.DerivesDecidedLemmas.{RulePath, rule_path_is_decided}
use Rattle.abnfcheck.proofs.IsPathLemmas.{IsPath, here, step, paths_join}
use Rattle.abnfcheck.proofs.LiesLemmas.{OnLine, Lies, lies_one_word, all_of}

abbrev is_that : ℕ → Option ℕ → Bool
is_that c None = false
is_that c (Some d) = eqb d c

that_is : (c : ℕ) (o : Option ℕ) → is_that c o ≡ true → o ≡ Some c
that_is c None h = absurd (cc h)
that_is c (Some d) h = ap Some (eqb-true d c h)

is_that_one : (c : ℕ) (o : Option ℕ) → o ≡ Some c → is_that c o ≡ true
is_that_one c o is = rw is (eq-eqb c c refl)

stands_before : (x : List ℕ) (i c : ℕ) → slice_get x i ≡ Some c → i < length x
stands_before [] i c is = absurd cc
stands_before (b ∷ x) zero c is = omega arith
stands_before (b ∷ x) (suc i) c is = omega (arith, stands_before x i c is)

-- `more` marks the letters that may follow those of x
module _ (more : ℕ → Bool) (x : List ℕ) where
  -- the letter at i leads to the position after it, and each letter of `more` from the end to the end
  abbrev goes : ℕ → ℕ → ℕ → Bool
  goes i c k = (is_that c (slice_get x i) && eqb (i + 1) k) || (more c && (eqb i (length x) && eqb k (length x)))

  abbrev Goes : ℕ → ℕ → ℕ → Type 0
  Goes i c k = goes i c k ≡ true

  goes_moves : (i c k : ℕ) → goes i c k ≡ true → OnLine x i c k ⊎ ((more c ≡ true) × (i ≡ length x) × (k ≡ length x))
  goes_moves i c k h = ⊎_elim
      (λ l. inl (
        that_is c (slice_get x i) (and_first (is_that c (slice_get x i)) (eqb (i + 1) k) l),
        eqb-true (i + 1) k (and_second (is_that c (slice_get x i)) (eqb (i + 1) k) l),
      ))
      (λ r.
      let ends = and_second (more c) (eqb i (length x) && eqb k (length x)) r in
      inr (
        and_first (more c) (eqb i (length x) && eqb k (length x)) r,
        eqb-true i (length x) (and_first (eqb i (length x)) (eqb k (length x)) ends),
        eqb-true k (length x) (and_second (eqb i (length x)) (eqb k (length x)) ends),
      ))
      (or_true (is_that c (slice_get x i) && eqb (i + 1) k) (more c && (eqb i (length x) && eqb k (length x))) h)

  goes_within : (i c k : ℕ) → goes i c k ≡ true → k ≤ length x
  goes_within i c k h = ⊎_elim (λ on. let lt = stands_before x i c on.0 in omega (arith, lt, on.1))
      (λ end. omega (arith, end.2)) (goes_moves i c k h)

  -- a list of letters, cut at the line's end
  record Parts (i : ℕ) (w : List ℕ) : Type 0 where
    front : List ℕ
    rest : List ℕ
    lies : Lies x i front (length x)
    letters : AreLetters more rest
    parts : front ++ rest ≡ w

  parts_of : {i j : ℕ} {w : List ℕ} → IsPath Goes i w j → j ≡ length x → Parts i w
  parts_of (here {i = i}) e = record {
    front = [];
    rest = [];
    lies = subst (λ v. Lies x i [] v) e here;
    letters = tt;
    parts = refl;
  }
  parts_of (step {i = i} {k = k} {c = c} {w = w} is l) e =
      let p = parts_of l e in
      ⊎_elim
      (λ on. record {
        front = c ∷ p.front;
        rest = p.rest;
        lies = step on p.lies;
        letters = p.letters;
        parts = ap (λ v. c ∷ v) p.parts;
      })
      (λ end.
      let none : p.front ≡ [] = lies_one_word x (subst (λ v. Lies x v p.front (length x)) end.2 p.lies) here in
      record {
        front = [];
        rest = c ∷ p.rest;
        lies = subst (λ v. Lies x v [] (length x)) (sym end.1) here;
        letters = (end.0, p.letters);
        parts = ap (λ v. c ∷ v) (subst (λ v. v ++ p.rest ≡ w) none p.parts);
      })
      (goes_moves i c k is)

  lies_path : {i j : ℕ} {w : List ℕ} → Lies x i w j → IsPath Goes i w j
  lies_path here = here
  lies_path (step {i = i} {k = k} {c = c} is l) = step
      (or_first (is_that c (slice_get x i) && eqb (i + 1) k) (more c && (eqb i (length x) && eqb k (length x)))
      (and_true (is_that c (slice_get x i)) (eqb (i + 1) k) (is_that_one c (slice_get x i) is.0)
      (eq-eqb (i + 1) k is.1)))
      (lies_path l)

  letters_path : (v : List ℕ) → AreLetters more v → IsPath Goes (length x) v (length x)
  letters_path [] all = here
  letters_path (c ∷ v) all = step
      (or_second (is_that c (slice_get x (length x)) && eqb (length x + 1) (length x))
      (more c && (eqb (length x) (length x) && eqb (length x) (length x)))
      (and_true (more c) (eqb (length x) (length x) && eqb (length x) (length x)) all.0
      (and_true (eqb (length x) (length x)) (eqb (length x) (length x)) (eq-eqb (length x) (length x) refl)
      (eq-eqb (length x) (length x) refl))))
      (letters_path v all.1)

  module _ (has : ℕ → Bool) (rules : List Rule) (id : ℕ) where
    -- the rule derives x with some letters of `more` after it
    record Longer : Type 0 where
      rest : List ℕ
      letters : AreLetters more rest
      derives : RuleDerives has rules id (x ++ rest)

    longer_member : RulePath has rules (length x) goes goes_within id 0 (length x) → Longer
    longer_member r =
        let p = parts_of r.path refl in
        let whole : p.front ≡ x = lies_one_word x p.lies (all_of x) in
        record {
          rest = p.rest;
          letters = p.letters;
          derives = subst (λ v. RuleDerives has rules id (v ++ p.rest)) whole
              (subst (λ v. RuleDerives has rules id v) (sym p.parts) r.derives);
        }

    path_of_longer : Longer → RulePath has rules (length x) goes goes_within id 0 (length x)
    path_of_longer l = record {
      word = x ++ l.rest;
      path = paths_join Goes (lies_path (all_of x)) (letters_path l.rest l.letters);
      derives = l.derives;
    }

    longer_is_decided : (yes : Bool) × Says Longer yes
    longer_is_decided = let h = rule_path_is_decided has rules (length x) goes goes_within id 0 (length x) (omega arith)
        (omega arith) in by h.0 h.1
      where
        by : (said : Bool) → Says (RulePath has rules (length x) goes goes_within id 0 (length x)) said → (yes : Bool)
            × Says Longer yes
        by true r = (true, longer_member r)
        by false none = (false, λ l. none (path_of_longer l))

abbrev nothing : ℕ → Bool
nothing c = false

no_letters : (v : List ℕ) → AreLetters nothing v → v ≡ []
no_letters [] all = refl
no_letters (c ∷ v) all = absurd (cc all.0)

module _ (has : ℕ → Bool) (rules : List Rule) (id : ℕ) (x : List ℕ) where
  pub rule_derives_is_decided : (yes : Bool) × Says (RuleDerives has rules id x) yes
  rule_derives_is_decided = let h = longer_is_decided nothing x has rules id in by h.0 h.1
    where
      by : (said : Bool) → Says (Longer nothing x has rules id) said → (yes : Bool)
          × Says (RuleDerives has rules id x) yes
      by true l = (
        true,
        subst (λ v. RuleDerives has rules id v) (ap (λ v. x ++ v) (no_letters l.rest l.letters)
            ∙ append-nil x) l.derives,
      )
      by false none = (
        false,
        λ d. none (record {
          rest = [];
          letters = tt;
          derives = subst (λ v. RuleDerives has rules id v) (sym (append-nil x)) d;
        }),
      )

  begins_is_decided : (n : ℕ) → (yes : Bool) × Says (BeginsMember has rules id x n) yes
  begins_is_decided n = let h = longer_is_decided has (take n x) has rules id in by h.0 h.1
    where
      by : (said : Bool) → Says (Longer has (take n x) has rules id) said → (yes : Bool)
          × Says (BeginsMember has rules id x n) yes
      by true l = (true, record { rest = l.rest; letters = l.letters; derives = l.derives })
      by false none = (false, λ b. none (record { rest = b.rest; letters = b.letters; derives = b.derives }))

  -- none of more than n letters begins one
  abbrev NoneAbove : ℕ → Type 0
  NoneAbove n = (m : ℕ) → n < m → m ≤ length x → BeginsMember has rules id x m → ⊥

  furthest_below : (n : ℕ) → n ≤ length x → NoneAbove n → (k : ℕ) × IsFurthest has rules id x k
  furthest_below zero le above = (0, record { within = le; begins = λ h. absurd (omega (arith, h)); last = above })
  furthest_below (suc n) le above =
      let h = begins_is_decided (suc n) in by h.0 h.1 (λ none. furthest_below n (omega (arith, le)) none)
    where
      by : (said : Bool) → Says (BeginsMember has rules id x (suc n)) said
          → (NoneAbove n → (k : ℕ) × IsFurthest has rules id x k) →
          (k : ℕ) × IsFurthest has rules id x k
      by true b go = (suc n, record { within = le; begins = λ h. b; last = above })
      by false none go = go (λ m lt most b. ⊎_elim
          (λ less. above m less most b)
          (λ same. let is : m ≡ suc n = omega (arith, lt, same) in
          none (subst (λ v. BeginsMember has rules id x v) is b))
          (cases_lt (suc n) m))

  pub furthest_found : (n : ℕ) × IsFurthest has rules id x n
  furthest_found = furthest_below (length x) (omega arith) (λ m lt most b. absurd (omega (arith, lt, most)))

  not_further : (a b : ℕ) → IsFurthest has rules id x a → IsFurthest has rules id x b → a < b → ⊥
  not_further a b f g lt = f.last b lt g.within (g.begins (omega (arith, lt)))

  pub one_furthest : (a b : ℕ) → IsFurthest has rules id x a → IsFurthest has rules id x b → a ≡ b
  one_furthest a b f g = ⊎_elim
      (λ lt. absurd (not_further a b f g lt))
      (λ le. ⊎_elim (λ lt. absurd (not_further b a g f lt)) (λ same. omega (arith, le, same)) (cases_lt b a))
      (cases_lt a b)
