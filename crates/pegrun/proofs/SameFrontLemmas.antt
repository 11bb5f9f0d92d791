-- What an expression gives depends on the bytes that it compares alone, not on those that follow them.
-- Serves: run_peg (right)
use Rattle.std.proofs.Common.{◌≡◌, ℕ, zero, suc, ◌+◌, ◌-◌, ◌<◌, ◌≤◌, Bool, true, false, ◌&&◌, if◌then◌else◌, ◌==◌}
use Rattle.std.proofs.Common.{List, [], ◌∷◌, ◌++◌, length, drop, refl, sym, ◌∙◌, ap, arith, length-drop, None}
use Rattle.std.proofs.lemmas.List.{drop-append-le}
use Rattle.std.specs.Prelude.{slice_get}
use Rattle.pegread.specs.Pattern.{Pattern, Patterns, Rule}
use Rattle.gramcheck.specs.Outcome.{Outcome, begins_with, compared, looked_at, Gives, any_takes, any_at_end, set_takes}
use Rattle.gramcheck.specs.Outcome.{set_fails, set_at_end, bytes_take, bytes_fail, act, open_at, close_at, name, seq}
use Rattle.gramcheck.specs.Outcome.{choice, opt_takes, opt_none, star_none, star_more, plus_fails, plus_takes}
use Rattle.gramcheck.specs.Outcome.{and_takes, and_fails, not_takes, not_fails, GivesAll, all_done, one_fails}
use Rattle.gramcheck.specs.Outcome.{rest_fails, rest_takes, GivesFirst, all_failed, first_takes, first_fails, RuleGives}
use Rattle.gramcheck.proofs.LongerInputLemmas.{ends_by, slice_get_more}

-- a byte stands up to the end of the front
some_there : (w : List ℕ) (c : ℕ) (cs : List ℕ) (p : ℕ) → p ≤ length w → slice_get (w ++ (c ∷ cs)) p ≡ None → ⊥
some_there [] c cs zero le h = cc h
some_there [] c cs (suc p) le h = omega arith
some_there (b ∷ w) c cs zero le h = cc h
some_there (b ∷ w) c cs (suc p) le h = some_there w c cs p (omega arith) h

-- a comparison that ends within the front
record SameCompared (t x y bs : List ℕ) : Type 0 where
  begins : begins_with (t ++ y) bs ≡ begins_with (t ++ x) bs
  far : compared (t ++ y) bs ≡ compared (t ++ x) bs

none_compared : (v : Bool) (n : ℕ) → (if v then n + 1 else 1) ≤ 0 → ⊥
none_compared true n h = omega arith
none_compared false n h = omega arith

one_less : (v : Bool) (k n : ℕ) → v ≡ true → (if v then k + 1 else 1) ≤ suc n → k ≤ n
one_less v k n is h = let g = rw is at h in omega (arith, g)

same_step : (v : Bool) (d b : ℕ) (t x y bs : List ℕ) → (d == b) ≡ v →
    compared (d ∷ (t ++ x)) (b ∷ bs) ≤ suc (length t) → (compared (t ++ x) bs ≤ length t → SameCompared t x y bs)
    → SameCompared (d ∷ t) x y (b ∷ bs)
same_step true d b t x y bs is h ih =
    let g = ih (one_less (d == b) (compared (t ++ x) bs) (length t) is h) in
    record { begins = ap (λ w. (d == b) && w) g.begins; far = ap (λ k. if d == b then k + 1 else 1) g.far }
same_step false d b t x y bs is h ih = record { begins = rw is refl; far = rw is refl }

same_compared : (t : List ℕ) (c : ℕ) (cs y bs : List ℕ) → compared (t ++ (c ∷ cs)) bs ≤ length t
    → SameCompared t (c ∷ cs) y bs
same_compared [] c cs y [] h = record { begins = refl; far = refl }
same_compared [] c cs y (b ∷ bs) h = absurd (none_compared (c == b) (compared cs bs) h)
same_compared (d ∷ t) c cs y [] h = record { begins = refl; far = refl }
same_compared (d ∷ t) c cs y (b ∷ bs) h =
    same_step (d == b) d b t (c ∷ cs) y bs refl h (λ k. same_compared t c cs y bs k)

looked_within : (p n m : ℕ) → looked_at p n ≤ m → p ≤ m → n ≤ m - p
looked_within p zero m h le = omega arith
looked_within p (suc n) m h le = omega arith

module _ (rules : List Rule) (w : List ℕ) (c : ℕ) (cs y : List ℕ) where
  abbrev x : List ℕ
  x = w ++ (c ∷ cs)

  same_byte : (p : ℕ) → p < length w → slice_get (w ++ y) p ≡ slice_get x p
  same_byte p lt = slice_get_more w y p lt ∙ sym (slice_get_more w (c ∷ cs) p lt)

  same_bytes : (p : ℕ) (bs : List ℕ) → p ≤ length w → looked_at p (compared (drop p x) bs) ≤ length w
      → SameCompared (drop p w) (c ∷ cs) y bs
  same_bytes p bs le h =
      let g = rw (drop-append-le p w (c ∷ cs) le) at h in
      let l = length-drop p w in
      same_compared (drop p w) c cs y bs (let n = looked_within p _ (length w) g le in omega (arith, n, l))

  mutual
    gives_same_front : {e : Pattern} {p k : ℕ} {o : Outcome} → Gives rules x e p o k → p ≤ length w → k ≤ length w
        → Gives rules (w ++ y) e p o k
    gives_same_front (any_takes {p = p} h) le less = any_takes (same_byte p (omega arith) ∙ h)
    gives_same_front (any_at_end {p = p} h) le less = absurd (some_there w c cs p le h)
    gives_same_front (set_takes {p = p} h g) le less = set_takes (same_byte p (omega arith) ∙ h) g
    gives_same_front (set_fails {p = p} h g) le less = set_fails (same_byte p (omega arith) ∙ h) g
    gives_same_front (set_at_end {p = p} h) le less = absurd (some_there w c cs p le h)
    gives_same_front (bytes_take {bs = bs} {p = p} h) le less =
        let same = same_bytes p bs le less in
        let was : begins_with (drop p w ++ (c ∷ cs)) bs ≡ true = rw (← drop-append-le p w (c ∷ cs) le) h in
        let begins : begins_with (drop p (w ++ y)) bs ≡ true = rw (drop-append-le p w y le) (same.begins ∙ was) in
        let far : compared (drop p (w ++ y)) bs ≡ compared (drop p x) bs =
        rw (drop-append-le p w y le, drop-append-le p w (c ∷ cs) le) same.far in
        rw (← far) (bytes_take begins)
    gives_same_front (bytes_fail {bs = bs} {p = p} h) le less =
        let same = same_bytes p bs le less in
        let was : begins_with (drop p w ++ (c ∷ cs)) bs ≡ false = rw (← drop-append-le p w (c ∷ cs) le) h in
        let begins : begins_with (drop p (w ++ y)) bs ≡ false = rw (drop-append-le p w y le) (same.begins ∙ was) in
        let far : compared (drop p (w ++ y)) bs ≡ compared (drop p x) bs =
        rw (drop-append-le p w y le, drop-append-le p w (c ∷ cs) le) same.far in
        rw (← far) (bytes_fail begins)
    gives_same_front act le less = act
    gives_same_front open_at le less = open_at
    gives_same_front close_at le less = close_at
    gives_same_front (name h d) le less = name h (gives_same_front d le less)
    gives_same_front (seq d) le less = seq (all_same_front d le less)
    gives_same_front (choice d) le less = choice (first_same_front d le less)
    gives_same_front (opt_takes d) le less = opt_takes (gives_same_front d le less)
    gives_same_front (opt_none d) le less = opt_none (gives_same_front d le less)
    gives_same_front (star_none d) le less = star_none (gives_same_front d le less)
    gives_same_front (star_more d e) le less = star_more (gives_same_front d le (omega arith))
        (gives_same_front e (omega (arith, ends_by rules x d)) (omega arith))
    gives_same_front (plus_fails d) le less = plus_fails (gives_same_front d le less)
    gives_same_front (plus_takes d e) le less = plus_takes (gives_same_front d le (omega arith))
        (gives_same_front e (omega (arith, ends_by rules x d)) (omega arith))
    gives_same_front (and_takes d) le less = and_takes (gives_same_front d le less)
    gives_same_front (and_fails d) le less = and_fails (gives_same_front d le less)
    gives_same_front (not_takes d) le less = not_takes (gives_same_front d le less)
    gives_same_front (not_fails d) le less = not_fails (gives_same_front d le less)

    all_same_front : {es : Patterns} {p k : ℕ} {o : Outcome} → GivesAll rules x es p o k → p ≤ length w → k ≤ length w
        → GivesAll rules (w ++ y) es p o k
    all_same_front all_done le less = all_done
    all_same_front (one_fails d) le less = one_fails (gives_same_front d le less)
    all_same_front (rest_fails d e) le less = rest_fails (gives_same_front d le (omega arith))
        (all_same_front e (omega (arith, ends_by rules x d)) (omega arith))
    all_same_front (rest_takes d e) le less = rest_takes (gives_same_front d le (omega arith))
        (all_same_front e (omega (arith, ends_by rules x d)) (omega arith))

    first_same_front : {es : Patterns} {p k : ℕ} {o : Outcome} → GivesFirst rules x es p o k → p ≤ length w
        → k ≤ length w → GivesFirst rules (w ++ y) es p o k
    first_same_front all_failed le less = all_failed
    first_same_front (first_takes d) le less = first_takes (gives_same_front d le less)
    first_same_front (first_fails d e) le less =
        first_fails (gives_same_front d le (omega arith)) (first_same_front e le (omega arith))

-- of a start rule
pub same_front_of_start : (rules : List Rule) (start : ℕ) (w : List ℕ) (c : ℕ) (cs y : List ℕ) (k : ℕ) (o : Outcome)
    → k ≤ length w → RuleGives rules start (w ++ (c ∷ cs)) o k → RuleGives rules start (w ++ y) o k
same_front_of_start rules start w c cs y k o le d = record {
  body = d.body;
  rule = d.rule;
  gives = gives_same_front rules w c cs y d.gives (omega arith) le;
}
