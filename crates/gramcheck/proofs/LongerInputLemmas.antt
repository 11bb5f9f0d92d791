-- What an expression gives before it has looked at the input's end is what it gives on every longer input.
-- Serves: longer_input, longer_input_of_start, shorter_input, shorter_input_of_start
use Rattle.std.proofs.Common.{◌≡◌, ℕ, zero, suc, ◌+◌, ◌-◌, ◌<◌, ◌≤◌, max, Bool, true, false, ◌&&◌, if◌then◌else◌, ◌==◌}
use Rattle.std.proofs.Common.{List, [], ◌∷◌, ◌++◌, length, drop, refl, ◌∙◌, ap, arith, length-drop}
use Rattle.std.proofs.lemmas.List.{drop-append-le}
use Rattle.std.specs.Prelude.{slice_get}
use Rattle.pegread.specs.Pattern.{Pattern, Patterns, Rule}
use Rattle.gramcheck.specs.Outcome.{Outcome, Fails, Takes, begins_with, compared, looked_at, Gives, any_takes}
use Rattle.gramcheck.specs.Outcome.{any_at_end, set_takes, set_fails, set_at_end, bytes_take, bytes_fail, act, open_at}
use Rattle.gramcheck.specs.Outcome.{close_at, name, seq, choice, opt_takes, opt_none, star_none, star_more, plus_fails}
use Rattle.gramcheck.specs.Outcome.{plus_takes, and_takes, and_fails, not_takes, not_fails, GivesAll, all_done}
use Rattle.gramcheck.specs.Outcome.{one_fails, rest_fails, rest_takes, GivesFirst, all_failed, first_takes, first_fails}

pub slice_get_more : (x y : List ℕ) (p : ℕ) → p < length x → slice_get (x ++ y) p ≡ slice_get x p
slice_get_more [] y p h = absurd (omega arith)
slice_get_more (b ∷ x) y zero h = refl
slice_get_more (b ∷ x) y (suc p) h = let lt : p < length x = omega arith in slice_get_more x y p lt

pub drop_more : (x y : List ℕ) (p : ℕ) → p < length x → drop p (x ++ y) ≡ drop p x ++ y
drop_more x y p h = let le : p ≤ length x = omega arith in drop-append-le p x y le

-- a comparison that ends before the text does
pub record Alike (t y bs : List ℕ) : Type 0 where
  pub begins : begins_with (t ++ y) bs ≡ begins_with t bs
  pub compared : compared (t ++ y) bs ≡ compared t bs

pub alike_more : (b : Bool) (t y bs : List ℕ) (n : ℕ) → Alike t y bs → (if b then compared (t ++ y) bs + 1 else n)
    ≡ (if b then compared t bs + 1 else n)
alike_more b t y bs n h = ap (λ k. if b then k + 1 else n) h.compared

pub shorter_compare : (b : Bool) (k n : ℕ) → b ≡ true → (if b then k + 1 else 1) < suc n → k < n
shorter_compare b k n is h = let g = rw is at h in omega (arith, g)

alike_step : (v : Bool) (c b : ℕ) (t y bs : List ℕ) → (c == b) ≡ v → compared (c ∷ t) (b ∷ bs) < suc (length t) →
    (compared t bs < length t → Alike t y bs) → Alike (c ∷ t) y (b ∷ bs)
alike_step true c b t y bs is h ih =
    let g = ih (shorter_compare (c == b) (compared t bs) (length t) is h) in
    record { begins = ap (λ w. (c == b) && w) g.begins; compared = alike_more (c == b) t y bs 1 g }
alike_step false c b t y bs is h ih = record { begins = rw is refl; compared = rw is refl }

compare_more : (t y bs : List ℕ) → compared t bs < length t → Alike t y bs
compare_more [] y [] h = absurd (omega arith)
compare_more [] y (b ∷ bs) h = absurd (omega arith)
compare_more (c ∷ t) y [] h = record { begins = refl; compared = refl }
compare_more (c ∷ t) y (b ∷ bs) h = alike_step (c == b) c b t y bs refl h (λ k. compare_more t y bs k)

pub looked_below : (p n m k : ℕ) → looked_at p n < k → p < k → m ≡ k - p → n < m
looked_below p zero m k h lt is = omega arith
looked_below p (suc n) m k h lt is = omega arith

bytes_more : (x y bs : List ℕ) (p : ℕ) → p < length x → looked_at p (compared (drop p x) bs) < length x
    → Alike (drop p x) y bs
bytes_more x y bs p lt h = compare_more (drop p x) y bs
    (looked_below p (compared (drop p x) bs) _ (length x) h lt (length-drop p x))

-- a success ends no further than it looked, or where it began
abbrev pub EndsBy : ℕ → Outcome → ℕ → Type 0
EndsBy p Fails k = Unit {0}
EndsBy p (Takes q es) k = q ≤ max p k

begins_compared : (t bs : List ℕ) → begins_with t bs ≡ true → compared t bs ≡ length bs
begins_compared [] [] h = refl
begins_compared (c ∷ t) [] h = refl
begins_compared [] (b ∷ bs) h = absurd cc
begins_compared (c ∷ t) (b ∷ bs) h = both (c == b) c b t bs refl h (λ k. begins_compared t bs k)
  where
    both : (v : Bool) (c b : ℕ) (t bs : List ℕ) → (c == b) ≡ v → begins_with (c ∷ t) (b ∷ bs) ≡ true →
        (begins_with t bs ≡ true → compared t bs ≡ length bs) → compared (c ∷ t) (b ∷ bs) ≡ suc (length bs)
    both true c b t bs is h ih = let tail = rw is at h in rw is (let g = ih tail in omega (arith, g))
    both false c b t bs is h ih = absurd (let no = rw is at h in cc no)

looked_from : (p n : ℕ) → p + n ≤ max p (looked_at p n)
looked_from p zero = omega arith
looked_from p (suc n) = omega arith

module _ (rules : List Rule) (x : List ℕ) where
  mutual
    pub ends_by : {e : Pattern} {p k : ℕ} {o : Outcome} → Gives rules x e p o k → EndsBy p o k
    ends_by (any_takes h) = omega arith
    ends_by (any_at_end h) = tt
    ends_by (set_takes h g) = omega arith
    ends_by (set_fails h g) = tt
    ends_by (set_at_end h) = tt
    ends_by (bytes_take {bs = bs} {p = p} h) = rw (← begins_compared (drop p x) bs h)
        (looked_from p (compared (drop p x) bs))
    ends_by (bytes_fail h) = tt
    ends_by act = omega arith
    ends_by open_at = omega arith
    ends_by close_at = omega arith
    ends_by (name h d) = ends_by d
    ends_by (seq d) = ends_by_all d
    ends_by (choice d) = ends_by_first d
    ends_by (opt_takes d) = ends_by d
    ends_by (opt_none d) = omega arith
    ends_by (star_none d) = omega arith
    ends_by (star_more d c) = omega (arith, ends_by d, ends_by c)
    ends_by (plus_fails d) = tt
    ends_by (plus_takes d c) = omega (arith, ends_by d, ends_by c)
    ends_by (and_takes d) = omega arith
    ends_by (and_fails d) = tt
    ends_by (not_takes d) = omega arith
    ends_by (not_fails d) = tt

    pub ends_by_all : {es : Patterns} {p k : ℕ} {o : Outcome} → GivesAll rules x es p o k → EndsBy p o k
    ends_by_all all_done = omega arith
    ends_by_all (one_fails d) = tt
    ends_by_all (rest_fails d c) = tt
    ends_by_all (rest_takes d c) = omega (arith, ends_by d, ends_by_all c)

    pub ends_by_first : {es : Patterns} {p k : ℕ} {o : Outcome} → GivesFirst rules x es p o k → EndsBy p o k
    ends_by_first all_failed = tt
    ends_by_first (first_takes d) = ends_by d
    ends_by_first (first_fails {p = p} {j = j} {k = k} {o = o} d c) = later p j k o (ends_by_first c)
      where
        later : (p j k : ℕ) (o : Outcome) → EndsBy p o k → EndsBy p o (max j k)
        later p j k Fails h = tt
        later p j k (Takes q es) h = omega arith

module _ (rules : List Rule) (x y : List ℕ) where
  mutual
    pub gives_longer : {e : Pattern} {p k : ℕ} {o : Outcome} → Gives rules x e p o k → p < length x → k < length x
        → Gives rules (x ++ y) e p o k
    gives_longer (any_takes {p = p} h) lt less = any_takes (slice_get_more x y p lt ∙ h)
    gives_longer (any_at_end {p = p} h) lt less = any_at_end (slice_get_more x y p lt ∙ h)
    gives_longer (set_takes {p = p} h g) lt less = set_takes (slice_get_more x y p lt ∙ h) g
    gives_longer (set_fails {p = p} h g) lt less = set_fails (slice_get_more x y p lt ∙ h) g
    gives_longer (set_at_end {p = p} h) lt less = set_at_end (slice_get_more x y p lt ∙ h)
    gives_longer (bytes_take {bs = bs} {p = p} h) lt less =
        let same = bytes_more x y bs p lt less in
        let begins : begins_with (drop p (x ++ y)) bs ≡ true = rw (drop_more x y p lt) (same.begins ∙ h) in
        let far : compared (drop p (x ++ y)) bs ≡ compared (drop p x) bs = rw (drop_more x y p lt) same.compared in
        rw (← far) (bytes_take begins)
    gives_longer (bytes_fail {bs = bs} {p = p} h) lt less =
        let same = bytes_more x y bs p lt less in
        let begins : begins_with (drop p (x ++ y)) bs ≡ false = rw (drop_more x y p lt) (same.begins ∙ h) in
        let far : compared (drop p (x ++ y)) bs ≡ compared (drop p x) bs = rw (drop_more x y p lt) same.compared in
        rw (← far) (bytes_fail begins)
    gives_longer act lt less = act
    gives_longer open_at lt less = open_at
    gives_longer close_at lt less = close_at
    gives_longer (name h d) lt less = name h (gives_longer d lt less)
    gives_longer (seq d) lt less = seq (grows_all d lt less)
    gives_longer (choice d) lt less = choice (grows_first d lt less)
    gives_longer (opt_takes d) lt less = opt_takes (gives_longer d lt less)
    gives_longer (opt_none d) lt less = opt_none (gives_longer d lt less)
    gives_longer (star_none d) lt less = star_none (gives_longer d lt less)
    gives_longer (star_more d c) lt less = star_more (gives_longer d lt (omega arith))
        (gives_longer c (omega (arith, ends_by rules x d)) (omega arith))
    gives_longer (plus_fails d) lt less = plus_fails (gives_longer d lt less)
    gives_longer (plus_takes d c) lt less = plus_takes (gives_longer d lt (omega arith))
        (gives_longer c (omega (arith, ends_by rules x d)) (omega arith))
    gives_longer (and_takes d) lt less = and_takes (gives_longer d lt less)
    gives_longer (and_fails d) lt less = and_fails (gives_longer d lt less)
    gives_longer (not_takes d) lt less = not_takes (gives_longer d lt less)
    gives_longer (not_fails d) lt less = not_fails (gives_longer d lt less)

    pub grows_all : {es : Patterns} {p k : ℕ} {o : Outcome} → GivesAll rules x es p o k → p < length x → k < length x
        → GivesAll rules (x ++ y) es p o k
    grows_all all_done lt less = all_done
    grows_all (one_fails d) lt less = one_fails (gives_longer d lt less)
    grows_all (rest_fails d c) lt less = rest_fails (gives_longer d lt (omega arith))
        (grows_all c (omega (arith, ends_by rules x d)) (omega arith))
    grows_all (rest_takes d c) lt less = rest_takes (gives_longer d lt (omega arith))
        (grows_all c (omega (arith, ends_by rules x d)) (omega arith))

    pub grows_first : {es : Patterns} {p k : ℕ} {o : Outcome} → GivesFirst rules x es p o k → p < length x
        → k < length x → GivesFirst rules (x ++ y) es p o k
    grows_first all_failed lt less = all_failed
    grows_first (first_takes d) lt less = first_takes (gives_longer d lt less)
    grows_first (first_fails d c) lt less =
        first_fails (gives_longer d lt (omega arith)) (grows_first c lt (omega arith))
