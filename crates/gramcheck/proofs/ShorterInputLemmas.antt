-- What compares no byte from a text's length on is the same on that text alone.
-- Serves: shorter_input, shorter_input_of_start
use Rattle.std.proofs.Common.{◌≡◌, ℕ, zero, suc, ◌+◌, ◌<◌, ◌≤◌, Bool, true, false, ◌&&◌, if◌then◌else◌, ◌==◌, List, []}
use Rattle.std.proofs.Common.{◌∷◌, ◌++◌, length, drop, None, refl, sym, ◌∙◌, ap, arith, length-drop, ⊎_elim}
use Rattle.std.specs.Prelude.{slice_get}
use Rattle.std.proofs.lemmas.Bool.{cases_lt}
use Rattle.std.proofs.Math.ListN.{drop_of_length-le}
use Rattle.pegread.specs.Pattern.{Pattern, Patterns, Rule}
use Rattle.gramcheck.specs.Outcome.{Outcome, begins_with, compared, looked_at, Gives, any_takes, any_at_end, set_takes}
use Rattle.gramcheck.specs.Outcome.{set_fails, set_at_end, bytes_take, bytes_fail, act, open_at, close_at, name, seq}
use Rattle.gramcheck.specs.Outcome.{choice, opt_takes, opt_none, star_none, star_more, plus_fails, plus_takes}
use Rattle.gramcheck.specs.Outcome.{and_takes, and_fails, not_takes, not_fails, GivesAll, all_done, one_fails}
use Rattle.gramcheck.specs.Outcome.{rest_fails, rest_takes, GivesFirst, all_failed, first_takes, first_fails}
use Rattle.gramcheck.proofs.LongerInputLemmas.{Alike, alike_more, shorter_compare, slice_get_more}
use Rattle.gramcheck.proofs.LongerInputLemmas.{drop_more, looked_below}

none_before : (x y : List ℕ) (p : ℕ) → slice_get (x ++ y) p ≡ None → slice_get x p ≡ None
none_before [] y p h = refl
none_before (b ∷ x) y zero h = absurd cc
none_before (b ∷ x) y (suc p) h = none_before x y p h

alike_back : (v : Bool) (c b : ℕ) (t y bs : List ℕ) → (c == b) ≡ v → compared (c ∷ (t ++ y)) (b ∷ bs) < suc (length t) →
    (compared (t ++ y) bs < length t → Alike t y bs) → Alike (c ∷ t) y (b ∷ bs)
alike_back true c b t y bs is h ih =
    let g = ih (shorter_compare (c == b) (compared (t ++ y) bs) (length t) is h) in
    record { begins = ap (λ w. (c == b) && w) g.begins; compared = alike_more (c == b) t y bs 1 g }
alike_back false c b t y bs is h ih = record { begins = rw is refl; compared = rw is refl }

-- a comparison that ends before the first text does
compare_less : (t y bs : List ℕ) → compared (t ++ y) bs < length t → Alike t y bs
compare_less [] y bs h = absurd (omega arith)
compare_less (c ∷ t) y [] h = record { begins = refl; compared = refl }
compare_less (c ∷ t) y (b ∷ bs) h = alike_back (c == b) c b t y bs refl h (λ k. compare_less t y bs k)

-- one literal against two texts
record AlikeAt (u t bs : List ℕ) : Type 0 where
  pub begins : begins_with u bs ≡ begins_with t bs
  pub compared : compared u bs ≡ compared t bs

-- a comparison that looks at nothing
looks_at_one : (v : Bool) (n : ℕ) → (if v then n + 1 else 1) ≡ 0 → ⊥
looks_at_one true n h = omega arith
looks_at_one false n h = cc h

compare_none : (u bs : List ℕ) → compared u bs ≡ 0 → AlikeAt u [] bs
compare_none [] bs h = record { begins = refl; compared = refl }
compare_none (c ∷ u) [] h = record { begins = refl; compared = refl }
compare_none (c ∷ u) (b ∷ bs) h = absurd (looks_at_one (c == b) (compared u bs) h)

looked_nothing : (p n k : ℕ) → looked_at p n < k → k ≤ p → n ≡ 0
looked_nothing p zero k h le = refl
looked_nothing p (suc n) k h le = absurd (omega arith)

bytes_less : (x y bs : List ℕ) (p : ℕ) → looked_at p (compared (drop p (x ++ y)) bs) < length x
    → AlikeAt (drop p (x ++ y)) (drop p x) bs
bytes_less x y bs p h = ⊎_elim
    (λ lt.
    let less = looked_below p (compared (drop p (x ++ y)) bs) _ (length x) h lt (length-drop p x) in
    let more = drop_more x y p lt in
    let same = compare_less (drop p x) y bs (rw more at less) in
    rw more (record { begins = same.begins; compared = same.compared }))
    (λ le.
    rw (drop_of_length-le x {i = p} le) (compare_none (drop p (x ++ y)) bs
    (looked_nothing p (compared (drop p (x ++ y)) bs) (length x) h le)))
    (cases_lt p (length x))

module _ (rules : List Rule) (x y : List ℕ) where
  mutual
    pub gives_shorter : {e : Pattern} {p k : ℕ} {o : Outcome} → Gives rules (x ++ y) e p o k → k < length x
        → Gives rules x e p o k
    gives_shorter (any_takes {p = p} {b = b} h) less = any_takes (sym (slice_get_more x y p (omega arith)) ∙ h)
    gives_shorter (any_at_end {p = p} h) less = any_at_end (none_before x y p h)
    gives_shorter (set_takes {p = p} h g) less = set_takes (sym (slice_get_more x y p (omega arith)) ∙ h) g
    gives_shorter (set_fails {p = p} h g) less = set_fails (sym (slice_get_more x y p (omega arith)) ∙ h) g
    gives_shorter (set_at_end {p = p} h) less = set_at_end (none_before x y p h)
    gives_shorter (bytes_take {bs = bs} {p = p} h) less =
        let same = bytes_less x y bs p less in
        rw same.compared (bytes_take (sym same.begins ∙ h))
    gives_shorter (bytes_fail {bs = bs} {p = p} h) less =
        let same = bytes_less x y bs p less in
        rw same.compared (bytes_fail (sym same.begins ∙ h))
    gives_shorter act less = act
    gives_shorter open_at less = open_at
    gives_shorter close_at less = close_at
    gives_shorter (name h d) less = name h (gives_shorter d less)
    gives_shorter (seq d) less = seq (shrinks_all d less)
    gives_shorter (choice d) less = choice (shrinks_first d less)
    gives_shorter (opt_takes d) less = opt_takes (gives_shorter d less)
    gives_shorter (opt_none d) less = opt_none (gives_shorter d less)
    gives_shorter (star_none d) less = star_none (gives_shorter d less)
    gives_shorter (star_more d c) less = star_more (gives_shorter d (omega arith)) (gives_shorter c (omega arith))
    gives_shorter (plus_fails d) less = plus_fails (gives_shorter d less)
    gives_shorter (plus_takes d c) less = plus_takes (gives_shorter d (omega arith)) (gives_shorter c (omega arith))
    gives_shorter (and_takes d) less = and_takes (gives_shorter d less)
    gives_shorter (and_fails d) less = and_fails (gives_shorter d less)
    gives_shorter (not_takes d) less = not_takes (gives_shorter d less)
    gives_shorter (not_fails d) less = not_fails (gives_shorter d less)

    pub shrinks_all : {es : Patterns} {p k : ℕ} {o : Outcome} → GivesAll rules (x ++ y) es p o k → k < length x
        → GivesAll rules x es p o k
    shrinks_all all_done less = all_done
    shrinks_all (one_fails d) less = one_fails (gives_shorter d less)
    shrinks_all (rest_fails d c) less = rest_fails (gives_shorter d (omega arith)) (shrinks_all c (omega arith))
    shrinks_all (rest_takes d c) less = rest_takes (gives_shorter d (omega arith)) (shrinks_all c (omega arith))

    pub shrinks_first : {es : Patterns} {p k : ℕ} {o : Outcome} → GivesFirst rules (x ++ y) es p o k → k < length x
        → GivesFirst rules x es p o k
    shrinks_first all_failed less = all_failed
    shrinks_first (first_takes d) less = first_takes (gives_shorter d less)
    shrinks_first (first_fails d c) less = first_fails (gives_shorter d (omega arith)) (shrinks_first c (omega arith))
