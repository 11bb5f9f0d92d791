-- The events of a success stand in order, within the input.
-- Serves: events_rise, exactly_one_outcome, some_outcome
use Rattle.std.proofs.Common.{◌≡◌, ℕ, ◌≤◌, true, List, [], ◌∷◌, ◌++◌, length, drop, arith, length-drop}
use Rattle.std.proofs.lemmas.Grind.{common_steps}
use Rattle.std.proofs.lemmas.Option.{slice_get_within}
use Rattle.pegread.specs.Pattern.{Pattern, Patterns, Rule}
use Rattle.gramcheck.specs.Outcome.{Event, Opened, Closed, Acted, Outcome, Fails, Takes, begins_with, Gives, any_takes}
use Rattle.gramcheck.specs.Outcome.{any_at_end, set_takes, set_fails, set_at_end, bytes_take, bytes_fail, act, open_at}
use Rattle.gramcheck.specs.Outcome.{close_at, name, seq, choice, opt_takes, opt_none, star_none, star_more, plus_fails}
use Rattle.gramcheck.specs.Outcome.{plus_takes, and_takes, and_fails, not_takes, not_fails, GivesAll, all_done}
use Rattle.gramcheck.specs.Outcome.{one_fails, rest_fails, rest_takes, GivesFirst, all_failed, first_takes, first_fails}
use Rattle.gramcheck.specs.Rising.{Rise}

begins_within : (x bs : List ℕ) → begins_with x bs ≡ true → length bs ≤ length x
begins_within [] [] h = omega arith
begins_within (c ∷ cs) [] h = omega arith
begins_within [] (b ∷ bs) h = absurd cc
begins_within (c ∷ cs) (b ∷ bs) h =
    let tail : begins_with cs bs ≡ true = grind (arith, common_steps) in
    let k = begins_within cs bs tail in
    omega arith

pub Rise-le : (p q : ℕ) (es : List Event) → Rise p q es → p ≤ q
Rise-le p q [] h = h
Rise-le p q (Opened k ∷ es) (h, rest) = let le = Rise-le k q es rest in omega arith
Rise-le p q (Closed k ∷ es) (h, rest) = let le = Rise-le k q es rest in omega arith
Rise-le p q (Acted t ∷ es) h = Rise-le p q es h

pub Rise-append : (p q r : ℕ) (es fs : List Event) → Rise p q es → Rise q r fs → Rise p r (es ++ fs)
Rise-append p q r [] fs h g = Rise-lower p q r fs h g
  where
    Rise-lower : (p q r : ℕ) (fs : List Event) → p ≤ q → Rise q r fs → Rise p r fs
    Rise-lower p q r [] h g = omega arith
    Rise-lower p q r (Opened k ∷ fs) h (g, rest) = (omega arith, rest)
    Rise-lower p q r (Closed k ∷ fs) h (g, rest) = (omega arith, rest)
    Rise-lower p q r (Acted t ∷ fs) h g = Rise-lower p q r fs h g
Rise-append p q r (Opened k ∷ es) fs (h, rest) g = (h, Rise-append k q r es fs rest g)
Rise-append p q r (Closed k ∷ es) fs (h, rest) g = (h, Rise-append k q r es fs rest g)
Rise-append p q r (Acted t ∷ es) fs h g = Rise-append p q r es fs h g

abbrev pub IsWithin : List ℕ → ℕ → Outcome → Type 0
IsWithin x p Fails = Unit {0}
IsWithin x p (Takes q es) = Rise p q es × (q ≤ length x)

module _ (rules : List Rule) (x : List ℕ) where
  mutual
    pub gives_within : {e : Pattern} {p k : ℕ} {o : Outcome} → Gives rules x e p o k → p ≤ length x → IsWithin x p o
    gives_within (any_takes {p = p} {b = b} h) le = let lt = slice_get_within x p b h in (omega arith, omega arith)
    gives_within (any_at_end h) le = tt
    gives_within (set_takes {p = p} {b = b} h g) le = let lt = slice_get_within x p b h in (omega arith, omega arith)
    gives_within (set_fails h g) le = tt
    gives_within (set_at_end h) le = tt
    gives_within (bytes_take {bs = bs} {p = p} h) le =
        let fits = begins_within (drop p x) bs h in
        (omega arith, omega (arith, length-drop p x))
    gives_within (bytes_fail h) le = tt
    gives_within act le = (omega arith, le)
    gives_within open_at le = ((omega arith, omega arith), le)
    gives_within close_at le = ((omega arith, omega arith), le)
    gives_within (name h d) le = gives_within d le
    gives_within (seq d) le = within_all d le
    gives_within (choice d) le = within_first d le
    gives_within (opt_takes d) le = gives_within d le
    gives_within (opt_none d) le = (omega arith, le)
    gives_within (star_none d) le = (omega arith, le)
    gives_within (star_more {p = p} {q = q} {r = r} {es = es} {fs = fs} d c) le =
        let h = gives_within d le in
        let g = gives_within c h.1 in
        (Rise-append p q r es fs h.0 g.0, g.1)
    gives_within (plus_fails d) le = tt
    gives_within (plus_takes {p = p} {q = q} {r = r} {es = es} {fs = fs} d c) le =
        let h = gives_within d le in
        let g = gives_within c h.1 in
        (Rise-append p q r es fs h.0 g.0, g.1)
    gives_within (and_takes d) le = (omega arith, le)
    gives_within (and_fails d) le = tt
    gives_within (not_takes d) le = (omega arith, le)
    gives_within (not_fails d) le = tt

    pub within_all : {es : Patterns} {p k : ℕ} {o : Outcome} → GivesAll rules x es p o k → p ≤ length x → IsWithin x p o
    within_all all_done le = (omega arith, le)
    within_all (one_fails d) le = tt
    within_all (rest_fails d c) le = tt
    within_all (rest_takes {p = p} {q = q} {r = r} {es = es} {fs = fs} d c) le =
        let h = gives_within d le in
        let g = within_all c h.1 in
        (Rise-append p q r es fs h.0 g.0, g.1)

    pub within_first : {es : Patterns} {p k : ℕ} {o : Outcome} → GivesFirst rules x es p o k → p ≤ length x
        → IsWithin x p o
    within_first all_failed le = tt
    within_first (first_takes d) le = gives_within d le
    within_first (first_fails d c) le = within_first c le

pub Rise-upper : (p q r : ℕ) (es : List Event) → Rise p q es → q ≤ r → Rise p r es
Rise-upper p q r [] h le = omega arith
Rise-upper p q r (Opened k ∷ es) (h, rest) le = (h, Rise-upper k q r es rest le)
Rise-upper p q r (Closed k ∷ es) (h, rest) le = (h, Rise-upper k q r es rest le)
Rise-upper p q r (Acted t ∷ es) h le = Rise-upper p q r es h le
