-- An evaluation looks no further than the input's end.
-- Serves: Packrat::match_unit of packrat
use Rattle.std.proofs.Common.{ℕ, zero, suc, ◌+◌, ◌-◌, ◌≤◌, Bool, true, false, if◌then◌else◌, ◌==◌, List, [], ◌∷◌}
use Rattle.std.proofs.Common.{length, drop, arith, length-drop}
use Rattle.std.proofs.lemmas.Option.{slice_get_within}
use Rattle.pegread.specs.Pattern.{Pattern, Patterns, Rule}
use Rattle.gramcheck.specs.Outcome.{Outcome, compared, looked_at, Gives, any_takes, any_at_end, set_takes, set_fails}
use Rattle.gramcheck.specs.Outcome.{set_at_end, bytes_take, bytes_fail, act, open_at, close_at, name, seq, choice}
use Rattle.gramcheck.specs.Outcome.{opt_takes, opt_none, star_none, star_more, plus_fails, plus_takes, and_takes}
use Rattle.gramcheck.specs.Outcome.{and_fails, not_takes, not_fails, GivesAll, all_done, one_fails, rest_fails}
use Rattle.gramcheck.specs.Outcome.{rest_takes, GivesFirst, all_failed, first_takes, first_fails}

by_test : (v : Bool) (k n : ℕ) → k ≤ n → (if v then k + 1 else 1) ≤ suc n
by_test true k n h = omega arith
by_test false k n h = omega arith

compared_within : (t bs : List ℕ) → compared t bs ≤ length t
compared_within t [] = omega arith
compared_within [] (b ∷ bs) = omega arith
compared_within (c ∷ t) (b ∷ bs) = by_test (c == b) (compared t bs) (length t) (compared_within t bs)

looked_below : (p n l : ℕ) → n ≤ l - p → looked_at p n ≤ l
looked_below p zero l h = omega arith
looked_below p (suc n) l h = omega arith

module _ (rules : List Rule) (x : List ℕ) where
  bytes_within : (bs : List ℕ) (p : ℕ) → looked_at p (compared (drop p x) bs) ≤ length x
  bytes_within bs p = looked_below p (compared (drop p x) bs) (length x)
      (omega (arith, compared_within (drop p x) bs, length-drop p x))

  mutual
    pub ends_within : {e : Pattern} {p k : ℕ} {o : Outcome} → Gives rules x e p o k → k ≤ length x
    ends_within (any_takes {p = p} {b = b} h) = omega (arith, slice_get_within x p b h)
    ends_within (any_at_end h) = omega arith
    ends_within (set_takes {p = p} {b = b} h g) = omega (arith, slice_get_within x p b h)
    ends_within (set_fails {p = p} {b = b} h g) = omega (arith, slice_get_within x p b h)
    ends_within (set_at_end h) = omega arith
    ends_within (bytes_take {bs = bs} {p = p} h) = bytes_within bs p
    ends_within (bytes_fail {bs = bs} {p = p} h) = bytes_within bs p
    ends_within act = omega arith
    ends_within open_at = omega arith
    ends_within close_at = omega arith
    ends_within (name h d) = ends_within d
    ends_within (seq d) = all_within d
    ends_within (choice d) = first_within d
    ends_within (opt_takes d) = ends_within d
    ends_within (opt_none d) = ends_within d
    ends_within (star_none d) = ends_within d
    ends_within (star_more d c) = omega (arith, ends_within d, ends_within c)
    ends_within (plus_fails d) = ends_within d
    ends_within (plus_takes d c) = omega (arith, ends_within d, ends_within c)
    ends_within (and_takes d) = ends_within d
    ends_within (and_fails d) = ends_within d
    ends_within (not_takes d) = ends_within d
    ends_within (not_fails d) = ends_within d

    all_within : {es : Patterns} {p k : ℕ} {o : Outcome} → GivesAll rules x es p o k → k ≤ length x
    all_within all_done = omega arith
    all_within (one_fails d) = ends_within d
    all_within (rest_fails d c) = omega (arith, ends_within d, all_within c)
    all_within (rest_takes d c) = omega (arith, ends_within d, all_within c)

    first_within : {es : Patterns} {p k : ℕ} {o : Outcome} → GivesFirst rules x es p o k → k ≤ length x
    first_within all_failed = omega arith
    first_within (first_takes d) = ends_within d
    first_within (first_fails d c) = omega (arith, ends_within d, first_within c)
