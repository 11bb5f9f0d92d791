-- What took nothing is nullable.
-- Serves: exactly_one_outcome, some_outcome
use Rattle.std.proofs.Common.{◌≡◌, ℕ, ◌+◌, ◌≤◌, List, [], ◌∷◌, length, arith}
use Rattle.pegread.specs.Pattern.{Pattern, Patterns, Rule}
use Rattle.pegread.specs.Pattern as expr
use Rattle.gramcheck.specs.Left.{Nullable, no_bytes, an_act, an_open, a_close, an_and, a_not, an_opt, a_star, a_plus}
use Rattle.gramcheck.specs.Left.{a_seq, a_choice, a_name, AllNullable, all_none, all_more, SomeNullable, some_first}
use Rattle.gramcheck.specs.Left.{some_later}
use Rattle.gramcheck.specs.Outcome.{Event, Outcome, Fails, Takes, Gives, any_takes, any_at_end, set_takes, set_fails}
use Rattle.gramcheck.specs.Outcome.{set_at_end, bytes_take, bytes_fail, act, open_at, close_at, name, seq, choice}
use Rattle.gramcheck.specs.Outcome.{opt_takes, opt_none, star_none, star_more, plus_fails, plus_takes, and_takes}
use Rattle.gramcheck.specs.Outcome.{and_fails, not_takes, not_fails, GivesAll, all_done, one_fails, rest_fails}
use Rattle.gramcheck.specs.Outcome.{rest_takes, GivesFirst, all_failed, first_takes, first_fails}
use Rattle.gramcheck.proofs.RiseLemmas.{Rise-le, gives_within, within_all}

-- N holds where an outcome at p takes nothing
abbrev pub NullIf : Type 0 → ℕ → Outcome → Type 0
NullIf N p Fails = Unit {0}
NullIf N p (Takes q es) = q ≡ p → N

null_if : (A B : Type 0) (p : ℕ) (o : Outcome) → (A → B) → NullIf A p o → NullIf B p o
null_if A B p Fails f h = tt
null_if A B p (Takes q es) f h = λ is. f (h is)

takes_none : (rules : List Rule) (p : ℕ) (bs : List ℕ) → p + length bs ≡ p → Nullable rules (expr.Bytes bs)
takes_none rules p [] is = no_bytes
takes_none rules p (b ∷ bs) is = absurd (omega arith)

module _ (rules : List Rule) (x : List ℕ) where
  -- a success ends between its position and the input's end
  pub takes_forward : (p q k : ℕ) (e : Pattern) (es : List Event) → Gives rules x e p (Takes q es) k → p ≤ length x
      → (p ≤ q)
      × (q ≤ length x)
  takes_forward p q k e es d le = let w = gives_within rules x d le in (Rise-le p q es w.0, w.1)

  mutual
    pub null_of : {e : Pattern} {p k : ℕ} {o : Outcome} → Gives rules x e p o k → p ≤ length x
        → NullIf (Nullable rules e) p o
    null_of (any_takes h) le = λ is. absurd (omega arith)
    null_of (any_at_end h) le = tt
    null_of (set_takes h i) le = λ is. absurd (omega arith)
    null_of (set_fails h i) le = tt
    null_of (set_at_end h) le = tt
    null_of (bytes_take {bs = bs} {p = p} h) le = λ is. takes_none rules p bs is
    null_of (bytes_fail h) le = tt
    null_of act le = λ is. an_act
    null_of open_at le = λ is. an_open
    null_of close_at le = λ is. a_close
    null_of (name {n = n} {e = e} {p = p} {o = o} h d) le = null_if (Nullable rules e) (Nullable rules (expr.Name n)) p
        o (λ w. a_name h w) (null_of d le)
    null_of (seq {es = es} {p = p} {o = o} d) le = null_if (AllNullable rules es) (Nullable rules (expr.Seq es)) p o
        (λ w. a_seq w) (null_all d le)
    null_of (choice {es = es} {p = p} {o = o} d) le = null_if (SomeNullable rules es) (Nullable rules (expr.Choice es))
        p o (λ w. a_choice w) (null_some d le)
    null_of (opt_takes d) le = λ is. an_opt
    null_of (opt_none d) le = λ is. an_opt
    null_of (star_none d) le = λ is. a_star
    null_of (star_more d c) le = λ is. a_star
    null_of (plus_fails d) le = tt
    null_of (plus_takes {e = e} {p = p} {q = q} {r = r} {j = j} {k = k} {es = es} {fs = fs} d c) le = λ is.
        let one = takes_forward p q j e es d le in
        let two = takes_forward q r k (expr.Star e) fs c one.1 in
        let here : q ≡ p = omega (arith, one.0, two.0) in
        a_plus (null_of d le here)
    null_of (and_takes d) le = λ is. an_and
    null_of (and_fails d) le = tt
    null_of (not_takes d) le = λ is. a_not
    null_of (not_fails d) le = tt

    pub null_all : {es : Patterns} {p k : ℕ} {o : Outcome} → GivesAll rules x es p o k → p ≤ length x
        → NullIf (AllNullable rules es) p o
    null_all all_done le = λ is. all_none
    null_all (one_fails d) le = tt
    null_all (rest_fails d c) le = tt
    null_all (rest_takes {e = e} {p = p} {q = q} {r = r} {j = j} {k = k} {es = es} {fs = fs} d c) le = λ is.
        let one = takes_forward p q j e es d le in
        let w = within_all rules x c one.1 in
        let two = Rise-le q r fs w.0 in
        let here : q ≡ p = omega (arith, one.0) in
        let there : r ≡ q = omega (arith, one.0) in
        all_more (null_of d le here) (null_all c one.1 there)

    pub null_some : {es : Patterns} {p k : ℕ} {o : Outcome} → GivesFirst rules x es p o k → p ≤ length x
        → NullIf (SomeNullable rules es) p o
    null_some all_failed le = tt
    null_some (first_takes d) le = λ is. some_first (null_of d le is)
    null_some (first_fails {e = e} {rest = rest} {p = p} {o = o} d c) le =
        null_if (SomeNullable rules rest) (SomeNullable rules (expr.more e rest)) p o (λ w. some_later w)
        (null_some c le)
