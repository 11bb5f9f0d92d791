-- An expression gives one outcome at a position, and looks equally far.
-- Serves: exactly_one_outcome, one_outcome, some_outcome
use Rattle.std.proofs.Common.{◌≡◌, ℕ, List, refl, subst}
use Rattle.pegread.specs.Pattern.{Pattern, Patterns, Rule, Star}
use Rattle.gramcheck.specs.Outcome.{Outcome, Fails, Takes, Gives, any_takes, any_at_end, set_takes, set_fails}
use Rattle.gramcheck.specs.Outcome.{set_at_end, bytes_take, bytes_fail, act, open_at, close_at, name, seq, choice}
use Rattle.gramcheck.specs.Outcome.{opt_takes, opt_none, star_none, star_more, plus_fails, plus_takes, and_takes}
use Rattle.gramcheck.specs.Outcome.{and_fails, not_takes, not_fails, GivesAll, all_done, one_fails, rest_fails}
use Rattle.gramcheck.specs.Outcome.{rest_takes, GivesFirst, all_failed, first_takes, first_fails}

pub record Same (o : Outcome) (k : ℕ) (o' : Outcome) (k' : ℕ) : Type 0 where
  pub outcome : o ≡ o'
  pub looked : k ≡ k'

module _ (rules : List Rule) (x : List ℕ) where
  mutual
    pub gives_same : {e : Pattern} {p k k' : ℕ} {o o' : Outcome} → Gives rules x e p o k → Gives rules x e p o' k'
        → Same o k o' k'
    gives_same (any_takes h) (any_takes h') = record { outcome = refl; looked = refl }
    gives_same (any_takes h) (any_at_end h') = absurd cc
    gives_same (any_at_end h) (any_takes h') = absurd cc
    gives_same (any_at_end h) (any_at_end h') = record { outcome = refl; looked = refl }
    gives_same (set_takes h g) (set_takes h' g') = record { outcome = refl; looked = refl }
    gives_same (set_takes h g) (set_fails h' g') = absurd cc
    gives_same (set_takes h g) (set_at_end h') = absurd cc
    gives_same (set_fails h g) (set_takes h' g') = absurd cc
    gives_same (set_fails h g) (set_fails h' g') = record { outcome = refl; looked = refl }
    gives_same (set_fails h g) (set_at_end h') = absurd cc
    gives_same (set_at_end h) (set_takes h' g') = absurd cc
    gives_same (set_at_end h) (set_fails h' g') = absurd cc
    gives_same (set_at_end h) (set_at_end h') = record { outcome = refl; looked = refl }
    gives_same (bytes_take h) (bytes_take h') = record { outcome = refl; looked = refl }
    gives_same (bytes_take h) (bytes_fail h') = absurd cc
    gives_same (bytes_fail h) (bytes_take h') = absurd cc
    gives_same (bytes_fail h) (bytes_fail h') = record { outcome = refl; looked = refl }
    gives_same act act = record { outcome = refl; looked = refl }
    gives_same open_at open_at = record { outcome = refl; looked = refl }
    gives_same close_at close_at = record { outcome = refl; looked = refl }
    gives_same (name {e = e} {p = p} h d) (name {e = e'} {k = k'} {o = o'} h' d') =
        let is : e' ≡ e = cc in gives_same d (subst (λ v. Gives rules x v p o' k') is d')
    gives_same (seq d) (seq d') = same_all d d'
    gives_same (choice d) (choice d') = same_first d d'
    gives_same (opt_takes d) (opt_takes d') = gives_same d d'
    gives_same (opt_takes d) (opt_none d') = absurd (let h = gives_same d d' in cc)
    gives_same (opt_none d) (opt_takes d') = absurd (let h = gives_same d d' in cc)
    gives_same (opt_none d) (opt_none d') = record { outcome = refl; looked = (gives_same d d').looked }
    gives_same (star_none d) (star_none d') = record { outcome = refl; looked = (gives_same d d').looked }
    gives_same (star_none d) (star_more d' c') = absurd (let h = gives_same d d' in cc)
    gives_same (star_more d c) (star_none d') = absurd (let h = gives_same d d' in cc)
    gives_same (star_more {e = e} {q = q} d c) (star_more {q = q'} {r = r'} {k = k'} {fs = fs'} d' c') =
        let h = gives_same d d' in
        let is : q' ≡ q = cc in
        let g = gives_same c (subst (λ v. Gives rules x (Star e) v (Takes r' fs') k') is c') in
        record { outcome = cc; looked = cc }
    gives_same (plus_fails d) (plus_fails d') = gives_same d d'
    gives_same (plus_fails d) (plus_takes d' c') = absurd (let h = gives_same d d' in cc)
    gives_same (plus_takes d c) (plus_fails d') = absurd (let h = gives_same d d' in cc)
    gives_same (plus_takes {e = e} {q = q} d c) (plus_takes {q = q'} {r = r'} {k = k'} {fs = fs'} d' c') =
        let h = gives_same d d' in
        let is : q' ≡ q = cc in
        let g = gives_same c (subst (λ v. Gives rules x (Star e) v (Takes r' fs') k') is c') in
        record { outcome = cc; looked = cc }
    gives_same (and_takes d) (and_takes d') = record { outcome = refl; looked = (gives_same d d').looked }
    gives_same (and_takes d) (and_fails d') = absurd (let h = gives_same d d' in cc)
    gives_same (and_fails d) (and_takes d') = absurd (let h = gives_same d d' in cc)
    gives_same (and_fails d) (and_fails d') = gives_same d d'
    gives_same (not_takes d) (not_takes d') = record { outcome = refl; looked = (gives_same d d').looked }
    gives_same (not_takes d) (not_fails d') = absurd (let h = gives_same d d' in cc)
    gives_same (not_fails d) (not_takes d') = absurd (let h = gives_same d d' in cc)
    gives_same (not_fails d) (not_fails d') = record { outcome = refl; looked = (gives_same d d').looked }

    pub same_all : {es : Patterns} {p k k' : ℕ} {o o' : Outcome} → GivesAll rules x es p o k
        → GivesAll rules x es p o' k' → Same o k o' k'
    same_all all_done all_done = record { outcome = refl; looked = refl }
    same_all (one_fails d) (one_fails d') = gives_same d d'
    same_all (one_fails d) (rest_fails d' c') = absurd (let h = gives_same d d' in cc)
    same_all (one_fails d) (rest_takes d' c') = absurd (let h = gives_same d d' in cc)
    same_all (rest_fails d c) (one_fails d') = absurd (let h = gives_same d d' in cc)
    same_all (rest_fails {rest = rest} {q = q} d c) (rest_fails {q = q'} {k = k'} d' c') =
        let h = gives_same d d' in
        let is : q' ≡ q = cc in
        let g = same_all c (subst (λ v. GivesAll rules x rest v Fails k') is c') in
        record { outcome = refl; looked = cc }
    same_all (rest_fails {rest = rest} {q = q} d c) (rest_takes {q = q'} {r = r'} {k = k'} {fs = fs'} d' c') =
        absurd (
        let h = gives_same d d' in
        let is : q' ≡ q = cc in
        let g = same_all c (subst (λ v. GivesAll rules x rest v (Takes r' fs') k') is c') in
        cc)
    same_all (rest_takes d c) (one_fails d') = absurd (let h = gives_same d d' in cc)
    same_all (rest_takes {rest = rest} {q = q} d c) (rest_fails {q = q'} {k = k'} d' c') =
        absurd (
        let h = gives_same d d' in
        let is : q' ≡ q = cc in
        let g = same_all c (subst (λ v. GivesAll rules x rest v Fails k') is c') in
        cc)
    same_all (rest_takes {rest = rest} {q = q} d c) (rest_takes {q = q'} {r = r'} {k = k'} {fs = fs'} d' c') =
        let h = gives_same d d' in
        let is : q' ≡ q = cc in
        let g = same_all c (subst (λ v. GivesAll rules x rest v (Takes r' fs') k') is c') in
        record { outcome = cc; looked = cc }

    pub same_first : {es : Patterns} {p k k' : ℕ} {o o' : Outcome} → GivesFirst rules x es p o k
        → GivesFirst rules x es p o' k' → Same o k o' k'
    same_first all_failed all_failed = record { outcome = refl; looked = refl }
    same_first (first_takes d) (first_takes d') = gives_same d d'
    same_first (first_takes d) (first_fails d' c') = absurd (let h = gives_same d d' in cc)
    same_first (first_fails d c) (first_takes d') = absurd (let h = gives_same d d' in cc)
    same_first (first_fails d c) (first_fails d' c') =
        let h = gives_same d d' in
        let g = same_first c c' in
        record { outcome = g.outcome; looked = cc }
