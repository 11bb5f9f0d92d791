-- Every expression that the nodes of a ranked grammar spell gives an outcome at every position.
-- Serves: exactly_one_outcome, some_outcome
use Rattle.std.proofs.Common.{◌≡◌, ℕ, zero, suc, ◌+◌, ◌-◌, ◌<◌, ◌≤◌, List, [], ◌∷◌, length, map, get_or, subst, arith}
use Rattle.std.proofs.Common.{max, Bool, true, false, ◌++◌, drop, Option, Some, None, refl, ◌*◌, ⊎_elim}
use Rattle.std.specs.Prelude.{slice_index, Contains, slice_get}
use Rattle.std.proofs.lemmas.Option.{slice_get-get_or, slice_get_within}
use Rattle.pegread.specs.Pattern.{Pattern, Patterns, Rule, body_of}
use Rattle.gramcheck.specs.Left.{Nullable}
use Rattle.pegnodes.specs.Nodes.{Shape, Spells, spells_any, spells_bytes, spells_set, spells_name, spells_seq}
use Rattle.pegnodes.specs.Nodes.{spells_choice, spells_star, spells_plus, spells_opt, spells_and, spells_not}
use Rattle.pegnodes.specs.Nodes.{spells_act, spells_open, spells_close, SpellAll, spell_none, spell_more}
use Rattle.gramcheck.specs.Outcome.{Outcome, Fails, Takes, Gives, RuleGives, act, open_at, close_at, name, seq, choice}
use Rattle.gramcheck.specs.Outcome.{GivesAll, all_done, GivesFirst, all_failed, Event, begins_with, compared, looked_at}
use Rattle.gramcheck.specs.Outcome.{any_takes, any_at_end, set_takes, set_fails, set_at_end, bytes_take, bytes_fail}
use Rattle.gramcheck.specs.Outcome.{opt_takes, opt_none, star_none, star_more, plus_fails, plus_takes, and_takes}
use Rattle.gramcheck.specs.Outcome.{and_fails, not_takes, not_fails, one_fails, rest_fails, rest_takes, first_takes}
use Rattle.gramcheck.specs.Outcome.{first_fails}
use Rattle.gramcheck.specs.Ranks.{NodeStep, to_alternative, to_member, to_starred, to_repeated, to_optional}
use Rattle.gramcheck.specs.Ranks.{to_asserted, to_denied, FrontNode, front_first, front_later}
use Rattle.gramcheck.specs.Sound.{IsRanked, GivesOne, StartGivesOne}
use Rattle.pegnodes.specs.Within.{Within, itself, StandsIn}
use Rattle.std.proofs.lemmas.List.{length-map}
use Rattle.gramcheck.proofs.OneOutcomeLemmas.{gives_same}
use Rattle.gramcheck.proofs.StartRuleLemmas.{same_of_start}
use Rattle.fixpoint.proofs.ContainsLemmas.{in_first, in_later}
use Rattle.pegnodes.proofs.NodeSpellsLemmas.{is_there, part_spelled}
use Rattle.gramcheck.proofs.StepsToBodyLemmas.{rank_bound, rank_lower, steps_to_body}
use Rattle.gramcheck.proofs.NullIfLemmas.{takes_forward, null_of}
use Rattle.std.proofs.Math.Nat.{mul-le-mul_right}
use Rattle.std.proofs.lemmas.Bool.{cases_lt}
use Rattle.pegread.specs.Pattern as expr
use Rattle.gramcheck.specs.Outcome as event

-- the measure of an evaluation: what is left of the input first, and then the rank
abbrev pub measure : ℕ → ℕ → ℕ → ℕ → ℕ
measure len position nodes rank = (len - position) * (nodes + 1) + rank

ahead_less : (a b n r s : ℕ) → a + 1 ≤ b → r ≤ n → a * (n + 1) + r < b * (n + 1) + s
ahead_less a b n r s h le = omega (arith, mul-le-mul_right (n + 1) h)

-- further on less is left
pub falls_ahead : (len p q n r s : ℕ) → p < q → q ≤ len → r ≤ n → measure len q n r < measure len p n s
falls_ahead len p q n r s lt le bound = ahead_less (len - q) (len - p) n r s (omega arith) bound

-- at the same position a left step lowers the rank
pub falls_here : (len p n r s : ℕ) → r < s → measure len p n r < measure len p n s
falls_here len p n r s lt = omega arith

pub measure_falls : (len p q n r s : ℕ) → p ≤ q → q ≤ len → r ≤ n → (q ≡ p → r < s)
    → measure len q n r < measure len p n s
measure_falls len p q n r s low high bound left =
    ⊎_elim (λ lt. falls_ahead len p q n r s lt high bound)
    (λ le. let here : q ≡ p = omega arith in rw here (falls_here len p n r s (left here)))
    (cases_lt p q)

-- the outcome of an expression, from those of what it is made of
module _ (rules : List Rule) (x : List ℕ) where
  pub record Has (e : Pattern) (p : ℕ) : Type 0 where
    pub outcome : Outcome
    pub looked : ℕ
    pub gives : Gives rules x e p outcome looked

  pub record HasAll (es : Patterns) (p : ℕ) : Type 0 where
    pub outcome : Outcome
    pub looked : ℕ
    pub gives : GivesAll rules x es p outcome looked

  pub record HasFirst (es : Patterns) (p : ℕ) : Type 0 where
    pub outcome : Outcome
    pub looked : ℕ
    pub gives : GivesFirst rules x es p outcome looked

  any_by : (p : ℕ) (v : Option ℕ) → slice_get x p ≡ v → Has expr.Any p
  any_by p None h = record { outcome = Fails; looked = 0; gives = any_at_end h }
  any_by p (Some b) h = record { outcome = Takes (p + 1) []; looked = p + 1; gives = any_takes h }

  pub any_has : (p : ℕ) → Has expr.Any p
  any_has p = any_by p (slice_get x p) refl

  set_of : (s : ℕ → Bool) (p b : ℕ) (v : Bool) → slice_get x p ≡ Some b → s b ≡ v → Has (expr.Set s) p
  set_of s p b true h i = record { outcome = Takes (p + 1) []; looked = p + 1; gives = set_takes h i }
  set_of s p b false h i = record { outcome = Fails; looked = p + 1; gives = set_fails h i }

  set_by : (s : ℕ → Bool) (p : ℕ) (v : Option ℕ) → slice_get x p ≡ v → Has (expr.Set s) p
  set_by s p None h = record { outcome = Fails; looked = 0; gives = set_at_end h }
  set_by s p (Some b) h = set_of s p b (s b) h refl

  pub set_has : (s : ℕ → Bool) (p : ℕ) → Has (expr.Set s) p
  set_has s p = set_by s p (slice_get x p) refl

  bytes_by : (bs : List ℕ) (p : ℕ) (v : Bool) → begins_with (drop p x) bs ≡ v → Has (expr.Bytes bs) p
  bytes_by bs p true h = record {
    outcome = Takes (p + length bs) [];
    looked = looked_at p (compared (drop p x) bs);
    gives = bytes_take h;
  }
  bytes_by bs p false h = record {
    outcome = Fails;
    looked = looked_at p (compared (drop p x) bs);
    gives = bytes_fail h;
  }

  pub bytes_has : (bs : List ℕ) (p : ℕ) → Has (expr.Bytes bs) p
  bytes_has bs p = bytes_by bs p (begins_with (drop p x) bs) refl

  pub opt_has : (e : Pattern) (p k : ℕ) (o : Outcome) → Gives rules x e p o k → Has (expr.Opt e) p
  opt_has e p k Fails d = record { outcome = Takes p []; looked = k; gives = opt_none d }
  opt_has e p k (Takes q es) d = record { outcome = Takes q es; looked = k; gives = opt_takes d }

  pub and_has : (e : Pattern) (p k : ℕ) (o : Outcome) → Gives rules x e p o k → Has (expr.And e) p
  and_has e p k Fails d = record { outcome = Fails; looked = k; gives = and_fails d }
  and_has e p k (Takes q es) d = record { outcome = Takes p []; looked = k; gives = and_takes d }

  pub not_has : (e : Pattern) (p k : ℕ) (o : Outcome) → Gives rules x e p o k → Has (expr.Not e) p
  not_has e p k Fails d = record { outcome = Takes p []; looked = k; gives = not_takes d }
  not_has e p k (Takes q es) d = record { outcome = Fails; looked = k; gives = not_fails d }

  -- a star never fails
  star_succeeds : (e : Pattern) (p k : ℕ) (o : Outcome) → Gives rules x (expr.Star e) p o k → (q : ℕ)
      × (es : List Event) × (o ≡ Takes q es)
  star_succeeds e p k o (star_none d) = (_, _, refl)
  star_succeeds e p k o (star_more d c) = (_, _, refl)

  pub star_has : (e : Pattern) (p k : ℕ) (o : Outcome) → Gives rules x e p o k →
      ((q : ℕ) (es : List Event) → Gives rules x e p (Takes q es) k → Has (expr.Star e) q) → Has (expr.Star e) p
  star_has e p k Fails d next = record { outcome = Takes p []; looked = k; gives = star_none d }
  star_has e p k (Takes q es) d next =
      let more = next q es d in
      let ends = star_succeeds e q more.looked more.outcome more.gives in
      record {
        outcome = Takes ends.0 (es ++ ends.1);
        looked = max k more.looked;
        gives = star_more d (subst (λ v. Gives rules x (expr.Star e) q v more.looked) ends.2 more.gives);
      }

  pub plus_has : (e : Pattern) (p k : ℕ) (o : Outcome) → Gives rules x e p o k →
      ((q : ℕ) (es : List Event) → Gives rules x e p (Takes q es) k → Has (expr.Star e) q) → Has (expr.Plus e) p
  plus_has e p k Fails d next = record { outcome = Fails; looked = k; gives = plus_fails d }
  plus_has e p k (Takes q es) d next =
      let more = next q es d in
      let ends = star_succeeds e q more.looked more.outcome more.gives in
      record {
        outcome = Takes ends.0 (es ++ ends.1);
        looked = max k more.looked;
        gives = plus_takes d (subst (λ v. Gives rules x (expr.Star e) q v more.looked) ends.2 more.gives);
      }

  rest_has : (e : Pattern) (rest : Patterns) (p q k : ℕ) (es : List Event) → Gives rules x e p (Takes q es) k
      → (o : Outcome) (j : ℕ) →
      GivesAll rules x rest q o j → HasAll (expr.more e rest) p
  rest_has e rest p q k es d Fails j c = record { outcome = Fails; looked = max k j; gives = rest_fails d c }
  rest_has e rest p q k es d (Takes r fs) j c = record {
    outcome = Takes r (es ++ fs);
    looked = max k j;
    gives = rest_takes d c;
  }

  pub member_has : (e : Pattern) (rest : Patterns) (p k : ℕ) (o : Outcome) → Gives rules x e p o k →
      ((q : ℕ) (es : List Event) → Gives rules x e p (Takes q es) k → HasAll rest q) → HasAll (expr.more e rest) p
  member_has e rest p k Fails d next = record { outcome = Fails; looked = k; gives = one_fails d }
  member_has e rest p k (Takes q es) d next = let more = next q es d in
      rest_has e rest p q k es d more.outcome more.looked more.gives

  pub alternative_has : (e : Pattern) (rest : Patterns) (p k : ℕ) (o : Outcome) → Gives rules x e p o k
      → HasFirst rest p → HasFirst (expr.more e rest) p
  alternative_has e rest p k Fails d more = record {
    outcome = more.outcome;
    looked = max k more.looked;
    gives = first_fails d more.gives;
  }
  alternative_has e rest p k (Takes q es) d more = record { outcome = Takes q es; looked = k; gives = first_takes d }

module _ (rules : List Rule) (start : ℕ) (nodes : List Shape) (bodies ranks : List ℕ)
    (sound : IsRanked rules start nodes bodies ranks) (x : List ℕ) where
  abbrev rank : ℕ → ℕ
  rank n = slice_index ranks n

  rank_drops : (n m : ℕ) → NodeStep rules nodes bodies n m → rank m < rank n
  rank_drops = rank_lower rules start nodes bodies ranks sound

  rank_at_most : (n : ℕ) → n < length nodes → rank n ≤ length nodes
  rank_at_most = rank_bound rules start nodes bodies ranks sound

  abbrev at : ℕ → ℕ → ℕ
  at p n = measure (length x) p (length nodes) (rank n)

  -- what is below the measure t has an outcome
  abbrev Below : ℕ → Type 0
  Below t = (n p : ℕ) (e : Pattern) → Spells rules nodes n e → p ≤ length x → at p n < t → Has rules x e p

  -- an operand that a left step leads to
  step_has : (t n p m : ℕ) (e : Pattern) → Below t → at p n ≤ t → p ≤ length x → Spells rules nodes m e
      → NodeStep rules nodes bodies n m → Has rules x e p
  step_has t n p m e below le high s step =
      let less = falls_here (length x) p (length nodes) (rank m) (rank n) (rank_drops n m step) in
      below m p e s high (omega (arith, less))

  all_has : (t n p : ℕ) → Below t → at p n ≤ t → (ms : List ℕ) (es : Patterns) (q : ℕ) → SpellAll rules nodes ms es
      → p ≤ q → q ≤ length x →
      (q ≡ p → (m : ℕ) → FrontNode rules nodes bodies ms m → rank m < rank n) → HasAll rules x es q
  all_has t n p below le ms es q spell_none low high front =
      record { outcome = Takes q []; looked = 0; gives = all_done }
  all_has t n p below le ms es q (spell_more {n = m} {ns = ns} {p = e} {ps = rest} s ss) low high front =
      let there = is_there rules nodes s in
      let less = measure_falls (length x) p q (length nodes) (rank m) (rank n) low high (rank_at_most m there)
      (λ is. front is m front_first) in
      let one = below m q e s high (omega (arith, less)) in
      member_has rules x e rest q one.looked one.outcome one.gives
      (λ r fs d.
      let on = takes_forward rules x q r one.looked e fs d high in
      all_has t n p below le ns rest r ss (omega (arith, on.0)) on.1
      (λ is k f.
      let here : q ≡ p = omega (arith, on.0) in
      let stays : r ≡ q = omega (arith, on.0) in
      front here k (front_later (e, s, null_of rules x d high stays) f)))

  first_has : (t n p : ℕ) → Below t → at p n ≤ t → p ≤ length x → (ms : List ℕ) (es : Patterns)
      → SpellAll rules nodes ms es →
      ((m : ℕ) → Contains ms m → rank m < rank n) → HasFirst rules x es p
  first_has t n p below le high ms es spell_none all = record { outcome = Fails; looked = 0; gives = all_failed }
  first_has t n p below le high ms es (spell_more {n = m} {ns = ns} {p = e} {ps = rest} s ss) all =
      let less = falls_here (length x) p (length nodes) (rank m) (rank n) (all m (in_first m ns)) in
      let one = below m p e s high (omega (arith, less)) in
      alternative_has rules x e rest p one.looked one.outcome one.gives
      (first_has t n p below le high ns rest ss (λ k h. all k (in_later m k ns h)))

  -- an operand that isn't nullable, again and again
  star_from : (t m : ℕ) (e : Pattern) → Below t → Spells rules nodes m e → (Nullable rules e → ⊥) → (left q : ℕ)
      → length x - q < left → q ≤ length x → at q m < t → Has rules x (expr.Star e) q
  star_from t m e below s moving zero q short high lt = absurd (omega arith)
  star_from t m e below s moving (suc left) q short high lt =
      let one = below m q e s high lt in
      star_has rules x e q one.looked one.outcome one.gives
      (λ r es d.
      let on = takes_forward rules x q r one.looked e es d high in
      let moves : r ≡ q → ⊥ = λ is. moving (null_of rules x d high is) in
      let further : q < r = omega (arith, on.0, moves) in
      let less = falls_ahead (length x) q r (length nodes) (rank m) (rank m) further on.1
      (rank_at_most m (is_there rules nodes s)) in
      star_from t m e below s moving left r (omega (arith, on.1)) on.1 (omega (arith, less)))

  -- one node, where all that is below it has an outcome
  one_has : (t n p : ℕ) (e : Pattern) → Below t → at p n ≤ t → p ≤ length x → Spells rules nodes n e → Has rules x e p
  one_has t n p e below le high (spells_any g) = any_has rules x p
  one_has t n p e below le high (spells_bytes {bs = bs} g) = bytes_has rules x bs p
  one_has t n p e below le high (spells_set {s = s} g) = set_has rules x s p
  one_has t n p e below le high (spells_name {name = word} g) =
      let body = steps_to_body rules start nodes bodies ranks sound n word g in
      let one = step_has t n p body.node body.body below le high body.spelled body.step in
      record { outcome = one.outcome; looked = one.looked; gives = name body.is one.gives }
  one_has t n p e below le high (spells_seq {ms = ms} {ps = ps} g ss) =
      let here : p ≤ p = omega arith in
      let all = all_has t n p below le ms ps p ss here high (λ _ m f. rank_drops n m (to_member g f)) in
      record { outcome = all.outcome; looked = all.looked; gives = seq all.gives }
  one_has t n p e below le high (spells_choice {ms = ms} {ps = ps} g ss) =
      let first = first_has t n p below le high ms ps ss (λ m h. rank_drops n m (to_alternative g h)) in
      record { outcome = first.outcome; looked = first.looked; gives = choice first.gives }
  one_has t n p e below le high (spells_star {m = m} {p = f} g s) =
      let less = falls_here (length x) p (length nodes) (rank m) (rank n) (rank_drops n m (to_starred g)) in
      star_from t m f below s (λ null. sound.moving.star n m g (f, s, null)) (length x - p + 1) p (omega arith) high
      (omega (arith, less))
  one_has t n p e below le high (spells_plus {m = m} {k = k} {p = f} g s a) =
      let step = rank_drops n m (to_repeated g) in
      let less = falls_here (length x) p (length nodes) (rank m) (rank n) step in
      let one = below m p f s high (omega (arith, less)) in
      plus_has rules x f p one.looked one.outcome one.gives
      (λ q es d.
      let on = takes_forward rules x p q one.looked f es d high in
      let next = measure_falls (length x) p q (length nodes) (rank m) (rank n) on.0 on.1
      (rank_at_most m (is_there rules nodes s))
      (λ _. step) in
      star_from t m f below s (λ null. sound.moving.plus n m k g (f, s, null)) (length x - q + 1) q (omega arith) on.1
      (omega (arith, next)))
  one_has t n p e below le high (spells_opt {m = m} {p = f} g s) =
      let one = step_has t n p m f below le high s (to_optional g) in
      opt_has rules x f p one.looked one.outcome one.gives
  one_has t n p e below le high (spells_and {m = m} {p = f} g s) =
      let one = step_has t n p m f below le high s (to_asserted g) in
      and_has rules x f p one.looked one.outcome one.gives
  one_has t n p e below le high (spells_not {m = m} {p = f} g s) =
      let one = step_has t n p m f below le high s (to_denied g) in
      not_has rules x f p one.looked one.outcome one.gives
  one_has t n p e below le high (spells_act {t = u} g) =
      record { outcome = Takes p (event.Acted u ∷ []); looked = 0; gives = act }
  one_has t n p e below le high (spells_open g) =
      record { outcome = Takes p (event.Opened p ∷ []); looked = 0; gives = open_at }
  one_has t n p e below le high (spells_close g) =
      record { outcome = Takes p (event.Closed p ∷ []); looked = 0; gives = close_at }

  all_below : (t : ℕ) → Below t
  all_below zero n p e s le lt = absurd (omega arith)
  all_below (suc t) n p e s le lt = one_has t n p e (all_below t) (omega arith) le s

  pub evaluation_ends : (n p : ℕ) (e : Pattern) → Spells rules nodes n e → p ≤ length x → Has rules x e p
  evaluation_ends n p e s le = all_below (at p n + 1) n p e s le (omega arith)

  -- and so does each that stands in a body
  pub standing_ends : (e : Pattern) (p : ℕ) → StandsIn rules e → p ≤ length x → Has rules x e p
  standing_ends e p s le =
      let lt = slice_get_within (map (λ rule. rule.body) rules) s.id s.body s.rule in
      let count = length-map rules (λ rule. rule.body) in
      let at = slice_get-get_or bodies s.id 0 (omega (arith, lt, count, sound.spelled.count)) in
      let body = sound.spelled.spelled s.id (get_or bodies s.id 0) at in
      let same : s.body ≡ body.0 = cc (s.rule, body.1) in
      let part = part_spelled rules nodes (subst (λ v. Within v e) same s.within) (get_or bodies s.id 0) body.2 in
      evaluation_ends part.0 p e part.1 le

  pub gives_one : (e : Pattern) (p : ℕ) → StandsIn rules e → p ≤ length x → GivesOne rules x e p
  gives_one e p s le =
      let one = standing_ends e p s le in
      record {
        outcome = one.outcome;
        looked = one.looked;
        gives = one.gives;
        only = λ o k d. let is = gives_same rules x d one.gives in (is.outcome, is.looked);
      }

  pub start_gives_one : StartGivesOne rules start x
  start_gives_one =
      let at = slice_get-get_or (map (λ rule. rule.body) rules) start expr.Any
      (omega (arith, sound.start_is_rule, length-map rules (λ rule. rule.body))) in
      let stands : StandsIn rules (get_or (map (λ rule. rule.body) rules) start expr.Any) =
      record {
        id = start;
        body = get_or (map (λ rule. rule.body) rules) start expr.Any;
        rule = at;
        within = itself;
      } in
      let front : 0 ≤ length x = omega arith in
      let one = standing_ends (get_or (map (λ rule. rule.body) rules) start expr.Any) 0 stands front in
      let gives : RuleGives rules start x one.outcome one.looked =
      record { body = get_or (map (λ rule. rule.body) rules) start expr.Any; rule = at; gives = one.gives } in
      record {
        outcome = one.outcome;
        looked = one.looked;
        gives = gives;
        only = λ o k d. let is = same_of_start rules start x k one.looked o one.outcome d gives in
            (is.outcome, is.looked);
      }

  pub has_of_start : (o : Outcome) × (k : ℕ) × RuleGives rules start x o k
  has_of_start = let one = start_gives_one in (one.outcome, one.looked, one.gives)
