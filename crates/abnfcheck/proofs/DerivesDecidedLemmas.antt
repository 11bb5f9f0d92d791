-- Whether a rule derives letters that lead a finite automaton from one state to another is decided.
-- Serves: derivation_is_decided, furthest_is_found
use Rattle.std.proofs.Common.{◌≡◌, ℕ, zero, suc, ◌+◌, ◌-◌, ◌<◌, ◌≤◌, ◌⊎◌, inl, inr, Bool, true, false, ◌&&◌, ◌||◌, cond}
use Rattle.std.proofs.Common.{eqb, ltb, leb, List, [], ◌∷◌, ◌++◌, Option, Some, None, refl, sym, ◌∙◌, ap, subst, arith}
use Rattle.std.proofs.Common.{eqb-true, eq-eqb, ltb-true, lt-ltb, leb-true, le-leb, ⊎_elim}
use Rattle.std.specs.Prelude.{slice_get}
use Rattle.std.proofs.lemmas.Bool.{cases_lt}
use Rattle.ruletable.specs.Rules.{same_name}
use Rattle.ruletable.specs.declared.table.NameCase.TheVariants.{Fold}
use Rattle.abnfread.specs.Element as e
use Rattle.abnfread.specs.Element.{Element, Elements, Rule, bodies, body_of}
use Rattle.abnfcheck.specs.Derivable as der
use Rattle.ruletable.specs.Letters.{small}
use Rattle.abnfcheck.specs.Derivable.{StandsFor, Spelled, AreLetters, Derives, DerivesAll, DerivesSome}
use Rattle.abnfcheck.specs.Derivable.{DerivesTimes, all_done, then, this, later, no_more, one_more, RuleDerives}
use Rattle.abnfcheck.specs.Decided.{Says}
use Rattle.abnfcheck.proofs.IsPathLemmas.{IsPath, here, step, paths_join, path_splits}
use Rattle.abnfcheck.proofs.FiniteLeastLemmas.{Listed, first, further, least_is_decided}

-- tests
pub and_first : (a b : Bool) → (a && b) ≡ true → a ≡ true
and_first true b h = refl
and_first false b h = absurd (cc h)

pub and_second : (a b : Bool) → (a && b) ≡ true → b ≡ true
and_second true b h = h
and_second false b h = absurd (cc h)

pub and_true : (a b : Bool) → a ≡ true → b ≡ true → (a && b) ≡ true
and_true true b h g = g
and_true false b h g = absurd (cc h)

pub or_true : (a b : Bool) → (a || b) ≡ true → (a ≡ true) ⊎ (b ≡ true)
or_true true b h = inl refl
or_true false b h = inr h

pub or_first : (a b : Bool) → a ≡ true → (a || b) ≡ true
or_first true b h = refl
or_first false b h = absurd (cc h)

pub or_second : (a b : Bool) → b ≡ true → (a || b) ≡ true
or_second true b h = refl
or_second false b h = h

-- one of the numbers below n
abbrev any : ℕ → (ℕ → Bool) → Bool
any zero f = false
any (suc n) f = f n || any n f

any_found : (n : ℕ) (f : ℕ → Bool) → any n f ≡ true → (k : ℕ) × (f k ≡ true)
any_found zero f h = absurd (cc h)
any_found (suc n) f h = ⊎_elim (λ is. (n, is)) (λ rest. any_found n f rest) (or_true (f n) (any n f) h)

any_at : (n k : ℕ) (f : ℕ → Bool) → k < n → f k ≡ true → any n f ≡ true
any_at zero k f lt h = absurd (omega (arith, lt))
any_at (suc n) k f lt h = ⊎_elim (λ less. or_second (f n) (any n f) (any_at n k f less h))
    (λ le. let same : k ≡ n = omega (arith, lt, le) in or_first (f n) (any n f) (subst (λ v. f v ≡ true) same h))
    (cases_lt k n)

-- f at each number below n
abbrev every : {A : Type 0} → ℕ → (ℕ → A) → List A
every zero f = []
every (suc n) f = f n ∷ every n f

abbrev each : {A : Type 0} → ℕ → (ℕ → List A) → List A
each zero f = []
each (suc n) f = f n ++ each n f

on_left : {A : Type 0} {a : A} {xs : List A} (ys : List A) → Listed a xs → Listed a (xs ++ ys)
on_left ys (first is) = first is
on_left ys (further h) = further (on_left ys h)

on_right : {A : Type 0} {a : A} (xs : List A) {ys : List A} → Listed a ys → Listed a (xs ++ ys)
on_right [] h = h
on_right (x ∷ xs) h = further (on_right xs h)

one_side : {A : Type 0} {a : A} (xs : List A) {ys : List A} → Listed a (xs ++ ys) → Listed a xs ⊎ Listed a ys
one_side [] h = inr h
one_side (x ∷ xs) (first is) = inl (first is)
one_side (x ∷ xs) (further h) = ⊎_elim (λ l. inl (further l)) (λ r. inr r) (one_side xs h)

in_every : {A : Type 0} (n k : ℕ) (f : ℕ → A) → k < n → Listed (f k) (every n f)
in_every zero k f lt = absurd (omega (arith, lt))
in_every (suc n) k f lt = ⊎_elim (λ less. further (in_every n k f less))
    (λ le. let same : k ≡ n = omega (arith, lt, le) in first (ap f same)) (cases_lt k n)

from_every : {A : Type 0} (n : ℕ) (f : ℕ → A) (a : A) → Listed a (every n f) → (k : ℕ) × (k < n) × (a ≡ f k)
from_every zero f a h = elim h [ ]
from_every (suc n) f a (first is) = (n, omega arith, is)
from_every (suc n) f a (further h) = let r = from_every n f a h in (r.0, omega (arith, r.1), r.2)

in_each : {A : Type 0} (n k : ℕ) (f : ℕ → List A) {a : A} → k < n → Listed a (f k) → Listed a (each n f)
in_each zero k f lt h = absurd (omega (arith, lt))
in_each (suc n) k f {a = a} lt h = ⊎_elim (λ less. on_right (f n) (in_each n k f less h))
    (λ le. let same : k ≡ n = omega (arith, lt, le) in on_left (each n f) (subst (λ v. Listed a (f v)) same h))
    (cases_lt k n)

from_each : {A : Type 0} (n : ℕ) (f : ℕ → List A) (a : A) → Listed a (each n f) → (k : ℕ) × (k < n) × Listed a (f k)
from_each zero f a h = elim h [ ]
from_each (suc n) f a h = ⊎_elim (λ l. (n, omega arith, l))
    (λ r. let g = from_each n f a r in (g.0, omega (arith, g.1), g.2)) (one_side (f n) h)

-- a repetition with an iteration less
abbrev less : Option ℕ → Option ℕ
less None = None
less (Some b) = Some (b - 1)

abbrev iterations : ℕ → Option ℕ → Element → List Element
iterations a None d = every (a + 1) (λ k. e.Rep k None d)
iterations a (Some b) d = each (a + 1) (λ k. every (b + 1) (λ l. e.Rep k (Some l) d))

-- what a derivation of an element goes through, itself included
abbrev mutual
  subs : Element → List Element
  subs (e.Text folds t) = e.Text folds t ∷ []
  subs (e.Values vs) = e.Values vs ∷ []
  subs (e.Range low high) = e.Range low high ∷ []
  subs (e.Concat es) = subs_concat es
  subs (e.Alt es) = subs_alt es
  subs (e.Rep a b d) = iterations a b d ++ subs d
  subs (e.Opt d) = e.Opt d ∷ subs d
  subs (e.Name n) = e.Name n ∷ []
  subs (e.Prose t) = e.Prose t ∷ []

  subs_concat : Elements → List Element
  subs_concat e.none = e.Concat e.none ∷ []
  subs_concat (e.more d es) = e.Concat (e.more d es) ∷ (subs d ++ subs_concat es)

  subs_alt : Elements → List Element
  subs_alt e.none = e.Alt e.none ∷ []
  subs_alt (e.more d es) = e.Alt (e.more d es) ∷ (subs d ++ subs_alt es)

-- what a derivation goes on with
data Part : Element → Element → Type 0 where
  concat_first : {d : Element} {es : Elements} → Part (e.Concat (e.more d es)) d
  concat_rest : {d : Element} {es : Elements} → Part (e.Concat (e.more d es)) (e.Concat es)
  alt_first : {d : Element} {es : Elements} → Part (e.Alt (e.more d es)) d
  alt_rest : {d : Element} {es : Elements} → Part (e.Alt (e.more d es)) (e.Alt es)
  iteration : {a : ℕ} {b : Option ℕ} {d : Element} → Part (e.Rep a b d) d
  iterations_left : {a : ℕ} {b : Option ℕ} {d : Element} → Part (e.Rep a b d) (e.Rep (a - 1) (less b) d)
  operand : {d : Element} → Part (e.Opt d) d

iterations_itself : (a : ℕ) (b : Option ℕ) (d : Element) → Listed (e.Rep a b d) (iterations a b d)
iterations_itself a None d = in_every (a + 1) a (λ k. e.Rep k None d) (omega arith)
iterations_itself a (Some b) d = in_each (a + 1) a (λ k. every (b + 1) (λ l. e.Rep k (Some l) d)) (omega arith)
    (in_every (b + 1) b (λ l. e.Rep a (Some l) d) (omega arith))

listed_itself : (d : Element) → Listed d (subs d)
listed_itself (e.Text folds t) = first refl
listed_itself (e.Values vs) = first refl
listed_itself (e.Range low high) = first refl
listed_itself (e.Concat e.none) = first refl
listed_itself (e.Concat (e.more d es)) = first refl
listed_itself (e.Alt e.none) = first refl
listed_itself (e.Alt (e.more d es)) = first refl
listed_itself (e.Rep a b d) = on_left (subs d) (iterations_itself a b d)
listed_itself (e.Opt d) = first refl
listed_itself (e.Name n) = first refl
listed_itself (e.Prose t) = first refl

-- the parts of a repetition
rep_part : (a : ℕ) (b : Option ℕ) (d c : Element) → Part (e.Rep a b d) c → (c ≡ d) ⊎ (c ≡ e.Rep (a - 1) (less b) d)
rep_part a b d c iteration = inl refl
rep_part a b d c iterations_left = inr refl

in_iterations : (a : ℕ) (b : Option ℕ) (d x c : Element) → Listed x (iterations a b d) → Part x c
    → Listed c (iterations a b d)
    ⊎ (c ≡ d)
in_iterations a None d x c h p =
    let f = from_every (a + 1) (λ k. e.Rep k None d) x h in
    ⊎_elim (λ same. inr same)
    (λ same. inl (subst (λ v. Listed v (iterations a None d)) (sym same)
    (in_every (a + 1) (f.0 - 1) (λ k. e.Rep k None d) (let lt = f.1 in omega (arith, lt)))))
    (rep_part f.0 None d c (subst (λ v. Part v c) f.2 p))
in_iterations a (Some b) d x c h p =
    let g = from_each (a + 1) (λ k. every (b + 1) (λ l. e.Rep k (Some l) d)) x h in
    let f = from_every (b + 1) (λ l. e.Rep g.0 (Some l) d) x g.2 in
    ⊎_elim (λ same. inr same)
    (λ same. inl (subst (λ v. Listed v (iterations a (Some b) d)) (sym same)
    (in_each (a + 1) (g.0 - 1) (λ k. every (b + 1) (λ l. e.Rep k (Some l) d)) (let lt = g.1 in omega (arith, lt))
    (in_every (b + 1) (f.0 - 1) (λ l. e.Rep (g.0 - 1) (Some l) d) (let lt = f.1 in omega (arith, lt))))))
    (rep_part g.0 (Some f.0) d c (subst (λ v. Part v c) f.2 p))

mutual
  -- the parts of those that a derivation goes through are of them
  parts_in : (d x c : Element) → Listed x (subs d) → Part x c → Listed c (subs d)
  parts_in (e.Text folds t) x c (first same) p = none_of (subst (λ v. Part v c) same p)
    where
      none_of : {c : Element} → Part (e.Text folds t) c → Listed c (subs (e.Text folds t))
      none_of p = elim p [ ]
  parts_in (e.Text folds t) x c (further h) p = elim h [ ]
  parts_in (e.Values vs) x c (first same) p = none_of (subst (λ v. Part v c) same p)
    where
      none_of : {c : Element} → Part (e.Values vs) c → Listed c (subs (e.Values vs))
      none_of p = elim p [ ]
  parts_in (e.Values vs) x c (further h) p = elim h [ ]
  parts_in (e.Range low high) x c (first same) p = none_of (subst (λ v. Part v c) same p)
    where
      none_of : {c : Element} → Part (e.Range low high) c → Listed c (subs (e.Range low high))
      none_of p = elim p [ ]
  parts_in (e.Range low high) x c (further h) p = elim h [ ]
  parts_in (e.Concat es) x c h p = concat_parts_in es x c h p
  parts_in (e.Alt es) x c h p = alt_parts_in es x c h p
  parts_in (e.Rep a b d) x c h p = ⊎_elim
      (λ l. ⊎_elim (λ t. on_left (subs d) t) (λ same. on_right (iterations a b d)
      (subst (λ v. Listed v (subs d)) (sym same) (listed_itself d))) (in_iterations a b d x c l p))
      (λ r. on_right (iterations a b d) (parts_in d x c r p))
      (one_side (iterations a b d) h)
  parts_in (e.Opt d) x c (first same) p = inner (subst (λ v. Part v c) same p)
    where
      inner : {c : Element} → Part (e.Opt d) c → Listed c (subs (e.Opt d))
      inner operand = further (listed_itself d)
  parts_in (e.Opt d) x c (further h) p = further (parts_in d x c h p)
  parts_in (e.Name n) x c (first same) p = none_of (subst (λ v. Part v c) same p)
    where
      none_of : {c : Element} → Part (e.Name n) c → Listed c (subs (e.Name n))
      none_of p = elim p [ ]
  parts_in (e.Name n) x c (further h) p = elim h [ ]
  parts_in (e.Prose t) x c (first same) p = none_of (subst (λ v. Part v c) same p)
    where
      none_of : {c : Element} → Part (e.Prose t) c → Listed c (subs (e.Prose t))
      none_of p = elim p [ ]
  parts_in (e.Prose t) x c (further h) p = elim h [ ]

  concat_parts_in : (es : Elements) (x c : Element) → Listed x (subs_concat es) → Part x c → Listed c (subs_concat es)
  concat_parts_in e.none x c (first same) p = none_of (subst (λ v. Part v c) same p)
    where
      none_of : {c : Element} → Part (e.Concat e.none) c → Listed c (subs_concat e.none)
      none_of p = elim p [ ]
  concat_parts_in e.none x c (further h) p = elim h [ ]
  concat_parts_in (e.more d es) x c (first same) p = inner (subst (λ v. Part v c) same p)
    where
      inner : {c : Element} → Part (e.Concat (e.more d es)) c → Listed c (subs_concat (e.more d es))
      inner concat_first = further (on_left (subs_concat es) (listed_itself d))
      inner concat_rest = further (on_right (subs d) (listed_itself (e.Concat es)))
  concat_parts_in (e.more d es) x c (further h) p =
      further (⊎_elim (λ l. on_left (subs_concat es) (parts_in d x c l p))
      (λ r. on_right (subs d) (concat_parts_in es x c r p)) (one_side (subs d) h))

  alt_parts_in : (es : Elements) (x c : Element) → Listed x (subs_alt es) → Part x c → Listed c (subs_alt es)
  alt_parts_in e.none x c (first same) p = none_of (subst (λ v. Part v c) same p)
    where
      none_of : {c : Element} → Part (e.Alt e.none) c → Listed c (subs_alt e.none)
      none_of p = elim p [ ]
  alt_parts_in e.none x c (further h) p = elim h [ ]
  alt_parts_in (e.more d es) x c (first same) p = inner (subst (λ v. Part v c) same p)
    where
      inner : {c : Element} → Part (e.Alt (e.more d es)) c → Listed c (subs_alt (e.more d es))
      inner alt_first = further (on_left (subs_alt es) (listed_itself d))
      inner alt_rest = further (on_right (subs d) (listed_itself (e.Alt es)))
  alt_parts_in (e.more d es) x c (further h) p =
      further (⊎_elim (λ l. on_left (subs_alt es) (parts_in d x c l p))
      (λ r. on_right (subs d) (alt_parts_in es x c r p)) (one_side (subs d) h))

-- those of all rules
abbrev universe : List Rule → List Element
universe [] = []
universe (rule ∷ rules) = subs rule.body ++ universe rules

universe_parts : (rules : List Rule) (x c : Element) → Listed x (universe rules) → Part x c → Listed c (universe rules)
universe_parts [] x c h p = elim h [ ]
universe_parts (rule ∷ rules) x c h p =
    ⊎_elim (λ l. on_left (universe rules) (parts_in rule.body x c l p))
    (λ r. on_right (subs rule.body) (universe_parts rules x c r p)) (one_side (subs rule.body) h)

named_in : (rules : List Rule) (n : List ℕ) (d : Element) → body_of rules n ≡ Some d → Listed d (universe rules)
named_in [] n d is = absurd (cc is)
named_in (rule ∷ rules) n d is = by (same_name Fold n rule.name) is (λ rest. named_in rules n d rest)
  where
    by : (b : Bool) → cond b (Some rule.body) (body_of rules n) ≡ Some d
        → (body_of rules n ≡ Some d → Listed d (universe rules)) → Listed d (universe (rule ∷ rules))
    by true is after = let same : rule.body ≡ d = cc is in
        on_left (universe rules) (subst (λ v. Listed v (subs rule.body)) same (listed_itself rule.body))
    by false is after = on_right (subs rule.body) (after is)

body_listed : (rules : List Rule) (id : ℕ) (d : Element) → slice_get (bodies rules) id ≡ Some d
    → Listed d (universe rules)
body_listed [] id d is = absurd (cc is)
body_listed (rule ∷ rules) zero d is = let same : rule.body ≡ d = cc is in
    on_left (universe rules) (subst (λ v. Listed v (subs rule.body)) same (listed_itself rule.body))
body_listed (rule ∷ rules) (suc id) d is = on_right (subs rule.body) (body_listed rules id d is)

-- an element and two states
record Fact : Type 0 where
  el : Element
  from : ℕ
  to : ℕ

abbrev fact : Element → ℕ → ℕ → Fact
fact d i j = record { el = d; from = i; to = j }

abbrev facts : ℕ → List Element → List Fact
facts n [] = []
facts n (d ∷ ds) = each n (λ i. every n (λ j. fact d i j)) ++ facts n ds

in_facts : (n i j : ℕ) (ds : List Element) (d : Element) → i < n → j < n → Listed d ds
    → Listed (fact d i j) (facts n ds)
in_facts n i j [] d lt less h = elim h [ ]
in_facts n i j (c ∷ ds) d lt less (first same) =
    on_left (facts n ds) (subst (λ v. Listed (fact d i j) (each n (λ i. every n (λ j. fact v i j)))) same
    (in_each n i (λ i. every n (λ j. fact d i j)) lt (in_every n j (λ j. fact d i j) less)))
in_facts n i j (c ∷ ds) d lt less (further h) = on_right (each n (λ i. every n (λ j. fact c i j)))
    (in_facts n i j ds d lt less h)

from_facts : (n : ℕ) (ds : List Element) (f : Fact) → Listed f (facts n ds) → Listed f.el ds × (f.from < n) × (f.to < n)
from_facts n [] f h = elim h [ ]
from_facts n (d ∷ ds) f h = ⊎_elim
    (λ l.
    let g = from_each n (λ i. every n (λ j. fact d i j)) f l in
    let k = from_every n (λ j. fact d g.0 j) f g.2 in (
      first (ap (λ v. v.el) k.2),
      subst (λ v. v < n) (sym (ap (λ v. v.from) k.2)) g.1,
      subst (λ v. v < n) (sym (ap (λ v. v.to) k.2)) k.1,
    ))
    (λ r. let g = from_facts n ds f r in (further g.0, g.1, g.2))
    (one_side (each n (λ i. every n (λ j. fact d i j))) h)

-- a letter that stands for another
abbrev stands : Bool → ℕ → ℕ → Bool
stands true t c = eqb (small c) (small t)
stands false t c = eqb c t

stands_for : (folds : Bool) (t c : ℕ) → stands folds t c ≡ true → StandsFor folds t c
stands_for true t c h = eqb-true (small c) (small t) h
stands_for false t c h = eqb-true c t h

stands_true : (folds : Bool) (t c : ℕ) → StandsFor folds t c → stands folds t c ≡ true
stands_true true t c h = eq-eqb (small c) (small t) h
stands_true false t c h = eq-eqb c t h

from_small : (b : Bool) (c : ℕ) → c ≤ cond b (c + 32) c
from_small true c = omega arith
from_small false c = omega arith

to_small : (b : Bool) (c : ℕ) → cond b (c + 32) c ≤ c + 32
to_small true c = omega arith
to_small false c = omega arith

stands_below : (folds : Bool) (t c : ℕ) → StandsFor folds t c → c < t + 33
stands_below true t c h =
    let low : c ≤ small c = from_small (ltb 64 c && ltb c 91) c in
    let high : small t ≤ t + 32 = to_small (ltb 64 t && ltb t 91) t in
    omega (arith, low, high, h)
stands_below false t c h = omega (arith, h)

-- The states are the numbers up to `last`. `goes i c k`: the letter c leads from i to k.
module _ (has : ℕ → Bool) (rules : List Rule) (last : ℕ) (goes : ℕ → ℕ → ℕ → Bool)
    (within : (i c k : ℕ) → goes i c k ≡ true → k ≤ last) where
  abbrev Goes : ℕ → ℕ → ℕ → Type 0
  Goes i c k = goes i c k ≡ true

  -- a letter below a bound that leads from i to a state, where f holds of both
  abbrev moves : ℕ → ℕ → (ℕ → ℕ → Bool) → Bool
  moves bound i f = any bound (λ c. any (last + 1) (λ k. goes i c k && f c k))

  record Move (i : ℕ) (f : ℕ → ℕ → Bool) : Type 0 where
    letter : ℕ
    next : ℕ
    moved : goes i letter next ≡ true
    holds : f letter next ≡ true

  move_of : (bound i : ℕ) (f : ℕ → ℕ → Bool) → moves bound i f ≡ true → Move i f
  move_of bound i f h =
      let one = any_found bound (λ c. any (last + 1) (λ k. goes i c k && f c k)) h in
      let two = any_found (last + 1) (λ k. goes i one.0 k && f one.0 k) one.1 in
      record {
        letter = one.0;
        next = two.0;
        moved = and_first (goes i one.0 two.0) (f one.0 two.0) two.1;
        holds = and_second (goes i one.0 two.0) (f one.0 two.0) two.1;
      }

  moves_by : (bound i c k : ℕ) (f : ℕ → ℕ → Bool) → c < bound → goes i c k ≡ true → f c k ≡ true
      → moves bound i f ≡ true
  moves_by bound i c k f lt is h =
      any_at bound c (λ c. any (last + 1) (λ k. goes i c k && f c k)) lt
      (any_at (last + 1) k (λ k. goes i c k && f c k) (let le = within i c k is in omega (arith, le))
      (and_true (goes i c k) (f c k) is h))

  -- leaves
  abbrev reads_text : Bool → List ℕ → ℕ → ℕ → Bool
  reads_text folds [] i j = eqb i j
  reads_text folds (t ∷ ts) i j = moves (t + 33) i (λ c k. stands folds t c && reads_text folds ts k j)

  abbrev reads_values : List ℕ → ℕ → ℕ → Bool
  reads_values [] i j = eqb i j
  reads_values (v ∷ vs) i j = moves (v + 1) i (λ c k. (eqb c v && has v) && reads_values vs k j)

  abbrev reads_range : ℕ → ℕ → ℕ → ℕ → Bool
  reads_range low high i j = moves (high + 1) i (λ c k. ((leb low c && leb c high) && has c) && eqb k j)

  -- an element with two states whose parts are marked
  abbrev may : Option ℕ → Bool
  may None = true
  may (Some b) = ltb 0 b

  abbrev of_body : (Fact → Bool) → Option Element → ℕ → ℕ → Bool
  of_body s None i j = false
  of_body s (Some d) i j = s (fact d i j)

  abbrev both : (Fact → Bool) → Element → Element → ℕ → ℕ → Bool
  both s d c i j = any (last + 1) (λ m. s (fact d i m) && s (fact c m j))

  abbrev grows : (Fact → Bool) → Element → ℕ → ℕ → Bool
  grows s (e.Text folds t) i j = reads_text folds t i j
  grows s (e.Values vs) i j = reads_values vs i j
  grows s (e.Range low high) i j = reads_range low high i j
  grows s (e.Concat e.none) i j = eqb i j
  grows s (e.Concat (e.more d es)) i j = both s d (e.Concat es) i j
  grows s (e.Alt e.none) i j = false
  grows s (e.Alt (e.more d es)) i j = s (fact d i j) || s (fact (e.Alt es) i j)
  grows s (e.Rep a b d) i j = (leb a 0 && eqb i j) || (may b && both s d (e.Rep (a - 1) (less b) d) i j)
  grows s (e.Opt d) i j = eqb i j || s (fact d i j)
  grows s (e.Name n) i j = of_body s (body_of rules n) i j
  grows s (e.Prose t) i j = false

  abbrev grow : (Fact → Bool) → Fact → Bool
  grow s f = grows s f.el f.from f.to

  -- some letters that the element derives lead from the one state to the other
  record Spans (f : Fact) : Type 0 where
    word : List ℕ
    path : IsPath Goes f.from word f.to
    derives : Derives has rules f.el word

  text_spans : (folds : Bool) (t : List ℕ) (i j : ℕ) → reads_text folds t i j ≡ true → (w : List ℕ) × IsPath Goes i w j
      × Spelled folds t w
  text_spans folds [] i j h = ([], subst (λ v. IsPath Goes i [] v) (eqb-true i j h) here, Spelled.end)
  text_spans folds (t ∷ ts) i j h =
      let m = move_of (t + 33) i (λ c k. stands folds t c && reads_text folds ts k j) h in
      let one = stands_for folds t m.letter (and_first (stands folds t m.letter) (reads_text folds ts m.next j)
      m.holds) in
      let rest = text_spans folds ts m.next j (and_second (stands folds t m.letter) (reads_text folds ts m.next j)
      m.holds) in
      (m.letter ∷ rest.0, step m.moved rest.1, Spelled.next one rest.2)

  values_span : (vs : List ℕ) (i j : ℕ) → reads_values vs i j ≡ true → IsPath Goes i vs j × AreLetters has vs
  values_span [] i j h = (subst (λ v. IsPath Goes i [] v) (eqb-true i j h) here, tt)
  values_span (v ∷ vs) i j h =
      let m = move_of (v + 1) i (λ c k. (eqb c v && has v) && reads_values vs k j) h in
      let front = and_first (eqb m.letter v && has v) (reads_values vs m.next j) m.holds in
      let same = eqb-true m.letter v (and_first (eqb m.letter v) (has v) front) in
      let rest = values_span vs m.next j (and_second (eqb m.letter v && has v) (reads_values vs m.next j) m.holds) in (
        step (subst (λ c. goes i c m.next ≡ true) same m.moved) rest.0,
        (and_second (eqb m.letter v) (has v) front, rest.1),
      )

  range_spans : (low high i j : ℕ) → reads_range low high i j ≡ true → Spans (fact (e.Range low high) i j)
  range_spans low high i j h =
      let m = move_of (high + 1) i (λ c k. ((leb low c && leb c high) && has c) && eqb k j) h in
      let inside = and_first ((leb low m.letter && leb m.letter high) && has m.letter) (eqb m.next j) m.holds in
      let ends = eqb-true m.next j (and_second ((leb low m.letter && leb m.letter high) && has m.letter) (eqb m.next j)
      m.holds) in
      let bounds = and_first (leb low m.letter && leb m.letter high) (has m.letter) inside in
      record {
        word = m.letter ∷ [];
        path = step m.moved (subst (λ v. IsPath Goes m.next [] v) ends here);
        derives = der.range (leb-true low m.letter (and_first (leb low m.letter) (leb m.letter high) bounds))
            (leb-true m.letter high (and_second (leb low m.letter) (leb m.letter high) bounds))
            (and_second (leb low m.letter && leb m.letter high) (has m.letter) inside);
      }

  members_of : {es : Elements} {w : List ℕ} → Derives has rules (e.Concat es) w → DerivesAll has rules es w
  members_of (der.concat d) = d

  alternative_of : {es : Elements} {w : List ℕ} → Derives has rules (e.Alt es) w → DerivesSome has rules es w
  alternative_of (der.alt d) = d

  record Iterations (a : ℕ) (b : Option ℕ) (d : Element) (w : List ℕ) : Type 0 where
    count : ℕ
    low : a ≤ count
    high : der.AtMost count b
    times : DerivesTimes has rules d count w

  iterations_of : {a : ℕ} {b : Option ℕ} {d : Element} {w : List ℕ} → Derives has rules (e.Rep a b d) w
      → Iterations a b d w
  iterations_of (der.rep {k = k} low high d) = record { count = k; low = low; high = high; times = d }

  none_within : (b : Option ℕ) → der.AtMost 0 b
  none_within None = tt
  none_within (Some b) = omega arith

  more_within : (k : ℕ) (b : Option ℕ) → may b ≡ true → der.AtMost k (less b) → der.AtMost (suc k) b
  more_within k None h g = tt
  more_within k (Some b) h g = let lt = ltb-true 0 b h in omega (arith, lt, g)

  less_within : (k : ℕ) (b : Option ℕ) → der.AtMost (suc k) b → (may b ≡ true) × der.AtMost k (less b)
  less_within k None h = (refl, tt)
  less_within k (Some b) h = (lt-ltb 0 b (omega (arith, h)), omega (arith, h))

  module _ (s : Fact → Bool) (right : (f : Fact) → s f ≡ true → Spans f) where
    -- two parts, one after the other
    record Two (d c : Element) (i j : ℕ) : Type 0 where
      mid : ℕ
      left : Spans (fact d i mid)
      rest : Spans (fact c mid j)

    two_of : (d c : Element) (i j : ℕ) → both s d c i j ≡ true → Two d c i j
    two_of d c i j h =
        let f = any_found (last + 1) (λ m. s (fact d i m) && s (fact c m j)) h in
        record {
          mid = f.0;
          left = right (fact d i f.0) (and_first (s (fact d i f.0)) (s (fact c f.0 j)) f.1);
          rest = right (fact c f.0 j) (and_second (s (fact d i f.0)) (s (fact c f.0 j)) f.1);
        }

    body_spans : (n : List ℕ) (i j : ℕ) (o : Option Element) → body_of rules n ≡ o → of_body s o i j ≡ true
        → Spans (fact (e.Name n) i j)
    body_spans n i j None is h = absurd (cc h)
    body_spans n i j (Some d) is h = let p = right (fact d i j) h in
        record { word = p.word; path = p.path; derives = der.name is p.derives }

    rep_spans : (a : ℕ) (b : Option ℕ) (d : Element) (i j : ℕ) → grows s (e.Rep a b d) i j ≡ true
        → Spans (fact (e.Rep a b d) i j)
    rep_spans a b d i j h = ⊎_elim
        (λ none.
        let le = leb-true a 0 (and_first (leb a 0) (eqb i j) none) in
        record {
          word = [];
          path = subst (λ v. IsPath Goes i [] v) (eqb-true i j
              (and_second (leb a 0) (eqb i j) none)) here;
          derives = der.rep {k = 0} le (none_within b) no_more;
        })
        (λ some.
        let t = two_of d (e.Rep (a - 1) (less b) d) i j
        (and_second (may b) (both s d (e.Rep (a - 1) (less b) d) i j) some) in
        let r = iterations_of t.rest.derives in
        let low = r.low in
        record {
          word = t.left.word ++ t.rest.word;
          path = paths_join Goes t.left.path t.rest.path;
          derives = der.rep {k = suc r.count} (omega (arith, low))
              (more_within r.count b (and_first (may b) (both s d (e.Rep (a - 1) (less b) d) i j) some) r.high)
              (one_more t.left.derives r.times);
        })
        (or_true (leb a 0 && eqb i j) (may b && both s d (e.Rep (a - 1) (less b) d) i j) h)

    grown_spans : (d : Element) (i j : ℕ) → grows s d i j ≡ true → Spans (fact d i j)
    grown_spans (e.Text folds t) i j h = let r = text_spans folds t i j h in
        record { word = r.0; path = r.1; derives = der.text r.2 }
    grown_spans (e.Values vs) i j h = let r = values_span vs i j h in
        record { word = vs; path = r.0; derives = der.values r.1 }
    grown_spans (e.Range low high) i j h = range_spans low high i j h
    grown_spans (e.Concat e.none) i j h = record {
      word = [];
      path = subst (λ v. IsPath Goes i [] v) (eqb-true i j h) here;
      derives = der.concat all_done;
    }
    grown_spans (e.Concat (e.more d es)) i j h =
        let t = two_of d (e.Concat es) i j h in
        record {
          word = t.left.word ++ t.rest.word;
          path = paths_join Goes t.left.path t.rest.path;
          derives = der.concat (then t.left.derives (members_of t.rest.derives));
        }
    grown_spans (e.Alt e.none) i j h = absurd (cc h)
    grown_spans (e.Alt (e.more d es)) i j h = ⊎_elim
        (λ l. let p = right (fact d i j) l in record {
          word = p.word;
          path = p.path;
          derives = der.alt (this p.derives);
        })
        (λ r. let p = right (fact (e.Alt es) i j) r in
        record { word = p.word; path = p.path; derives = der.alt (later (alternative_of p.derives)) })
        (or_true (s (fact d i j)) (s (fact (e.Alt es) i j)) h)
    grown_spans (e.Rep a b d) i j h = rep_spans a b d i j h
    grown_spans (e.Opt d) i j h = ⊎_elim
        (λ none. record {
          word = [];
          path = subst (λ v. IsPath Goes i [] v) (eqb-true i j none) here;
          derives = der.opt_empty;
        })
        (λ some. let p = right (fact d i j) some in record {
          word = p.word;
          path = p.path;
          derives = der.opt p.derives;
        })
        (or_true (eqb i j) (s (fact d i j)) h)
    grown_spans (e.Name n) i j h = body_spans n i j (body_of rules n) refl h
    grown_spans (e.Prose t) i j h = absurd (cc h)

  empty_path_stays : {i j : ℕ} → IsPath Goes i [] j → i ≡ j
  empty_path_stays here = refl

  path_stays : {i j : ℕ} {w : List ℕ} → IsPath Goes i w j → i ≤ last → j ≤ last
  path_stays here le = le
  path_stays (step {i = i} {k = k} {c = c} is l) le = path_stays l (within i c k is)

  module _ (s : Fact → Bool) (closed : (f : Fact) → Listed f (facts (last + 1) (universe rules)) → grow s f ≡ true
      → s f ≡ true) where
    grown_in_set : (d : Element) (i j : ℕ) → Listed d (universe rules) → i ≤ last → j ≤ last → grows s d i j ≡ true
        → s (fact d i j) ≡ true
    grown_in_set d i j h a b g = closed (fact d i j) (in_facts (last + 1) i j (universe rules) d (omega (arith, a))
        (omega (arith, b)) h) g

    text_read : {folds : Bool} {t w : List ℕ} (i j : ℕ) → Spelled folds t w → IsPath Goes i w j
        → reads_text folds t i j ≡ true
    text_read i j Spelled.end l = eq-eqb i j (empty_path_stays l)
    text_read {folds = folds} i j (Spelled.next {t = t} {c = c} {ts = ts} h d) (step {k = k} is l) =
        moves_by (t + 33) i c k (λ c k. stands folds t c && reads_text folds ts k j) (stands_below folds t c h) is
        (and_true (stands folds t c) (reads_text folds ts k j) (stands_true folds t c h) (text_read k j d l))

    values_read : (vs : List ℕ) (i j : ℕ) → AreLetters has vs → IsPath Goes i vs j → reads_values vs i j ≡ true
    values_read [] i j all l = eq-eqb i j (empty_path_stays l)
    values_read (v ∷ vs) i j all (step {k = k} is l) =
        moves_by (v + 1) i v k (λ c k. (eqb c v && has v) && reads_values vs k j) (omega arith) is
        (and_true (eqb v v && has v) (reads_values vs k j) (and_true (eqb v v) (has v) (eq-eqb v v refl) all.0)
        (values_read vs k j all.1 l))

    range_read : (low high i j c : ℕ) → low ≤ c → c ≤ high → has c ≡ true → IsPath Goes i (c ∷ []) j
        → reads_range low high i j ≡ true
    range_read low high i j c a b h (step {k = k} is l) =
        moves_by (high + 1) i c k (λ c k. ((leb low c && leb c high) && has c) && eqb k j) (omega (arith, b)) is
        (and_true ((leb low c && leb c high) && has c) (eqb k j)
        (and_true (leb low c && leb c high) (has c) (and_true (leb low c) (leb c high) (le-leb low c a)
        (le-leb c high b)) h) (eq-eqb k j (empty_path_stays l)))

    both_come : (d c : Element) (i m j : ℕ) → m ≤ last → s (fact d i m) ≡ true → s (fact c m j) ≡ true
        → both s d c i j ≡ true
    both_come d c i m j le one two = any_at (last + 1) m (λ m. s (fact d i m) && s (fact c m j)) (omega (arith, le))
        (and_true (s (fact d i m)) (s (fact c m j)) one two)

    mutual
      derived_in_set : {d : Element} {w : List ℕ} → Derives has rules d w → (i j : ℕ) → IsPath Goes i w j
          → Listed d (universe rules) → i ≤ last → j ≤ last → s (fact d i j) ≡ true
      derived_in_set (der.text {folds = folds} {t = t} h) i j l at a b =
          grown_in_set (e.Text folds t) i j at a b (text_read i j h l)
      derived_in_set (der.values {vs = vs} h) i j l at a b =
          grown_in_set (e.Values vs) i j at a b (values_read vs i j h l)
      derived_in_set (der.range {low = low} {high = high} {c = c} p q h) i j l at a b =
          grown_in_set (e.Range low high) i j at a b (range_read low high i j c p q h l)
      derived_in_set (der.concat d) i j l at a b = all_derived d i j l at a b
      derived_in_set (der.alt d) i j l at a b = some_derived d i j l at a b
      derived_in_set (der.rep {a = least} {k = k} {b = most} low high d) i j l at a b =
          times_derived d i j l least most low high at a b
      derived_in_set (der.opt_empty {e = d}) i j l at a b =
          grown_in_set (e.Opt d) i j at a b (or_first (eqb i j) (s (fact d i j)) (eq-eqb i j (empty_path_stays l)))
      derived_in_set (der.opt {e = d} h) i j l at a b =
          grown_in_set (e.Opt d) i j at a b (or_second (eqb i j) (s (fact d i j))
          (derived_in_set h i j l (universe_parts rules (e.Opt d) d at operand) a b))
      derived_in_set (der.name {n = n} {e = d} is h) i j l at a b =
          grown_in_set (e.Name n) i j at a b (rw is (derived_in_set h i j l (named_in rules n d is) a b))

      all_derived : {es : Elements} {w : List ℕ} → DerivesAll has rules es w → (i j : ℕ) → IsPath Goes i w j
          → Listed (e.Concat es) (universe rules) → i ≤ last → j ≤ last →
          s (fact (e.Concat es) i j) ≡ true
      all_derived all_done i j l at a b = grown_in_set (e.Concat e.none) i j at a b (eq-eqb i j (empty_path_stays l))
      all_derived (then {e = d} {es = es} {w = w} h hs) i j l at a b =
          let c = path_splits Goes w l in
          let mid = path_stays c.left a in
          grown_in_set (e.Concat (e.more d es)) i j at a b (both_come d (e.Concat es) i c.mid j mid
          (derived_in_set h i c.mid c.left (universe_parts rules (e.Concat (e.more d es)) d at concat_first) a mid)
          (all_derived hs c.mid j c.right (universe_parts rules (e.Concat (e.more d es)) (e.Concat es) at concat_rest)
          mid b))

      some_derived : {es : Elements} {w : List ℕ} → DerivesSome has rules es w → (i j : ℕ) → IsPath Goes i w j
          → Listed (e.Alt es) (universe rules) → i ≤ last → j ≤ last →
          s (fact (e.Alt es) i j) ≡ true
      some_derived (this {e = d} {es = es} h) i j l at a b =
          grown_in_set (e.Alt (e.more d es)) i j at a b (or_first (s (fact d i j)) (s (fact (e.Alt es) i j))
          (derived_in_set h i j l (universe_parts rules (e.Alt (e.more d es)) d at alt_first) a b))
      some_derived (later {e = d} {es = es} h) i j l at a b =
          grown_in_set (e.Alt (e.more d es)) i j at a b (or_second (s (fact d i j)) (s (fact (e.Alt es) i j))
          (some_derived h i j l (universe_parts rules (e.Alt (e.more d es)) (e.Alt es) at alt_rest) a b))

      times_derived : {d : Element} {k : ℕ} {w : List ℕ} → DerivesTimes has rules d k w → (i j : ℕ) → IsPath Goes i w j
          → (least : ℕ) (most : Option ℕ) → least ≤ k → der.AtMost k most →
          Listed (e.Rep least most d) (universe rules) → i ≤ last → j ≤ last → s (fact (e.Rep least most d) i j) ≡ true
      times_derived (no_more {e = d}) i j l least most low high at a b = grown_in_set (e.Rep least most d) i j at a b
          (or_first (leb least 0 && eqb i j) (may most && both s d (e.Rep (least - 1) (less most) d) i j)
          (and_true (leb least 0) (eqb i j) (le-leb least 0 low) (eq-eqb i j (empty_path_stays l))))
      times_derived (one_more {e = d} {k = k} {w = w} h hs) i j l least most low high at a b =
          let c = path_splits Goes w l in
          let mid = path_stays c.left a in
          let left = less_within k most high in
          grown_in_set (e.Rep least most d) i j at a b (or_second (leb least 0 && eqb i j)
          (may most && both s d (e.Rep (least - 1) (less most) d) i j)
          (and_true (may most) (both s d (e.Rep (least - 1) (less most) d) i j) left.0
          (both_come d (e.Rep (least - 1) (less most) d) i c.mid j mid
          (derived_in_set h i c.mid c.left (universe_parts rules (e.Rep least most d) d at iteration) a mid)
          (times_derived hs c.mid j c.right (least - 1) (less most) (omega (arith, low)) left.1
          (universe_parts rules (e.Rep least most d) (e.Rep (least - 1) (less most) d) at iterations_left) mid b))))

  span_is_decided : (f : Fact) → Listed f (facts (last + 1) (universe rules)) → (said : Bool) × Says (Spans f) said
  span_is_decided f at = least_is_decided (facts (last + 1) (universe rules)) grow Spans
      (λ s right f g. grown_spans s right f.el f.from f.to g)
      (λ s closed f here p. let r = from_facts (last + 1) (universe rules) f here in
      derived_in_set s closed p.derives f.from f.to p.path r.0 (let a = r.1 in omega (arith, a))
      (let b = r.2 in omega (arith, b)))
      f at

  -- some letters that the rule of that id derives lead from i to j
  pub record RulePath (id i j : ℕ) : Type 0 where
    pub word : List ℕ
    pub path : IsPath Goes i word j
    pub derives : RuleDerives has rules id word

  body_path : (id i j : ℕ) (d : Element) → slice_get (bodies rules) id ≡ Some d → (said : Bool)
      → Says (Spans (fact d i j)) said → (yes : Bool) × Says (RulePath id i j) yes
  body_path id i j d is true p = (
    true,
    record {
      word = p.word;
      path = p.path;
      derives = record { body = d; is = is; derives = p.derives };
    },
  )
  body_path id i j d is false p = (
    false,
    λ r. let same : r.derives.body ≡ d = cc (r.derives.is, is) in
        p (record {
          word = r.word;
          path = r.path;
          derives = subst (λ v. Derives has rules v
              r.word) same r.derives.derives;
        }),
  )

  pub rule_path_is_decided : (id i j : ℕ) → i ≤ last → j ≤ last → (yes : Bool) × Says (RulePath id i j) yes
  rule_path_is_decided id i j a b = by (slice_get (bodies rules) id) refl
    where
      by : (o : Option Element) → slice_get (bodies rules) id ≡ o → (yes : Bool) × Says (RulePath id i j) yes
      by None is = (false, λ r. none_some (sym is ∙ r.derives.is))
        where
          none_some : {d : Element} → None ≡ Some d → ⊥
          none_some h = absurd (cc h)
      by (Some d) is =
          let f = span_is_decided (fact d i j) (in_facts (last + 1) i j (universe rules) d (omega (arith, a))
          (omega (arith, b)) (body_listed rules id d is)) in
          body_path id i j d is f.0 f.1
