-- On its way the machine begins reached vertices, each once, of which none that is stored is on the stack.
-- Serves: steps_hold, Packrat::match_unit
use Rattle.std.proofs.Common.{◌≡◌, ◌⊎◌, inl, inr, Bool, true, false, List, []}
use Rattle.std.proofs.Common.{◌∷◌, ◌++◌, refl, sym, subst}
use Rattle.memo.specs.Parts.{IsIn, in_here, in_later, Distinct, distinct_none, distinct_more, Reach, reach_root}
use Rattle.memo.specs.Parts.{reach_edge, IsForest}
use Rattle.memo.specs.Run.{Ends, ends}
use Rattle.memo.proofs.PartsLemmas.{in_left, in_right}
use Rattle.packrat.specs.MachineSteps.{Level, Held, State, Asks, Works, held, stack_of, store, Step, step_stored}
use Rattle.packrat.specs.MachineSteps.{step_begin}
use Rattle.packrat.specs.MachineSteps.{step_next, step_last, Steps, steps_none, steps_more, start_at, IsNext, IsGood}

pub in_front : {V : Type 0} {x b : V} {l : List V} → IsIn x (b ∷ l) → (x ≡ b) ⊎ IsIn x l
in_front in_here = inl refl
in_front (in_later j) = inr j

pub not_in : {V : Type 0} {x : V} → IsIn x [] → ⊥
not_in i = elim i [ ]

pub first_fresh : {V : Type 0} {a : V} {xs : List V} → Distinct (a ∷ xs) → IsIn a xs → ⊥
first_fresh (distinct_more f d) = f

pub rest_distinct : {V : Type 0} {a : V} {xs : List V} → Distinct (a ∷ xs) → Distinct xs
rest_distinct (distinct_more f d) = d

module _ (V : Type 0) (Edge : V → V → Type 0) (root : V) (Kids : V → List V → Type 0) (Next : V → List V → V → Type 0)
    (key : V → Bool) (forest : IsForest V Edge root Kids key) (next : IsNext V Edge root Kids Next)
    (all_end : (a : V) → Reach V Edge root a → Ends V Edge a) where
  data Path : V → V → Type 0 where
    path_one : {a b : V} → Edge a b → Path a b
    path_more : {a b c : V} → Edge a b → Path b c → Path a c

  path_snoc : {a b c : V} → Path a b → Edge b c → Path a c
  path_snoc (path_one e) f = path_more e (path_one f)
  path_snoc (path_more e p) f = path_more e (path_snoc p f)

  no_return : {a : V} → Ends V Edge a → Path a a → ⊥
  no_return (ends {a = a} below) (path_one e) = no_return (below a e) (path_one e)
  no_return (ends {a = a} below) (path_more {b = b} e p) = no_return (below b e) (path_snoc p e)

  -- the levels, each of which has led to the one above
  abbrev Led : List (Level V) → V → Type 0
  Led [] b = b ≡ root
  Led (f ∷ fs) b = Edge f.at b × Led fs f.at

  led_path : (fs : List (Level V)) (b s : V) → Led fs b → IsIn s (stack_of V fs) → Path s b
  led_path [] b s l i = absurd (not_in i)
  led_path (f ∷ fs) b s l i = elim (in_front i) [
    | inl is ↦ path_one (subst (λ v. Edge v b) (sym is) l.0)
    | inr j ↦ path_snoc (led_path fs f.at s l.1 j) l.0
  ]

  on_stack : {f : Level V} {fs : List (Level V)} → IsIn f fs → IsIn f.at (stack_of V fs)
  on_stack in_here = in_here
  on_stack (in_later i) = in_later (on_stack i)

  abbrev R : V → Type 0
  R a = Reach V Edge root a

  record Inner (h : Held V) : Type 0 where
    pub good : IsGood V Edge root key h
    pub keys : (b : V) → IsIn b h.begun → key b ≡ true → IsIn b h.stored ⊎ IsIn b (stack_of V h.levels)
    pub asker : (b : V) → IsIn b h.begun → key b ≡ false → (a : V) × IsIn a h.begun × Edge a b
    pub asked : (b : V) (f : Level V) → IsIn b h.begun → key b ≡ false → IsIn f h.levels → Edge f.at b → IsIn b f.asked

  abbrev Top : List (Level V) → Type 0
  Top [] = Unit {0}
  Top (f ∷ fs) = Led fs f.at

  top_of_led : (fs : List (Level V)) (b : V) → Led fs b → Top fs
  top_of_led [] b l = tt
  top_of_led (f ∷ fs) b l = l.1

  record AtAsk (b : V) (h : Held V) : Type 0 where
    pub inner : Inner h
    pub led : Led h.levels b
    pub fresh : key b ≡ false → IsIn b h.begun → ⊥
    pub asks : (f : Level V) → key b ≡ false → IsIn f h.levels → Edge f.at b → IsIn b f.asked
    pub reached : R b

  record AtWork (h : Held V) : Type 0 where
    pub inner : Inner h
    pub top : Top h.levels

  abbrev At : State V → Type 0
  At (Asks b h) = AtAsk b h
  At (Works h) = AtWork h

  module _ (b : V) (fs : List (Level V)) (st bg : List V) (fresh : key b ≡ true → IsIn b st → ⊥)
      (w : AtAsk b (record { levels = fs; stored = st; begun = bg })) where
    new_begun : IsIn b bg → ⊥
    new_begun i = by (key b) refl
      where
        by : (v : Bool) → key b ≡ v → ⊥
        by true is = elim (w.inner.keys b i is) [
          | inl j ↦ fresh is j
          | inr j ↦ no_return (all_end b w.reached) (led_path fs b b w.led j)
        ]
        by false is = w.fresh is i

    asker_of : (gs : List (Level V)) → Led gs b → ((a : V) → IsIn a (stack_of V gs) → IsIn a bg) → key b ≡ false
        → (a : V) × IsIn a (b ∷ bg) × Edge a b
    asker_of [] l on is = absurd (let t = forest.root_key in let same : key b ≡ key root = subst (λ v. key b ≡ key v)
        l refl in cc (is, t, same))
    asker_of (f ∷ gs) l on is = (f.at, in_later (on f.at in_here), l.0)

    asked_by : (c : V) (f : Level V) → (c ≡ b) ⊎ IsIn c bg → key c ≡ false
        → (f ≡ record { at = b; asked = [] }) ⊎ IsIn f fs → Edge f.at c → IsIn c f.asked
    asked_by c f (inl is) plain (inl new) e =
        absurd (no_return (all_end b w.reached)
        (path_one (subst (Edge b) is (subst (λ v. Edge v.at c) new e))))
    asked_by c f (inr i) plain (inl new) e =
        let h = w.inner.asker c i plain in
        let same = forest.one_asker h.0 b c plain (w.inner.good.reached h.0 h.1) h.2 w.reached
        (subst (λ v. Edge v.at c) new e) in
        absurd (new_begun (subst (λ v. IsIn v bg) same h.1))
    asked_by c f (inl is) plain (inr j) e =
        subst (λ v. IsIn v f.asked) (sym is)
        (w.asks f (subst (λ v. key v ≡ false) is plain) j (subst (Edge f.at) is e))
    asked_by c f (inr i) plain (inr j) e = w.inner.asked c f i plain j e

    begun_work : AtWork (record { levels = record { at = b; asked = [] } ∷ fs; stored = st; begun = b ∷ bg })
    begun_work = record {
      inner = record {
        good = record {
          reached = λ a i. elim (in_front i) [
            | inl is ↦ subst R (sym is) w.reached
            | inr j ↦ w.inner.good.reached a j
          ];
          once = distinct_more new_begun w.inner.good.once;
          stack = λ a i. elim (in_front i) [
            | inl is ↦ subst (λ v. IsIn v (b ∷ bg)) (sym is) in_here
            | inr j ↦ in_later (w.inner.good.stack a j)
          ];
          stack_once = distinct_more (λ i. new_begun (w.inner.good.stack b i)) w.inner.good.stack_once;
          stored = λ a i. let h = w.inner.good.stored a i in (in_later h.0, h.1);
          stored_once = w.inner.good.stored_once;
          apart = λ a i s. elim (in_front i) [
            | inl is ↦ let h = w.inner.good.stored a s in fresh (subst (λ v. key v ≡ true) is h.1)
                (subst (λ v. IsIn v st) is s)
            | inr j ↦ w.inner.good.apart a j s
          ];
        };
        keys = λ c i t. elim (in_front i) [
          | inl is ↦ inr (subst (λ v. IsIn v (b ∷ stack_of V fs)) (sym is) in_here)
          | inr j ↦ elim (w.inner.keys c j t) [ inl s ↦ inl s | inr s ↦ inr (in_later s) ]
        ];
        asker = λ c i plain. elim (in_front i) [
          | inl is ↦ subst (λ v. (a : V) × IsIn a (b ∷ bg) × Edge a v) (sym is)
              (asker_of fs w.led w.inner.good.stack (subst (λ v. key v ≡ false) is plain))
          | inr j ↦ let h = w.inner.asker c j plain in (h.0, in_later h.1, h.2)
        ];
        asked = λ c f i plain j e. asked_by c f (in_front i) plain (in_front j) e;
      };
      top = w.led;
    }

  module _ (a k : V) (asked st bg : List V) (fs : List (Level V)) (n : Next a asked k)
      (w : AtWork (record { levels = record { at = a; asked = asked } ∷ fs; stored = st; begun = bg })) where
    is_begun : IsIn a bg
    is_begun = w.inner.good.stack a in_here

    is_reached : R a
    is_reached = w.inner.good.reached a is_begun

    asks_of : (f : Level V) → key k ≡ false → (f ≡ record { at = a; asked = asked ++ k ∷ [] }) ⊎ IsIn f fs → Edge f.at k
        → IsIn k f.asked
    asks_of f plain (inl is) e =
        subst (λ v. IsIn k v.asked) (sym is) (in_right asked in_here)
    asks_of f plain (inr j) e =
        let on = on_stack j in
        let same = forest.one_asker f.at a k plain (w.inner.good.reached f.at (w.inner.good.stack f.at (in_later on))) e
        is_reached (next.leads a k asked n) in
        absurd (first_fresh w.inner.good.stack_once (subst (λ v. IsIn v (stack_of V fs)) same on))

    still_asked : (c : V) (f : Level V) → IsIn c bg → key c ≡ false
        → (f ≡ record { at = a; asked = asked ++ k ∷ [] }) ⊎ IsIn f fs → Edge f.at c → IsIn c f.asked
    still_asked c f i plain (inl is) e =
        subst (λ v. IsIn c v.asked) (sym is)
        (in_left (k ∷ []) (w.inner.asked c (record { at = a; asked = asked }) i plain in_here
        (subst (λ v. Edge v.at c) is e)))
    still_asked c f i plain (inr j) e = w.inner.asked c f i plain (in_later j) e

    next_ask : AtAsk k (record { levels = record { at = a; asked = asked ++ k ∷ [] } ∷ fs; stored = st; begun = bg })
    next_ask = record {
      inner = record {
        good = record {
          reached = w.inner.good.reached;
          once = w.inner.good.once;
          stack = w.inner.good.stack;
          stack_once = w.inner.good.stack_once;
          stored = w.inner.good.stored;
          stored_once = w.inner.good.stored_once;
          apart = w.inner.good.apart;
        };
        keys = w.inner.keys;
        asker = w.inner.asker;
        asked = λ c f i plain j e. still_asked c f i plain (in_front j) e;
      };
      led = (next.leads a k asked n, w.top);
      fresh = λ plain i. next.fresh a k asked is_reached n
          (w.inner.asked k (record { at = a; asked = asked }) i plain in_here (next.leads a k asked n));
      asks = λ f plain j e. asks_of f plain (in_front j) e;
      reached = reach_edge is_reached (next.leads a k asked n);
    }

  module _ (a : V) (asked st bg : List V) (fs : List (Level V))
      (w : AtWork (record { levels = record { at = a; asked = asked } ∷ fs; stored = st; begun = bg })) where
    last_work : AtWork (record { levels = fs; stored = store V (key a) a st; begun = bg })
    last_work = record {
      inner = record {
        good = record {
          reached = w.inner.good.reached;
          once = w.inner.good.once;
          stack = λ c i. w.inner.good.stack c (in_later i);
          stack_once = rest_distinct w.inner.good.stack_once;
          stored = by_stored (key a) refl;
          stored_once = by_once (key a);
          apart = by_apart (key a) refl;
        };
        keys = by_keys (key a) refl;
        asker = w.inner.asker;
        asked = λ c f i plain j e. w.inner.asked c f i plain (in_later j) e;
      };
      top = top_of_led fs a w.top;
    }
      where
        by_stored : (v : Bool) → key a ≡ v → (c : V) → IsIn c (store V v a st) → IsIn c bg × (key c ≡ true)
        by_stored true is c i = elim (in_front i) [
          | inl same ↦ (
            subst (λ v. IsIn v bg) (sym same) (w.inner.good.stack a in_here),
            subst (λ v. key v ≡ true) (sym same) is,
          )
          | inr j ↦ w.inner.good.stored c j
        ]
        by_stored false is c i = w.inner.good.stored c i

        by_once : (v : Bool) → Distinct (store V v a st)
        by_once true = distinct_more (w.inner.good.apart a in_here) w.inner.good.stored_once
        by_once false = w.inner.good.stored_once

        by_apart : (v : Bool) → key a ≡ v → (c : V) → IsIn c (stack_of V fs) → IsIn c (store V v a st) → ⊥
        by_apart true is c i s = elim (in_front s) [
          | inl same ↦ first_fresh w.inner.good.stack_once (subst (λ v. IsIn v (stack_of V fs)) same i)
          | inr j ↦ w.inner.good.apart c (in_later i) j
        ]
        by_apart false is c i s = w.inner.good.apart c (in_later i) s

        by_keys : (v : Bool) → key a ≡ v → (c : V) → IsIn c bg → key c ≡ true
            → IsIn c (store V v a st) ⊎ IsIn c (stack_of V fs)
        by_keys true is c i t = elim (w.inner.keys c i t) [
          | inl s ↦ inl (in_later s)
          | inr s ↦ elim (in_front s) [
            | inl same ↦ inl (subst (λ v. IsIn v (a ∷ st)) (sym same) in_here)
            | inr j ↦ inr j
          ]
        ]
        by_keys false is c i t = elim (w.inner.keys c i t) [
          | inl s ↦ inl s
          | inr s ↦ elim (in_front s) [
            | inl same ↦ absurd (let u : key a ≡ true = subst (λ v. key v ≡ true) same t in cc (u, is))
            | inr j ↦ inr j
          ]
        ]

  at_step : {s t : State V} → Step V Kids Next key s t → At s → At t
  at_step (step_stored {b = b} {fs = fs} {st = st} {bg = bg} t i) w =
      record { inner = w.inner; top = top_of_led fs b w.led }
  at_step (step_begin {b = b} {fs = fs} {st = st} {bg = bg} fresh) w = begun_work b fs st bg fresh w
  at_step (step_next {a = a} {k = k} {asked = asked} {st = st} {bg = bg} {fs = fs} n) w =
      next_ask a k asked st bg fs n w
  at_step (step_last {a = a} {asked = asked} {st = st} {bg = bg} {fs = fs} k) w = last_work a asked st bg fs w

  at_start : At (start_at V root)
  at_start = record {
    inner = record {
      good = record {
        reached = λ a i. absurd (not_in i);
        once = distinct_none;
        stack = λ a i. absurd (not_in i);
        stack_once = distinct_none;
        stored = λ a i. absurd (not_in i);
        stored_once = distinct_none;
        apart = λ a i s. absurd (not_in i);
      };
      keys = λ c i t. absurd (not_in i);
      asker = λ c i plain. absurd (not_in i);
      asked = λ c f i plain j e. absurd (not_in i);
    };
    led = refl;
    fresh = λ plain i. not_in i;
    asks = λ f plain j e. absurd (not_in j);
    reached = reach_root;
  }

  at_steps : {s : State V} → Steps V Kids Next key (start_at V root) s → At s
  at_steps steps_none = at_start
  at_steps (steps_more r t) = at_step t (at_steps r)

  good_of : (s : State V) → At s → IsGood V Edge root key (held V s)
  good_of (Asks b h) w = w.inner.good
  good_of (Works h) w = w.inner.good

  pub steps_are_good : (s : State V) → Steps V Kids Next key (start_at V root) s → IsGood V Edge root key (held V s)
  steps_are_good s r = good_of s (at_steps r)
