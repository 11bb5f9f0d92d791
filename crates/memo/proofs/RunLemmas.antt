-- An evaluation that remembers its keys stores exactly those that are reached, and begins each task once.
-- Serves: evaluated_once
use Rattle.std.proofs.Common.{◌≡◌, ◌⊎◌, inl, inr, ℕ, ◌+◌, Bool, true, false, List, [], ◌∷◌, ◌++◌, refl, sym, subst}
use Rattle.std.proofs.Common.{arith, append-nil}
use Rattle.memo.specs.Parts.{IsIn, in_here, in_later, Distinct, distinct_more, Reach, reach_root}
use Rattle.memo.specs.Parts.{reach_edge, part, Parts, parts_none, parts_key, parts_more, Whole, whole_none}
use Rattle.memo.specs.Parts.{whole_more, IsForest}
use Rattle.memo.specs.Run.{Run, run_stored, run_key, run_plain, RunAll, run_none, run_more, total, Ends, ends}
use Rattle.memo.proofs.PartsLemmas.{Under, under_here, under_step}

pub total_join : (V : Type 0) (Kids : V → List V → Type 0) (key : V → Bool) (weight : V → ℕ) (xs ys : List V)
    → total V Kids key weight (xs ++ ys) ≡ total V Kids key weight xs + total V Kids key weight ys
total_join V Kids key weight [] ys = omega arith
total_join V Kids key weight (a ∷ xs) ys = let h = total_join V Kids key weight xs ys in omega arith

module _ (V : Type 0) (Edge : V → V → Type 0) (root : V) (Kids : V → List V → Type 0) (key : V → Bool)
    (weight : V → ℕ) (forest : IsForest V Edge root Kids key) where
  abbrev T : List V → ℕ
  T xs = total V Kids key weight xs

  abbrev U : V → V → Type 0
  U a x = Under V Edge root Kids key forest a x

  -- at least one step
  data Path : V → V → Type 0 where
    path_one : {a b : V} → Edge a b → Path a b
    path_more : {a b c : V} → Path a b → Edge b c → Path a c

  path_from : {a b c : V} → Edge a b → Path b c → Path a c
  path_from e (path_one f) = path_more (path_one e) f
  path_from e (path_more p f) = path_more (path_from e p) f

  -- a first step, and then none or more
  record First (a c : V) : Type 0 where
    pub kid : V
    pub edge : Edge a kid
    pub rest : (kid ≡ c) ⊎ Path kid c

  first_of_path : {a c : V} → Path a c → First a c
  first_of_path (path_one {b = b} e) = record { kid = b; edge = e; rest = inl refl }
  first_of_path (path_more {b = b} {c = c} p f) =
      let h = first_of_path p in
      record {
        kid = h.kid;
        edge = h.edge;
        rest = elim h.rest [
          | inl is ↦ inr (path_one (subst (λ v. Edge v c) (sym is) f))
          | inr q ↦ inr (path_more q f)
        ];
      }

  path_join : {a b c : V} → Path a b → Path b c → Path a c
  path_join p (path_one e) = path_more p e
  path_join p (path_more q e) = path_more (path_join p q) e

  -- what ends comes back nowhere
  no_return : {a : V} → Ends V Edge a → Path a a → ⊥
  no_return (ends {a = a} below) p =
      let h = first_of_path p in
      no_return (below h.kid h.edge) (elim h.rest [
        | inl is ↦ path_one (subst (λ v. Edge v h.kid) (sym is) (subst (Edge a) refl h.edge))
        | inr q ↦ path_more q h.edge
      ])

  mutual
    -- what is stored stays so
    run_grows : {a x : V} {old new : List V} {c : ℕ} → Run V Kids key weight old a new c → IsIn x old → IsIn x new
    run_grows (run_stored t j) i = i
    run_grows (run_key t f k r) i = in_later (runs_grow r i)
    run_grows (run_plain t k r) i = runs_grow r i

    runs_grow : {x : V} {ks old new : List V} {c : ℕ} → RunAll V Kids key weight old ks new c → IsIn x old → IsIn x new
    runs_grow run_none i = i
    runs_grow (run_more r s) i = runs_grow s (run_grows r i)

  record FromKid (ks : List V) (x : V) : Type 0 where
    pub kid : V
    pub there : IsIn kid ks
    pub rest : (kid ≡ x) ⊎ Path kid x

  below_kid : {x : V} (a : V) (ks : List V) → Kids a ks → FromKid ks x → Path a x
  below_kid a ks k n =
      let e = forest.leads a n.kid ks k n.there in
      elim n.rest [ inl is ↦ path_one (subst (Edge a) is e) | inr p ↦ path_from e p ]

  mutual
    -- what is stored since is a, or below it
    new_from : {a x : V} {old new : List V} {c : ℕ} → Run V Kids key weight old a new c → IsIn x new
        → IsIn x old ⊎ ((a ≡ x) ⊎ Path a x)
    new_from (run_stored t j) i = inl i
    new_from (run_key t f k r) in_here = inr (inl refl)
    new_from (run_key {a = a} {ks = ks} t f k r) (in_later i) = elim (all_from r i) [
      | inl o ↦ inl o
      | inr n ↦ inr (inr (below_kid a ks k n))
    ]
    new_from (run_plain {a = a} {ks = ks} t k r) i = elim (all_from r i) [
      | inl o ↦ inl o
      | inr n ↦ inr (inr (below_kid a ks k n))
    ]

    all_from : {x : V} {ks old new : List V} {c : ℕ} → RunAll V Kids key weight old ks new c → IsIn x new
        → IsIn x old ⊎ FromKid ks x
    all_from run_none i = inl i
    all_from (run_more {a = a} r s) i = elim (all_from s i) [
      | inl m ↦ elim (new_from r m) [
        | inl o ↦ inl o
        | inr n ↦ inr (record { kid = a; there = in_here; rest = n })
      ]
      | inr n ↦ inr (record { kid = n.kid; there = in_later n.there; rest = n.rest })
    ]

  path_reach : {a x : V} → Reach V Edge root a → Path a x → Reach V Edge root x
  path_reach r (path_one e) = reach_edge r e
  path_reach r (path_more p e) = reach_edge (path_reach r p) e

  -- the keys that are stored are reached
  abbrev pub AllReached : List V → Type 0
  AllReached ks = (x : V) → IsIn x ks → Reach V Edge root x × (key x ≡ true)

  reached_more : (a : V) (ks : List V) → Reach V Edge root a → key a ≡ true → AllReached ks → AllReached (a ∷ ks)
  reached_more a ks r t all x i = elim (first_or_later i) [
    | inl is ↦ (subst (Reach V Edge root) (sym is) r, subst (λ v. key v ≡ true) (sym is) t)
    | inr j ↦ all x j
  ]
    where
      first_or_later : {x b : V} {l : List V} → IsIn x (b ∷ l) → (x ≡ b) ⊎ IsIn x l
      first_or_later in_here = inl refl
      first_or_later (in_later j) = inr j

  mutual
    pub stays_reached : {a : V} {old new : List V} {c : ℕ} → Run V Kids key weight old a new c → Reach V Edge root a
        → AllReached old → AllReached new
    stays_reached (run_stored t j) r all = all
    stays_reached (run_key {a = a} {ks = ks} {new = new} t f k s) r all =
        reached_more a new r t (stay_reached s (λ b i. reach_edge r (forest.leads a b ks k i)) all)
    stays_reached (run_plain {a = a} {ks = ks} t k s) r all =
        stay_reached s (λ b i. reach_edge r (forest.leads a b ks k i)) all

    stay_reached : {ks old new : List V} {c : ℕ} → RunAll V Kids key weight old ks new c
        → ((b : V) → IsIn b ks → Reach V Edge root b) → AllReached old → AllReached new
    stay_reached run_none r all = all
    stay_reached (run_more {a = a} s t) r all =
        stay_reached t (λ b i. r b (in_later i)) (stays_reached s (r a in_here) all)

  module _ (all_end : (a : V) → Reach V Edge root a → Ends V Edge a) where
    mutual
      -- no key is stored twice
      pub stays_distinct : {a : V} {old new : List V} {c : ℕ} → Run V Kids key weight old a new c → Reach V Edge root a
          → Distinct old → Distinct new
      stays_distinct (run_stored t j) r d = d
      stays_distinct (run_key {a = a} {ks = ks} t f k s) r d =
          distinct_more
          (λ i. elim (all_from s i) [
            | inl o ↦ f o
            | inr n ↦ no_return (all_end a r) (below_kid a ks k n)
          ])
          (stay_distinct s (λ b i. reach_edge r (forest.leads a b ks k i)) d)
      stays_distinct (run_plain {a = a} {ks = ks} t k s) r d =
          stay_distinct s (λ b i. reach_edge r (forest.leads a b ks k i)) d

      stay_distinct : {ks old new : List V} {c : ℕ} → RunAll V Kids key weight old ks new c
          → ((b : V) → IsIn b ks → Reach V Edge root b) → Distinct old → Distinct new
      stay_distinct run_none r d = d
      stay_distinct (run_more {a = a} s t) r d =
          stay_distinct t (λ b i. r b (in_later i)) (stays_distinct s (r a in_here) d)

  -- the keys next below x are stored
  abbrev pub Closed : List V → V → Type 0
  Closed ks x = (y k : V) → U x y → Edge y k → key k ≡ true → IsIn k ks

  abbrev pub AllClosed : List V → Type 0
  AllClosed ks = (x : V) → IsIn x ks → Closed ks x

  record Top (a y : V) : Type 0 where
    pub kid : V
    pub edge : Edge a kid
    pub plain : key kid ≡ false
    pub under : U kid y

  top_of : {a y : V} → U a y → (a ≡ y) ⊎ Top a y
  top_of under_here = inl refl
  top_of (under_step {y = y} {x = x} u e f) = elim (top_of u) [
    | inl is ↦ inr (record { kid = x; edge = subst (λ v. Edge v x) (sym is) e; plain = f; under = under_here })
    | inr t ↦ inr (record { kid = t.kid; edge = t.edge; plain = t.plain; under = under_step t.under e f })
  ]

  pub record Done (new : List V) (a : V) : Type 0 where
    pub all : AllClosed new
    pub stored : key a ≡ true → IsIn a new
    pub closed : Closed new a

  pub record DoneAll (new ks : List V) : Type 0 where
    pub all : AllClosed new
    pub stored : (k : V) → IsIn k ks → key k ≡ true → IsIn k new
    pub closed : (k : V) → IsIn k ks → Closed new k

  close_key : (a : V) (ks new : List V) → Kids a ks → DoneAll new ks → Closed new a
  close_key a ks new k d y z u e t = elim (top_of u) [
    | inl is ↦ d.stored z (forest.listed a z ks k (subst (λ v. Edge v z) (sym is) e)) t
    | inr h ↦ d.closed h.kid (forest.listed a h.kid ks k h.edge) y z h.under e t
  ]

  in_front : {x b : V} {l : List V} → IsIn x (b ∷ l) → (x ≡ b) ⊎ IsIn x l
  in_front in_here = inl refl
  in_front (in_later j) = inr j

  mutual
    pub run_done : {a : V} {old new : List V} {c : ℕ} → Run V Kids key weight old a new c → AllClosed old → Done new a
    run_done (run_stored {a = a} t j) all = record { all = all; stored = λ is. j; closed = all a j }
    run_done (run_key {a = a} {ks = ks} {new = new} t f k s) all =
        let d = done_all s all in
        let c : Closed new a = close_key a ks new k d in
        record {
          all = λ x i. elim (in_front i) [
            | inl is ↦ λ y z u e h. in_later (c y z (subst (λ v. U v y) is u) e h)
            | inr j ↦ λ y z u e h. in_later (d.all x j y z u e h)
          ];
          stored = λ is. in_here;
          closed = λ y z u e h. in_later (c y z u e h);
        }
    run_done (run_plain {a = a} {ks = ks} {new = new} t k s) all =
        let d = done_all s all in
        record { all = d.all; stored = λ is. absurd (cc (is, t)); closed = close_key a ks new k d }

    done_all : {ks old new : List V} {c : ℕ} → RunAll V Kids key weight old ks new c → AllClosed old → DoneAll new ks
    done_all run_none all = record { all = all; stored = λ k i t. elim i [ ]; closed = λ k i. elim i [ ] }
    done_all (run_more {a = a} {mid = mid} s t) all =
        let d = run_done s all in
        let e = done_all t d.all in
        record {
          all = e.all;
          stored = λ k i h. elim (in_front i) [
            | inl is ↦ runs_grow t (subst (λ v. IsIn v mid) (sym is) (d.stored (subst (λ v. key v ≡ true) is h)))
            | inr j ↦ e.stored k j h
          ];
          closed = λ k i. elim (in_front i) [
            | inl is ↦ λ y z u f h. runs_grow t (d.closed y z (subst (λ v. U v y) is u) f h)
            | inr j ↦ e.closed k j
          ];
        }

  -- a reached task is under a stored key
  record UnderStored (ks : List V) (x : V) : Type 0 where
    pub top : V
    pub there : IsIn top ks
    pub under : U top x

  all_under : {x : V} {ks : List V} → Reach V Edge root x → AllClosed ks → IsIn root ks → UnderStored ks x
  all_under reach_root all i = record { top = root; there = i; under = under_here }
  all_under {ks = ks} (reach_edge {a = a} {b = b} r e) all i =
      let h = all_under r all i in
      by (key b) refl h
    where
      by : (v : Bool) → key b ≡ v → UnderStored ks a → UnderStored ks b
      by true is h = record { top = b; there = all h.top h.there a b h.under e is; under = under_here }
      by false is h = record { top = h.top; there = h.there; under = under_step h.under e is }

  -- a stored key is what a key is under
  key_is_top : {a x : V} → U a x → key x ≡ true → a ≡ x
  key_is_top under_here t = refl
  key_is_top (under_step u e f) t = absurd (cc (t, f))

  pub all_stored : {x : V} {ks : List V} → Reach V Edge root x → AllClosed ks → IsIn root ks → key x ≡ true → IsIn x ks
  all_stored {ks = ks} r all i t =
      let h = all_under r all i in
      subst (λ v. IsIn v ks) (key_is_top h.under t) h.there

  -- how many are begun
  pub record Counted (new all ks : List V) (c : ℕ) : Type 0 where
    pub tasks : List V
    pub whole : Whole V Kids key new tasks
    pub below : List V
    pub parts : Parts V Kids key ks below
    pub count : T tasks + T below ≡ T all + c

  joined_parts : {a : V} {ks xs ys : List V} → Parts V Kids key (a ∷ []) xs → Parts V Kids key ks ys
      → Parts V Kids key (a ∷ ks) (xs ++ ys)
  joined_parts (parts_key t parts_none) q = parts_key t q
  joined_parts {a = a} {ks = ks} {ys = ys} (parts_more {xs = xs} f p parts_none) q =
      subst (λ v. Parts V Kids key (a ∷ ks) (v ++ ys)) (sym (append-nil xs)) (parts_more f p q)

  joined_counts : {new mid all ks : List V} {c d : ℕ} (a : V) → (h : Counted mid all (a ∷ []) c)
      → Counted new h.tasks ks d → Counted new all (a ∷ ks) (c + d)
  joined_counts a h g =
      let join = total_join V Kids key weight h.below g.below in
      let one = h.count in
      let two = g.count in
      record {
        tasks = g.tasks;
        whole = g.whole;
        below = h.below ++ g.below;
        parts = joined_parts h.parts g.parts;
        count = omega (arith, one, two, join);
      }

  mutual
    pub run_counted : {a : V} {old new : List V} {c : ℕ} → Run V Kids key weight old a new c → (all : List V)
        → Whole V Kids key old all → Counted new all (a ∷ []) c
    run_counted (run_stored t j) all w =
        record { tasks = all; whole = w; below = []; parts = parts_key t parts_none; count = omega arith }
    run_counted (run_key {a = a} {c = c} t f k s) all w =
        let h = counted_all s all w in
        let join = total_join V Kids key weight h.below h.tasks in
        let is = h.count in
        record {
          tasks = (a ∷ h.below) ++ h.tasks;
          whole = whole_more (part k h.parts) h.whole;
          below = [];
          parts = parts_key t parts_none;
          count = omega (arith, is, join);
        }
    run_counted (run_plain {a = a} {c = c} t k s) all w =
        let h = counted_all s all w in
        let join = total_join V Kids key weight h.below [] in
        let is = h.count in
        record {
          tasks = h.tasks;
          whole = h.whole;
          below = (a ∷ h.below) ++ [];
          parts = parts_more t (part k h.parts) parts_none;
          count = omega (arith, is, join);
        }

    counted_all : {ks old new : List V} {c : ℕ} → RunAll V Kids key weight old ks new c → (all : List V)
        → Whole V Kids key old all → Counted new all ks c
    counted_all run_none all w =
        record { tasks = all; whole = w; below = []; parts = parts_none; count = omega arith }
    counted_all (run_more {a = a} s t) all w =
        let h = run_counted s all w in
        let g = counted_all t h.tasks h.whole in
        joined_counts a h g

  no_part : {a : V} {xs : List V} → Parts V Kids key (a ∷ []) xs → key a ≡ true → xs ≡ []
  no_part (parts_key t parts_none) is = refl
  no_part (parts_more f p parts_none) is = absurd (cc (f, is))

  -- of a key: as many are begun as its and the others' parts weigh
  pub record Weighed (new : List V) (c : ℕ) : Type 0 where
    pub tasks : List V
    pub whole : Whole V Kids key new tasks
    pub count : T tasks ≡ c

  pub run_weighed : {a : V} {new : List V} {c : ℕ} → Run V Kids key weight [] a new c → key a ≡ true → Weighed new c
  run_weighed {a = a} r t =
      let h = run_counted r [] whole_none in
      let none = no_part h.parts t in
      let is = h.count in
      let zero_below : T h.below ≡ 0 = subst (λ v. T v ≡ 0) (sym none) refl in
      record { tasks = h.tasks; whole = h.whole; count = omega (arith, is, zero_below) }
