-- The parts of the keys are all that is reached, each once.
-- Serves: implied_cells
use Rattle.std.proofs.Common.{◌≡◌, ◌⊎◌, inl, inr, Bool, true, false, List, [], ◌∷◌, ◌++◌, refl, subst}
use Rattle.memo.specs.Parts.{IsIn, in_here, in_later, Distinct, distinct_none, distinct_more, Reach, reach_root}
use Rattle.memo.specs.Parts.{reach_edge, Part, part, Parts, parts_none, parts_key, parts_more, Whole, whole_none}
use Rattle.memo.specs.Parts.{whole_more, IsForest}

module _ {V : Type 0} where
  pub in_left : {x : V} {xs : List V} (ys : List V) → IsIn x xs → IsIn x (xs ++ ys)
  in_left ys in_here = in_here
  in_left ys (in_later i) = in_later (in_left ys i)

  pub in_right : {x : V} {ys : List V} (xs : List V) → IsIn x ys → IsIn x (xs ++ ys)
  in_right [] i = i
  in_right (a ∷ xs) i = in_later (in_right xs i)

  pub in_either : {x : V} (xs ys : List V) → IsIn x (xs ++ ys) → IsIn x xs ⊎ IsIn x ys
  in_either [] ys i = inr i
  in_either (a ∷ xs) ys in_here = inl in_here
  in_either (a ∷ xs) ys (in_later i) = elim (in_either xs ys i) [ inl l ↦ inl (in_later l) | inr r ↦ inr r ]

  pub joined_distinct : {xs ys : List V} → Distinct xs → Distinct ys → ((x : V) → IsIn x xs → IsIn x ys → ⊥)
      → Distinct (xs ++ ys)
  joined_distinct distinct_none e apart = e
  joined_distinct {ys = ys} (distinct_more {a = a} {xs = xs} fresh d) e apart =
      distinct_more
      (λ i. elim (in_either xs ys i) [ inl l ↦ fresh l | inr r ↦ apart a in_here r ])
      (joined_distinct d e (λ x l r. apart x (in_later l) r))

module _ (V : Type 0) (Edge : V → V → Type 0) (root : V) (Kids : V → List V → Type 0) (key : V → Bool)
    (forest : IsForest V Edge root Kids key) where
  -- x is a, or below it with no key between, x itself being none
  pub data Under : V → V → Type 0 where
    under_here : {a : V} → Under a a
    under_step : {a y x : V} → Under a y → Edge y x → key x ≡ false → Under a x

  pub under_from : {a c x : V} → Edge a c → key c ≡ false → Under c x → Under a x
  under_from e k under_here = under_step under_here e k
  under_from e k (under_step u f l) = under_step (under_from e k u) f l

  pub reach_under : {a x : V} → Reach V Edge root a → Under a x → Reach V Edge root x
  reach_under r under_here = r
  reach_under r (under_step u e k) = reach_edge (reach_under r u) e

  record Above (ks : List V) (x : V) : Type 0 where
    pub kid : V
    pub there : IsIn kid ks
    pub plain : key kid ≡ false
    pub under : Under kid x

  mutual
    part_under : {a x : V} {xs : List V} → Part V Kids key a xs → IsIn x xs → Under a x
    part_under (part k p) in_here = under_here
    part_under (part {a = a} {ks = ks} k p) (in_later i) =
        let up = parts_under p i in
        under_from (forest.leads a up.kid ks k up.there) up.plain up.under

    parts_under : {ks ps : List V} {x : V} → Parts V Kids key ks ps → IsIn x ps → Above ks x
    parts_under parts_none i = elim i [ ]
    parts_under (parts_key t p) i =
        let up = parts_under p i in
        record { kid = up.kid; there = in_later up.there; plain = up.plain; under = up.under }
    parts_under (parts_more {c = c} {xs = xs} {ys = ys} f q p) i =
        elim (in_either xs ys i) [
          | inl l ↦ record { kid = c; there = in_here; plain = f; under = part_under q l }
          | inr r ↦
              let up = parts_under p r in
              record { kid = up.kid; there = in_later up.there; plain = up.plain; under = up.under }
        ]

  part_first : {a : V} {xs : List V} → Part V Kids key a xs → IsIn a xs
  part_first (part k p) = in_here

  whole_first : {k : V} {ks all : List V} → Whole V Kids key ks all → IsIn k ks → IsIn k all
  whole_first whole_none i = elim i [ ]
  whole_first (whole_more {ys = ys} p w) in_here = in_left ys (part_first p)
  whole_first (whole_more {xs = xs} p w) (in_later i) = in_right xs (whole_first w i)

  parts_first : {ks ps : List V} {b : V} → Parts V Kids key ks ps → IsIn b ks → key b ≡ false → IsIn b ps
  parts_first parts_none i f = elim i [ ]
  parts_first (parts_key t p) in_here f = absurd (cc)
  parts_first (parts_key t p) (in_later i) f = parts_first p i f
  parts_first (parts_more {ys = ys} g q p) in_here f = in_left ys (part_first q)
  parts_first (parts_more {xs = xs} g q p) (in_later i) f = in_right xs (parts_first p i f)

  mutual
    part_step : {a x b : V} {xs : List V} → Part V Kids key a xs → IsIn x xs → Edge x b → key b ≡ false → IsIn b xs
    part_step {b = b} (part {a = a} {ks = ks} k p) in_here e f = in_later (parts_first p (forest.listed a b ks k e) f)
    part_step (part k p) (in_later i) e f = in_later (parts_step p i e f)

    parts_step : {ks ps : List V} {x b : V} → Parts V Kids key ks ps → IsIn x ps → Edge x b → key b ≡ false → IsIn b ps
    parts_step parts_none i e f = elim i [ ]
    parts_step (parts_key t p) i e f = parts_step p i e f
    parts_step (parts_more {xs = xs} {ys = ys} g q p) i e f =
        elim (in_either xs ys i) [
          | inl l ↦ in_left ys (part_step q l e f)
          | inr r ↦ in_right xs (parts_step p r e f)
        ]

  whole_step : {ks all : List V} {x b : V} → Whole V Kids key ks all → IsIn x all → Edge x b → key b ≡ false
      → IsIn b all
  whole_step whole_none i e f = elim i [ ]
  whole_step (whole_more {xs = xs} {ys = ys} q w) i e f =
      elim (in_either xs ys i) [
        | inl l ↦ in_left ys (part_step q l e f)
        | inr r ↦ in_right xs (whole_step w r e f)
      ]

  -- what is there is reached
  pub whole_reached : {ks all : List V} {x : V} → Whole V Kids key ks all
      → ((k : V) → IsIn k ks → Reach V Edge root k) → IsIn x all → Reach V Edge root x
  whole_reached whole_none r i = elim i [ ]
  whole_reached (whole_more {k = k} {xs = xs} {ys = ys} q w) r i =
      elim (in_either xs ys i) [
        | inl l ↦ reach_under (r k in_here) (part_under q l)
        | inr j ↦ whole_reached w (λ k h. r k (in_later h)) j
      ]

  by_key : (v : Bool) → {ks all : List V} {a b : V} → key b ≡ v → Whole V Kids key ks all
      → (key b ≡ true → IsIn b ks) → IsIn a all → Edge a b → IsIn b all
  by_key true is w has i e = whole_first w (has is)
  by_key false is w has i e = whole_step w i e is

  -- what is reached is there
  pub reached_whole : {ks all : List V} {x : V} → Reach V Edge root x → Whole V Kids key ks all
      → ((k : V) → Reach V Edge root k → key k ≡ true → IsIn k ks) → IsIn x all
  reached_whole reach_root w has = whole_first w (has root reach_root forest.root_key)
  reached_whole (reach_edge {a = a} {b = b} r e) w has =
      by_key (key b) refl w (has b (reach_edge r e)) (reached_whole r w has) e

  -- nothing is below itself
  no_loop : {a : V} → Reach V Edge root a → (c : V) → Edge a c → key c ≡ false → Under c a → ⊥
  no_loop reach_root c e f under_here = absurd (let k = forest.root_key in cc)
  no_loop reach_root c e f (under_step u g h) = absurd (let k = forest.root_key in cc)
  no_loop (reach_edge {a = b} {b = a} r o) c e f under_here =
      let is : a ≡ b = forest.one_asker a b a f (reach_edge r o) e r o in
      no_loop r a o f (subst (Under a) is under_here)
  no_loop (reach_edge {a = b} {b = a} r o) c e f (under_step {y = y} u g h) =
      let is : y ≡ b = forest.one_asker y b a h (reach_under (reach_edge (reach_edge r o) e) u) g r o in
      no_loop r a o h (under_from e f (subst (Under c) is u))

  one_kid : {a c d x : V} → Reach V Edge root a → Edge a c → Edge a d → key c ≡ false → key d ≡ false → Under c x
      → Under d x → c ≡ d
  one_kid r e o f g under_here under_here = refl
  one_kid {a = a} {c = c} {d = d} r e o f g under_here (under_step {y = y} u h l) =
      let is : y ≡ a = forest.one_asker y a c f (reach_under (reach_edge r o) u) h r e in
      absurd (no_loop r d o g (subst (Under d) is u))
  one_kid {a = a} {c = c} {d = d} r e o f g (under_step {y = y} u h l) under_here =
      let is : y ≡ a = forest.one_asker y a d g (reach_under (reach_edge r e) u) h r o in
      absurd (no_loop r c e f (subst (Under c) is u))
  one_kid {d = d} r e o f g (under_step {y = y} {x = x} u h l) (under_step {y = z} v i m) =
      let is : z ≡ y = forest.one_asker z y x l (reach_under (reach_edge r o) v) i (reach_under (reach_edge r e) u) h in
      one_kid r e o f g u (subst (Under d) is v)

  one_key : {a b x : V} → Reach V Edge root a → Reach V Edge root b → key a ≡ true → key b ≡ true → Under a x
      → Under b x → a ≡ b
  one_key r s f g under_here under_here = refl
  one_key r s f g under_here (under_step u h l) = absurd (cc)
  one_key r s f g (under_step u h l) under_here = absurd (cc)
  one_key {b = b} r s f g (under_step {y = y} {x = x} u h l) (under_step {y = z} v i m) =
      let is : z ≡ y = forest.one_asker z y x l (reach_under s v) i (reach_under r u) h in
      one_key r s f g u (subst (Under b) is v)

  mutual
    part_distinct : {a : V} {xs : List V} → Reach V Edge root a → Part V Kids key a xs → Distinct xs
    part_distinct r (part {a = a} {ks = ks} k p) =
        distinct_more
        (λ i. let up = parts_under p i in
        no_loop r up.kid (forest.leads a up.kid ks k up.there) up.plain up.under)
        (parts_distinct r (λ c i. forest.leads a c ks k i) (forest.distinct a ks r k) p)

    parts_distinct : {a : V} {ks ps : List V} → Reach V Edge root a → ((c : V) → IsIn c ks → Edge a c) → Distinct ks
        → Parts V Kids key ks ps → Distinct ps
    parts_distinct r e d parts_none = distinct_none
    parts_distinct r e (distinct_more fresh d) (parts_key t p) = parts_distinct r (λ c i. e c (in_later i)) d p
    parts_distinct r e (distinct_more fresh d) (parts_more {c = c} {ks = ks} f q p) =
        joined_distinct
        (part_distinct (reach_edge r (e c in_here)) q)
        (parts_distinct r (λ k i. e k (in_later i)) d p)
        (λ x l m. let up = parts_under p m in
        let is : up.kid ≡ c = one_kid r (e up.kid (in_later up.there)) (e c in_here) up.plain f up.under
        (part_under q l) in
        fresh (subst (λ v. IsIn v ks) is up.there))

  record KeyAbove (ks : List V) (x : V) : Type 0 where
    pub top : V
    pub there : IsIn top ks
    pub under : Under top x

  whole_under : {ks all : List V} {x : V} → Whole V Kids key ks all → IsIn x all → KeyAbove ks x
  whole_under whole_none i = elim i [ ]
  whole_under (whole_more {k = k} {xs = xs} {ys = ys} q w) i =
      elim (in_either xs ys i) [
        | inl l ↦ record { top = k; there = in_here; under = part_under q l }
        | inr j ↦ let up = whole_under w j in record { top = up.top; there = in_later up.there; under = up.under }
      ]

  -- nothing is there twice
  pub whole_distinct : {ks all : List V} → Whole V Kids key ks all → Distinct ks
      → ((k : V) → IsIn k ks → Reach V Edge root k × (key k ≡ true)) → Distinct all
  whole_distinct whole_none d r = distinct_none
  whole_distinct (whole_more {k = k} {ks = ks} q w) (distinct_more fresh d) r =
      joined_distinct
      (part_distinct (r k in_here).0 q)
      (whole_distinct w d (λ h i. r h (in_later i)))
      (λ x l m. let up = whole_under w m in
      let is : up.top ≡ k = one_key (r up.top (in_later up.there)).0 (r k in_here).0
      (r up.top (in_later up.there)).1 (r k in_here).1 up.under (part_under q l) in
      fresh (subst (λ v. IsIn v ks) is up.there))
