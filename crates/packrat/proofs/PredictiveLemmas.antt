-- In a grammar of which the next byte says which way to go each task is led to by one alone.
-- Serves: Packrat::match_unit
use Rattle.std.proofs.Common.{◌≡◌, ◌⊎◌, inl, inr, ℕ, zero, suc, ◌+◌, ◌<◌, ◌≤◌, Bool, true, false, List, [], ◌∷◌}
use Rattle.std.proofs.Common.{Option, Some, None, drop, length, refl, sym, subst, ap, arith, ◌∙◌}
use Rattle.std.proofs.Common.{get_or}
use Rattle.std.proofs.lemmas.Option.{slice_get-get_or}
use Rattle.std.specs.Prelude.{slice_get, ◌==◌, nat_lt, if◌then◌else◌}
use Rattle.pegread.specs.Pattern.{Rule}
use Rattle.pegnodes.specs.Nodes as node
use Rattle.pegnodes.specs.Nodes.{Shape}
use Rattle.pegnodes.specs.declared.by_byte.ByteVerdict.{ByteVerdict}
use Rattle.pegnodes.specs.declared.by_byte.ByteVerdict.TheVariants.{Takes, Stays, Fails}
use Rattle.gramcheck.specs.Sound.{IsRanked}
use Rattle.pegmatch.specs.KeptEvents.{SpellsSome}
use Rattle.pegmatch.proofs.AsksLemmas.{visited_there}
use Rattle.memo.specs.KeyLog.{position_of}
use Rattle.memo.specs.Parts.{reach_edge}
use Rattle.memo.specs.Run.{Ends, ends}
use Rattle.memo.specs.declared.task.MatchTask.{MatchTask}
use Rattle.memo.specs.declared.task.MatchTask.TheVariants.{Eval, Tail}
use Rattle.pegnodes.specs.NodeWays.{Leaf, Iterations, way_of}
use Rattle.packrat.specs.MatchTasks.{LeadsBy, Leads}
use Rattle.pegnodes.specs.Predictive as pr
use Rattle.pegnodes.specs.Predictive.{IsPredictive, of_star}
use Rattle.pegnodes.specs.Predictive.{of_shape, Settled}
use Rattle.packrat.proofs.BelowLemmas as w
use Rattle.packrat.proofs.NodeOutcomeLemmas as o
use Rattle.packrat.proofs.EndsLemmas.{reached_ends}
use Rattle.packrat.proofs.SeenLemmas as seen
use Rattle.packrat.proofs.SeenLemmas.{drop_past}
use Rattle.packrat.proofs.TaskReachLemmas.{front_drop, drop_none, reached_is_visited}
use Rattle.packrat.proofs.SeenRepetitionLemmas as more
use Rattle.packrat.proofs.SeenTailLemmas as rest

module _ (rules : List Rule) (start : ℕ) (nodes : List Shape) (bodies ranks x : List ℕ)
    (sound : IsRanked rules start nodes bodies ranks) (root : ℕ) (is_root : slice_get bodies start ≡ Some root)
    (good : IsPredictive nodes bodies) where
  abbrev L : MatchTask → MatchTask → Type 0
  L a b = seen.L rules start nodes bodies ranks x sound root is_root good a b

  abbrev R : MatchTask → Type 0
  R a = seen.R rules start nodes bodies ranks x sound root is_root good a

  abbrev B : MatchTask → MatchTask → Type 0
  B a t = seen.B rules start nodes bodies ranks x sound root is_root good a t

  abbrev NT : ℕ → ℕ → ℕ → Type 0
  NT m p q = seen.NT rules start nodes bodies ranks x sound root is_root good m p q

  abbrev NF : ℕ → ℕ → Type 0
  NF m p = seen.NF rules start nodes bodies ranks x sound root is_root good m p

  abbrev At : ℕ → Shape → Type 0
  At n shape = seen.At rules start nodes bodies ranks x sound root is_root good n shape

  abbrev Sym : ℕ → ℕ → Type 0
  Sym q b = seen.Sym rules start nodes bodies ranks x sound root is_root good q b

  abbrev Flat : MatchTask → Type 0
  Flat a = seen.Flat rules start nodes bodies ranks x sound root is_root good a

  abbrev V : ℕ → ℕ → Option ByteVerdict
  V b n = seen.V rules start nodes bodies ranks x sound root is_root good b n

  abbrev VM : ℕ → List ℕ → Option ByteVerdict
  VM b ms = seen.VM rules start nodes bodies ranks x sound root is_root good b ms

  abbrev VA : ℕ → List ℕ → Option ByteVerdict
  VA b ms = seen.VA rules start nodes bodies ranks x sound root is_root good b ms

  abbrev MT : List ℕ → ℕ → ℕ → Type 0
  MT l p q = seen.MT rules start nodes bodies ranks x sound root is_root good l p q

  abbrev AF : List ℕ → ℕ → Type 0
  AF l p = seen.AF rules start nodes bodies ranks x sound root is_root good l p

  abbrev Given : ℕ → ℕ → Option ByteVerdict → Type 0
  Given n p v = seen.Given rules start nodes bodies ranks x sound root is_root good n p v

  abbrev Seen : ℕ → ℕ → Type 0
  Seen n p = seen.Seen rules start nodes bodies ranks x sound root is_root good n p

  abbrev GivenMembers : MatchTask → List ℕ → ℕ → Option ByteVerdict → Type 0
  GivenMembers a l p v = seen.GivenMembers rules start nodes bodies ranks x sound root is_root good a l p v

  abbrev SeenMembers : ℕ → ℕ → ℕ → List ℕ → Type 0
  SeenMembers n i p l = seen.SeenMembers rules start nodes bodies ranks x sound root is_root good n i p l

  abbrev GivenFirst : MatchTask → List ℕ → ℕ → Option ByteVerdict → Type 0
  GivenFirst a l p v = seen.GivenFirst rules start nodes bodies ranks x sound root is_root good a l p v

  abbrev SeenAlternatives : ℕ → ℕ → ℕ → List ℕ → Type 0
  SeenAlternatives n i p l = seen.SeenAlternatives rules start nodes bodies ranks x sound root is_root good n i p l

  abbrev SeenTail : Shape → ℕ → ℕ → ℕ → Type 0
  SeenTail shape n i p = seen.SeenTail rules start nodes bodies ranks x sound root is_root good shape n i p

  abbrev Sees : MatchTask → Type 0
  Sees a = seen.Sees rules start nodes bodies ranks x sound root is_root good a

  node_visited : (n p : ℕ) → R (Eval n p) → SpellsSome rules nodes n × (p ≤ length x)
  node_visited n p r = seen.node_visited rules start nodes bodies ranks x sound root is_root good n p r

  goes_forward : {a t : MatchTask} → R a → B a t → position_of a ≤ position_of t
  goes_forward r h = seen.goes_forward rules start nodes bodies ranks x sound root is_root good r h

  not_both : {m p q : ℕ} → NT m p q → NF m p → ⊥
  not_both t f = seen.not_both rules start nodes bodies ranks x sound root is_root good t f

  leads_as : (n p : ℕ) (shape : Shape) → At n shape → (c : MatchTask) → L (Eval n p) c
      → LeadsBy rules nodes bodies x (way_of n shape) n p c
  leads_as n p shape at c l = seen.leads_as rules start nodes bodies ranks x sound root is_root good n p shape at c l

  -- what an evaluation leads to tells what is seen of it
  module _ (n p : ℕ) (r : R (Eval n p)) (kids : (c : MatchTask) → L (Eval n p) c → Sees c) where
    abbrev Has : Type 0
    Has = SpellsSome rules nodes n

    is_spelled : Has
    is_spelled = (node_visited n p r).0

    no_kids : (shape : Shape) → At n shape → way_of n shape ≡ Leaf → (c : MatchTask) → L (Eval n p) c → ⊥
    no_kids shape at leaf c l =
        subst (λ v. LeadsBy rules nodes bodies x v n p c) leaf (leads_as n p shape at c l)

    own_flat : ((c : MatchTask) → L (Eval n p) c → ⊥) → Flat (Eval n p)
    own_flat none = seen.own_flat rules start nodes bodies ranks x sound root is_root good n p r none

    leaf_seen : ((c : MatchTask) → L (Eval n p) c → ⊥) → ((b : ℕ) → Sym p b → Given n p (V b n))
        → (NT n p p → pr.Empty nodes bodies n) → Seen n p
    leaf_seen none gives empty =
        seen.leaf_seen rules start nodes bodies ranks x sound root is_root good n p r none gives empty

    event_seen : (shape : Shape) → At n shape → way_of n shape ≡ Leaf
        → ((b : ℕ) → of_shape bodies b (good.at b).of shape ≡ Some Stays) → NT n p p → pr.Empty nodes bodies n
        → Seen n p
    event_seen shape at leaf stays t empty = leaf_seen (no_kids shape at leaf)
        (λ b s. subst (Given n p) (sym ((good.at b).decided n shape at ∙ stays b))
        (t, own_flat (no_kids shape at leaf)))
        (λ u. empty)

    set_gives : (s : ℕ → Bool) → At n (node.Set s) → (b : ℕ) → Sym p b → (v : Bool) → s b ≡ v
        → Given n p (if v then Some Takes else Some Fails)
    set_gives s at b here true is = (
      (p + 1, o.set_in rules start nodes bodies ranks x sound n s p b at here is),
      own_flat (no_kids (node.Set s) at refl),
    )
    set_gives s at b here false is = (
      o.set_out rules start nodes bodies ranks x sound n s p b at here is,
      own_flat (no_kids (node.Set s) at refl),
    )

    class_gives : (s : ℕ → Bool) → At n (node.Set s) → (b : ℕ) → Sym p b → (v : Bool) → nat_lt b 256 ≡ v
        → Given n p (if v then (if s b then Some Takes else Some Fails) else None)
    class_gives s at b here true is = set_gives s at b here (s b) refl
    class_gives s at b here false is = tt

    one_byte : (c : ℕ) → At n (node.Bytes (c ∷ [])) → (b : ℕ) → Sym p b → (v : Bool) → (c == b) ≡ v
        → Given n p (if v then Some Takes else Some Fails)
    one_byte c at b here true is = (
      (p + 1, o.bytes_one rules start nodes bodies ranks x sound n c p b at here is),
      own_flat (no_kids (node.Bytes (c ∷ [])) at refl),
    )
    one_byte c at b here false is = (
      o.bytes_other rules start nodes bodies ranks x sound n c [] p b at here is,
      own_flat (no_kids (node.Bytes (c ∷ [])) at refl),
    )

    more_bytes : (c d : ℕ) (cs : List ℕ) → At n (node.Bytes (c ∷ (d ∷ cs))) → (b : ℕ) → Sym p b → (v : Bool)
        → (c == b) ≡ v → Given n p (if v then None else Some Fails)
    more_bytes c d cs at b here true is = tt
    more_bytes c d cs at b here false is = (
      o.bytes_other rules start nodes bodies ranks x sound n c (d ∷ cs) p b at here is,
      own_flat (no_kids (node.Bytes (c ∷ (d ∷ cs))) at refl),
    )

    bytes_seen : (bs : List ℕ) → At n (node.Bytes bs) → Seen n p
    bytes_seen [] at = event_seen (node.Bytes []) at refl (λ b. refl)
        (o.bytes_none rules start nodes bodies ranks x sound n p at) (pr.empty_bytes at)
    bytes_seen (c ∷ []) at = leaf_seen (no_kids (node.Bytes (c ∷ [])) at refl)
        (λ b s. subst (Given n p) (sym ((good.at b).decided n (node.Bytes (c ∷ [])) at))
        (one_byte c at b s (c == b) refl))
        (λ t. absurd (o.bytes_move rules start nodes bodies ranks x sound n c [] at t))
    bytes_seen (c ∷ (d ∷ cs)) at = leaf_seen (no_kids (node.Bytes (c ∷ (d ∷ cs))) at refl)
        (λ b s. subst (Given n p) (sym ((good.at b).decided n (node.Bytes (c ∷ (d ∷ cs))) at))
        (more_bytes c d cs at b s (c == b) refl))
        (λ t. absurd (o.bytes_move rules start nodes bodies ranks x sound n c (d ∷ cs) at t))

    -- the shape of its node says what is seen of a tail
    tail_as : (shape : Shape) → At n shape → (i q : ℕ) → Sees (Tail n i q) → SeenTail shape n i q
    tail_as shape at i q h = let same : h.0 ≡ shape = cc (h.1, at) in subst (λ v. SeenTail v n i q) same h.2

    shape_seen : (shape : Shape) → At n shape → Seen n p
    shape_seen node.Any at = leaf_seen (no_kids node.Any at refl)
        (λ b s. subst (Given n p) (sym ((good.at b).decided n node.Any at)) (
          (p + 1, o.any_takes rules start nodes bodies ranks x sound n p b at s),
          own_flat (no_kids node.Any at refl),
        ))
        (λ t. absurd (o.any_moves rules start nodes bodies ranks x sound n at t))
    shape_seen (node.Bytes bs) at = bytes_seen bs at
    shape_seen (node.Set s) at = leaf_seen (no_kids (node.Set s) at refl)
        (λ b h. subst (Given n p) (sym ((good.at b).decided n (node.Set s) at))
        (class_gives s at b h (nat_lt b 256) refl))
        (λ t. absurd (o.set_moves rules start nodes bodies ranks x sound n s at t))
    shape_seen (node.Name id) at =
        let low = sound.defined n id at in
        let count = sound.spelled.count in
        let body = slice_get-get_or bodies id 0 (omega (arith, low, count)) in
        seen.name_seen rules start nodes bodies ranks x sound root is_root good n p r is_spelled id
        (get_or bodies id 0) at body
        (kids (Eval (get_or bodies id 0) p) (node.Name id, at, (get_or bodies id 0, body, refl)))
    shape_seen (node.Seq ms) at = by (slice_get ms zero) refl
      where
        by : (v : Option ℕ) → slice_get ms zero ≡ v → Seen n p
        by None is = leaf_seen none
            (λ b s. subst (Given n p) (sym ((good.at b).decided n (node.Seq ms) at ∙ ap (VM b) empty))
            (takes, own_flat none))
            (λ t. pr.empty_seq at (subst (pr.AllEmpty nodes bodies) (sym empty) pr.all_none))
          where
            none : (c : MatchTask) → L (Eval n p) c → ⊥
            none c l = let g = leads_as n p (node.Seq ms) at c l in cc (g.1, is)

            empty : ms ≡ []
            empty = sym (drop_none ms) ∙ drop_past ms zero is

            takes : NT n p p
            takes = o.members_take rules start nodes bodies ranks x sound n ms at is_spelled
                (subst (λ v. MT v p p) (sym empty) o.take_none)
        by (Some m) is =
            more.seq_seen rules start nodes bodies ranks x sound root is_root good n p r is_spelled ms at m is
            (subst (SeenMembers n zero p) (drop_none ms)
            (tail_as (node.Seq ms) at zero p (kids (Tail n zero p) (node.Seq ms, at, (m, is, refl)))))
    shape_seen (node.Choice ms) at = by (slice_get ms zero) refl
      where
        by : (v : Option ℕ) → slice_get ms zero ≡ v → Seen n p
        by None is = leaf_seen none
            (λ b s. subst (Given n p) (sym ((good.at b).decided n (node.Choice ms) at ∙ ap (VA b) empty))
            (fails, own_flat none))
            (λ t. absurd (not_both t fails))
          where
            none : (c : MatchTask) → L (Eval n p) c → ⊥
            none c l = let g = leads_as n p (node.Choice ms) at c l in cc (g.1, is)

            empty : ms ≡ []
            empty = sym (drop_none ms) ∙ drop_past ms zero is

            fails : NF n p
            fails = o.all_fail rules start nodes bodies ranks x sound n ms at is_spelled
                (subst (λ v. AF v p) (sym empty) o.fail_none)
        by (Some m) is =
            more.choice_seen rules start nodes bodies ranks x sound root is_root good n p r is_spelled ms at m is
            (subst (SeenAlternatives n zero p) (drop_none ms)
            (tail_as (node.Choice ms) at zero p (kids (Tail n zero p) (node.Choice ms, at, (m, is, refl)))))
    shape_seen (node.Star k) at =
        more.star_seen rules start nodes bodies ranks x sound root is_root good n p r is_spelled k at
        (kids (Eval k p) (node.Star k, at, inl refl))
        (λ q t. kids (Eval n q) (node.Star k, at, inr (q, t, refl)))
    shape_seen (node.Plus k s) at =
        more.plus_seen rules start nodes bodies ranks x sound root is_root good n p r is_spelled k s at
        (kids (Eval k p) (node.Plus k s, at, inl refl))
        (λ q t. kids (Eval s q) (node.Plus k s, at, inr (q, t, refl)))
    shape_seen (node.Opt k) at =
        seen.opt_seen rules start nodes bodies ranks x sound root is_root good n p r is_spelled k at
        (kids (Eval k p) (node.Opt k, at, refl))
    shape_seen (node.And k) at =
        seen.and_seen rules start nodes bodies ranks x sound root is_root good n p r is_spelled k at
        (kids (Eval k p) (node.And k, at, refl))
    shape_seen (node.Not k) at =
        seen.not_seen rules start nodes bodies ranks x sound root is_root good n p r is_spelled k at
        (kids (Eval k p) (node.Not k, at, refl))
    shape_seen (node.Act t) at = event_seen (node.Act t) at refl (λ b. refl)
        (o.act_takes rules start nodes bodies ranks x sound n p t at) (pr.empty_act at)
    shape_seen node.Open at = event_seen node.Open at refl (λ b. refl)
        (o.open_takes rules start nodes bodies ranks x sound n p at) (pr.empty_open at)
    shape_seen node.Close at = event_seen node.Close at refl (λ b. refl)
        (o.close_takes rules start nodes bodies ranks x sound n p at) (pr.empty_close at)

    eval_seen : Seen n p
    eval_seen = by (slice_get nodes n) refl
        (visited_there rules start nodes bodies ranks x sound n p
        (reached_is_visited rules start nodes bodies x root is_root n p r)).0
      where
        by : (v : Option Shape) → slice_get nodes n ≡ v → n < length nodes → Seen n p
        by (Some shape) is lt = shape_seen shape is
        by None is lt = absurd (cc (slice_get-get_or nodes n node.Any lt, is))

  -- what a tail leads to tells what is seen of it
  module _ (n i p : ℕ) (r : R (Tail n i p)) (kids : (c : MatchTask) → L (Tail n i p) c → Sees c) where
    further_as : (shape : Shape) → At n shape → (q : ℕ) → Sees (Tail n (suc i) q) → SeenTail shape n (suc i) q
    further_as shape at q h =
        let same : h.0 ≡ shape = cc (h.1, at) in subst (λ v. SeenTail v n (suc i) q) same h.2

    tail_seen : (shape : Shape) → At n shape → (ms : List ℕ) (m : ℕ) → slice_get ms i ≡ Some m
        → (shape ≡ node.Seq ms) ⊎ (shape ≡ node.Choice ms) → Sees (Tail n i p)
    tail_seen shape at ms m there is = elim is [
      | inl seq ↦
          let here : At n (node.Seq ms) = at ∙ ap Some seq in (
            node.Seq ms,
            here,
            subst (SeenMembers n i p) (sym (front_drop ms i m there))
                (rest.members_seen rules start nodes bodies ranks x sound root is_root good n i p r ms m there here
                (kids (Eval m p) (node.Seq ms, here, (m, there, inl refl)))
                (λ q k t next. further_as (node.Seq ms) here q
                (kids (Tail n (suc i) q) (node.Seq ms, here, (m, there, inr (k, q, next, t, refl)))))),
          )
      | inr choice ↦
          let here : At n (node.Choice ms) = at ∙ ap Some choice in (
            node.Choice ms,
            here,
            subst (SeenAlternatives n i p) (sym (front_drop ms i m there))
                (rest.alternatives_seen rules start nodes bodies ranks x sound root is_root good n i p r ms m there here
                (kids (Eval m p) (node.Choice ms, here, (m, there, inl refl)))
                (λ k f next. further_as (node.Choice ms) here p
                (kids (Tail n (suc i) p) (node.Choice ms, here, (m, there, inr (k, next, f, refl)))))),
          )
    ]

  of_kids : (a : MatchTask) → R a → ((c : MatchTask) → L a c → Sees c) → Sees a
  of_kids (Eval n p) r kids = eval_seen n p r kids
  of_kids (Tail n i p) r kids =
      let t = w.tail_member rules start nodes bodies ranks x sound root is_root r in
      tail_seen n i p r kids t.shape t.at t.members t.member t.there t.of_shape

  sees_below : {a : MatchTask} → Ends MatchTask (Leads rules nodes bodies x) a → R a → Sees a
  sees_below (ends {a = a} below) r = of_kids a r (λ c l. sees_below (below c l) (reach_edge r l))

  sees_task : {a : MatchTask} → R a → Sees a
  sees_task r = sees_below (reached_ends rules start nodes bodies ranks x sound root is_root r) r

  sees_members : (n i q : ℕ) (ms : List ℕ) → At n (node.Seq ms) → R (Tail n i q) → SeenMembers n i q (drop i ms)
  sees_members n i q ms at r =
      let h : Sees (Tail n i q) = sees_task r in
      let same : h.0 ≡ node.Seq ms = cc (h.1, at) in
      subst (λ v. SeenTail v n i q) same h.2

  sees_alternatives : (n i q : ℕ) (ms : List ℕ) → At n (node.Choice ms) → R (Tail n i q)
      → SeenAlternatives n i q (drop i ms)
  sees_alternatives n i q ms at r =
      let h : Sees (Tail n i q) = sees_task r in
      let same : h.0 ≡ node.Choice ms = cc (h.1, at) in
      subst (λ v. SeenTail v n i q) same h.2

  abbrev Forks : MatchTask → MatchTask → MatchTask → Type 0
  Forks a c d = w.Forks rules start nodes bodies ranks x sound root is_root a c d

  -- nothing is below both tasks to which one task leads
  module _ (l z : ℕ) (low : l < length nodes) where
    members_apart : (n i p q m k : ℕ) (ms : List ℕ) → R (Tail n i p) → At n (node.Seq ms) → slice_get ms i ≡ Some m
        → slice_get ms (suc i) ≡ Some k → NT m p q → B (Eval m p) (Eval l z) → B (Tail n (suc i) q) (Eval l z) → ⊥
    members_apart n i p q m k ms r at there next t b f =
        (good.apart l low).members n i m ms at there (kid.last q l t (subst (λ v. B (Eval m p) (Eval l v)) here b))
        (tail.near l (subst (λ v. B (Tail n (suc i) q) (Eval l v)) here f))
      where
        kid_reached : R (Eval m p)
        kid_reached = reach_edge r (node.Seq ms, at, (m, there, inl refl))

        next_reached : R (Tail n (suc i) q)
        next_reached = reach_edge r (node.Seq ms, at, (m, there, inr (k, q, next, t, refl)))

        kid : Seen m p
        kid = sees_task kid_reached

        tail : SeenMembers n (suc i) q (drop (suc i) ms)
        tail = sees_members n (suc i) q ms at next_reached

        settled : (b : ℕ) (v : Option ByteVerdict) → Settled nodes bodies v
            → GivenMembers (Tail n (suc i) q) (drop (suc i) ms) q v → z ≡ q
        settled b None d g = absurd d
        settled b (Some Fails) d g = g.1 (Eval l z) f
        settled b (Some Stays) d g = g.1 (Eval l z) f
        settled b (Some Takes) d g = absurd d

        here : z ≡ q
        here = elim (kid.clean q t) [
          | inl up ↦ let le = up (Eval l z) b in let ge = goes_forward next_reached f in omega (arith, le, ge)
          | inr d ↦
              let rest_settled = (good.at d.0).settled.after n i m ms at there d.2 in
              settled d.0 (VM d.0 (drop (suc i) ms)) rest_settled (tail.gives d.0 d.1)
        ]

    alternatives_apart : (n i p m k : ℕ) (ms : List ℕ) → R (Tail n i p) → At n (node.Choice ms)
        → slice_get ms i ≡ Some m → slice_get ms (suc i) ≡ Some k → NF m p → B (Eval m p) (Eval l z)
        → B (Tail n (suc i) p) (Eval l z) → ⊥
    alternatives_apart n i p m k ms r at there next t b f =
        (good.apart l low).alternatives n i m ms at there (kid.near l (subst (λ v. B (Eval m p) (Eval l v)) here b))
        (tail.near l (subst (λ v. B (Tail n (suc i) p) (Eval l v)) here f))
      where
        kid : Seen m p
        kid = sees_task (reach_edge r (node.Choice ms, at, (m, there, inl refl)))

        tail : SeenAlternatives n (suc i) p (drop (suc i) ms)
        tail = sees_alternatives n (suc i) p ms at
            (reach_edge r (node.Choice ms, at, (m, there, inr (k, next, t, refl))))

        settled : (v : Option ByteVerdict) → Settled nodes bodies v
            → GivenFirst (Tail n (suc i) p) (drop (suc i) ms) p v → z ≡ p
        settled None d g = absurd d
        settled (Some Fails) d g = g.1 (Eval l z) f
        settled (Some Stays) d g = g.1 (Eval l z) f
        settled (Some Takes) d g = absurd d

        here : z ≡ p
        here = elim (kid.late t) [
          | inl flat ↦ flat (Eval l z) b
          | inr d ↦
              let others_settled = (good.at d.0).settled.others n i m ms at there d.2 in
              settled (VA d.0 (drop (suc i) ms)) others_settled (tail.gives d.0 d.1)
        ]

    star_of : (n k s : ℕ) (shape : Shape) → At n shape → way_of n shape ≡ Iterations k s → SpellsSome rules nodes n
        → At s (node.Star k)
    star_of n k s (node.Star j) at way has =
        let one : j ≡ k = cc way in
        let two : n ≡ s = cc way in
        subst (λ v. At v (node.Star k)) two (subst (λ v. At n (node.Star v)) one at)
    star_of n k s (node.Plus j t) at way has =
        let one : j ≡ k = cc way in
        let two : t ≡ s = cc way in
        subst (λ v. At v (node.Star k)) two (subst (λ v. At t (node.Star v)) one
        (o.star_of_plus rules start nodes bodies ranks x sound n j t at has))
    star_of n k s shape at way has = absurd (cc way)

    iterations_apart : (n p q k s : ℕ) (shape : Shape) → R (Eval n p) → At n shape
        → way_of n shape ≡ Iterations k s → NT k p q → B (Eval k p) (Eval l z) → B (Eval s q) (Eval l z) → ⊥
    iterations_apart n p q k s shape r at way t b f =
        (good.apart l low).iterations n k s shape at way (kid.last q l t (subst (λ v. B (Eval k p) (Eval l v)) here b))
        (next.near l (subst (λ v. B (Eval s q) (Eval l v)) here f))
      where
        next_reached : R (Eval s q)
        next_reached = reach_edge r (
          shape,
          at,
          subst (λ v. LeadsBy rules nodes bodies x v n p (Eval s q)) (sym way) (inr (q, t, refl)),
        )

        kid : Seen k p
        kid = sees_task (reach_edge r (
          shape,
          at,
          subst (λ v. LeadsBy rules nodes bodies x v n p (Eval k p)) (sym way) (inl refl),
        ))

        next : Seen s q
        next = sees_task next_reached

        here : z ≡ q
        here = elim (kid.clean q t) [
          | inl up ↦ let le = up (Eval l z) b in let ge = goes_forward next_reached f in omega (arith, le, ge)
          | inr d ↦
              let star = star_of n k s shape at way (node_visited n p r).0 in
              let fails = (good.at d.0).settled.again n k s shape at way d.2 in
              let is : V d.0 s ≡ Some Stays = (good.at d.0).decided s (node.Star k) star ∙ ap of_star fails in
              (subst (Given s q) is (next.gives d.0 d.1)).1 (Eval l z) f
        ]

    kids_apart : (a c d : MatchTask) → R a → Forks a c d → B c (Eval l z) → B d (Eval l z) → ⊥
    kids_apart a c d r (w.forks_members {n = n} {i = i} {p = p} {q = q} {m = m} {k = k} {ms = ms} at there next t) b f =
        members_apart n i p q m k ms r at there next t b f
    kids_apart a c d r (w.forks_alternatives {n = n} {i = i} {p = p} {m = m} {k = k} {ms = ms} at there next t) b f =
        alternatives_apart n i p m k ms r at there next t b f
    kids_apart a c d r (w.forks_iterations {n = n} {p = p} {q = q} {k = k} {s = s} {shape = shape} at way t) b f =
        iterations_apart n p q k s shape r at way t b f

  first_led : {a c d : MatchTask} → Forks a c d → L a c
  first_led (w.forks_members {m = m} {ms = ms} at there next t) = (node.Seq ms, at, (m, there, inl refl))
  first_led (w.forks_alternatives {m = m} {ms = ms} at there next t) = (node.Choice ms, at, (m, there, inl refl))
  first_led (w.forks_iterations {n = n} {p = p} {k = k} {shape = shape} at way t) =
      (shape, at, subst (λ v. LeadsBy rules nodes bodies x v n p (Eval k p)) (sym way) (inl refl))

  -- each task that is reached is asked for by one alone
  pub predictive_once : (a b c : MatchTask) → R a → L a c → R b → L b c → a ≡ b
  predictive_once a b c r l s k = w.one_asker rules start nodes bodies ranks x sound root is_root
      (λ e f g t forks i z b d. kids_apart i z (there i z (below_fork t forks b)) e f g t forks b d) a b c r l s k
    where
      there : (n p : ℕ) → R (Eval n p) → n < length nodes
      there n p h = (visited_there rules start nodes bodies ranks x sound n p
          (reached_is_visited rules start nodes bodies x root is_root n p h)).0

      below_fork : {e f g t : MatchTask} → R e → Forks e f g → B f t → R t
      below_fork {e = e} {f = f} r h b = w.below_reached rules start nodes bodies ranks x sound root is_root
          (reach_edge r (first_led h)) b
