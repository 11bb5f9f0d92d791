-- What can follow a stack can follow those that dominate it.
-- Serves: judge, viable, expected.
use Rattle.std.proofs.Common.{◌≡◌, ℕ, ◌+◌, ◌<◌, ◌≤◌, Bool, true, false, List, [], ◌∷◌, ◌++◌, length, refl, sym, ◌∙◌}
use Rattle.std.proofs.Common.{ap, subst, arith, ◌⊎◌, inl, inr}
use Rattle.std.proofs.lemmas.Bool.{cases_lt}
use Rattle.std.proofs.lemmas.Option.{slice_get_within}
use Rattle.std.specs.Prelude.{slice_get, Option, Some, None}
use Rattle.flatgrammar.specs.Flat as fl
use Rattle.flatgrammar.specs.Flat.{Flat, Dot, at, Node, Letters, Rep, top, Set, IsDone, Calling, Calls, Starts, Reads}
use Rattle.flatgrammar.specs.Flat.{calls, reads}
use Rattle.flatgrammar.specs.Stacks as st
use Rattle.flatgrammar.specs.Stacks.{IsDoneAt, is_done, MarksLast, Moves, call, tail_call, Led, led, moves, LedToEnd}
use Rattle.flatgrammar.specs.Stacks.{IsReading, reading}
use Rattle.flatgrammar.proofs.LiftLemmas.{led_by}
use Rattle.lazydfa.specs.Domination.{IsFewer, IsAhead, Dominates}

module _ (flat : Flat) where
  pub dominates_self : (s : List Dot) → Dominates flat s s
  dominates_self [] = refl
  dominates_self (p ∷ s) = inr (p, s, refl, inl refl, dominates_self s)

  -- the same on top
  pub dominates_on : (p : Dot) (s t : List Dot) → Dominates flat s t → Dominates flat (p ∷ s) (p ∷ t)
  dominates_on p s t h = inr (p, t, refl, inl refl, h)

  pub fewer_done : {p q : Dot} → IsFewer flat p q → IsDoneAt flat p
  fewer_done f =
      let within = f.within in
      let fewer = f.fewer in
      subst (λ v. IsDoneAt flat v) (sym f.p_is)
      (is_done f.node_is (fl.rep f.enough (omega (arith, within, fewer))))

  pub ahead_done : {p q : Dot} → IsAhead flat p q → IsDoneAt flat q → IsDoneAt flat p
  ahead_done (inl same) d = subst (λ v. IsDoneAt flat v) (sym same) d
  ahead_done (inr f) d = fewer_done f

  fewer_both : {p q r : Dot} → IsFewer flat p q → IsFewer flat q r → IsFewer flat p r
  fewer_both {p} {q} {r} f g =
      let dots : at f.node f.many ≡ at g.node g.few = sym f.q_is ∙ g.p_is in
      let node : f.node ≡ g.node = cc dots in
      let count : f.many ≡ g.few = cc dots in
      let nodes : Some (Rep f.least f.most f.operand) ≡ Some (Rep g.least g.most g.operand) =
      sym f.node_is ∙ subst (λ v. slice_get flat.nodes v ≡ Some (Rep g.least g.most g.operand)) (sym node) g.node_is in
      let least : f.least ≡ g.least = cc nodes in
      let most : f.most ≡ g.most = cc nodes in
      record {
        node = f.node;
        few = f.few;
        many = g.many;
        least = f.least;
        most = f.most;
        operand = f.operand;
        p_is = f.p_is;
        q_is = subst (λ v. r ≡ at v g.many) (sym node) g.q_is;
        node_is = f.node_is;
        enough = f.enough;
        fewer = let a = f.fewer in let b = g.fewer in omega (arith, a, b, count);
        within = subst (λ v. g.many ≤ top v f.most) (sym least)
            (subst (λ v. g.many ≤ top g.least v) (sym most) g.within);
      }

  ahead_both : {p q r : Dot} → IsAhead flat p q → IsAhead flat q r → IsAhead flat p r
  ahead_both {r = r} (inl same) g = subst (λ v. IsAhead flat v r) (sym same) g
  ahead_both {p = p} (inr f) (inl same) = subst (λ v. IsAhead flat p v) same (inr f)
  ahead_both (inr f) (inr g) = inr (fewer_both f g)

  pub dominates_both : (s t u : List Dot) → Dominates flat s t → Dominates flat t u → Dominates flat s u
  dominates_both [] t u h g = subst (λ v. Dominates flat v u) h g
  dominates_both (p ∷ s) t u (inl d) g = inl (d.0, dominates_both s t u d.1 g)
  dominates_both (p ∷ s) t u (inr h) g =
      by (λ v below. dominates_both s h.1 v h.4 below) (subst (λ v. Dominates flat v u) h.2 g)
    where
      by : ((v : List Dot) → Dominates flat h.1 v → Dominates flat s v) → Dominates flat (h.0 ∷ h.1) u
          → Dominates flat (p ∷ s) u
      by on (inl d) = inl (ahead_done h.3 d.0, on u d.1)
      by on (inr e) = inr (e.0, e.1, e.2, ahead_both h.3 e.3, on e.1 e.4)

  pub dominates_lifted : (s t below : List Dot) → Dominates flat s t → Dominates flat (s ++ below) (t ++ below)
  dominates_lifted [] t below h = subst (λ v. Dominates flat below (v ++ below)) (sym h) (dominates_self below)
  dominates_lifted (p ∷ s) t below (inl d) = inl (d.0, dominates_lifted s t below d.1)
  dominates_lifted (p ∷ s) t below (inr h) =
      inr (h.0, h.1 ++ below, ap (λ v. v ++ below) h.2, h.3, dominates_lifted s h.1 below h.4)

  -- nothing is read where a node is done
  no_end : {A : Type 0} (xs : List A) (k : ℕ) (a : A) → slice_get xs k ≡ Some a → k ≡ length xs → ⊥
  no_end xs k a there end = let w = slice_get_within xs k a there in omega (arith, w, end)

  letters_end : {node : Node} {sets : List Set} {k : ℕ} → IsDone node k → node ≡ Letters sets → k ≡ length sets
  letters_end (fl.letters {sets = sets} is) same = let e : Letters sets ≡ _ = same in cc (e, is)
  letters_end (fl.concat is) same = absurd (cc same)
  letters_end (fl.alt lt) same = absurd (cc same)
  letters_end (fl.rep le most) same = absurd (cc same)
  letters_end (fl.iterations most) same = absurd (cc same)
  letters_end fl.opt same = absurd (cc same)
  letters_end fl.opt_empty same = absurd (cc same)

  reader_node : {q r : Dot} {set : Set} → Reads flat q set r → (n : ℕ) × (k : ℕ) × (sets : List Set) × (q ≡ at n k)
      × (slice_get flat.nodes n ≡ Some (Letters sets)) × (slice_get sets k ≡ Some set)
  reader_node (reads {s = n} {k = k} is (fl.letter {sets = sets} there)) = (n, k, sets, refl, is, there)

  done_node : {q : Dot} → IsDoneAt flat q → (n : ℕ) × (k : ℕ) × (node : Node) × (q ≡ at n k)
      × (slice_get flat.nodes n ≡ Some node) × IsDone node k
  done_node (is_done {s = n} {k = k} {node = node} is d) = (n, k, node, refl, is, d)

  reader_not_done : {q r : Dot} {set : Set} → Reads flat q set r → IsDoneAt flat q → ⊥
  reader_not_done rd d =
      let a = reader_node rd in
      let b = done_node d in
      let dots : at a.0 a.1 ≡ at b.0 b.1 = sym a.3 ∙ b.3 in
      let node : a.0 ≡ b.0 = cc dots in
      let step : a.1 ≡ b.1 = cc dots in
      let nodes : Some b.2 ≡ Some (Letters a.2) =
      sym b.4 ∙ subst (λ v. slice_get flat.nodes v ≡ Some (Letters a.2)) node a.4 in
      let same : b.2 ≡ Letters a.2 = cc nodes in
      no_end a.2 a.1 _ a.5 (step ∙ letters_end b.5 same)

  -- what is ahead of what reads is that
  pub ahead_of_reader : {p q r : Dot} {set : Set} → IsAhead flat p q → Reads flat q set r → p ≡ q
  ahead_of_reader (inl same) rd = same
  ahead_of_reader (inr f) rd =
      let a = reader_node rd in
      let dots : at a.0 a.1 ≡ at f.node f.many = sym a.3 ∙ f.q_is in
      let node : a.0 ≡ f.node = cc dots in
      let nodes : Some (Letters a.2) ≡ Some (Rep f.least f.most f.operand) =
      sym (subst (λ v. slice_get flat.nodes v ≡ Some (Letters a.2)) node a.4) ∙ f.node_is in
      absurd (cc nodes)

  -- what a repetition calls
  rep_calling : {node : Node} {k n l : ℕ} → Calling node k n l → (a : ℕ) (b : Option ℕ) (m : ℕ) → node ≡ Rep a b m
      → (n ≡ m) × (((k < top a b) × (l ≡ k + 1)) ⊎ ((b ≡ None) × (k ≡ a) × (l ≡ k)))
  rep_calling (fl.member is) a b m same = absurd (cc same)
  rep_calling (fl.alternative is) a b m same = absurd (cc same)
  rep_calling (fl.iteration {a = c} {m = n} {k = k} {b = d} lt) a b m same =
      let e : Rep c d n ≡ Rep a b m = same in
      let least : c ≡ a = cc e in
      let most : d ≡ b = cc e in
      (cc e, inl (subst (λ v. k < top a v) most (subst (λ v. k < top v d) least lt), refl))
  rep_calling (fl.iteration_uncounted {a = c} {m = n}) a b m same =
      let e : Rep c None n ≡ Rep a b m = same in
      let most : None ≡ b = cc e in
      (cc e, inr (sym most, cc e, refl))
  rep_calling (fl.takes lt) a b m same = absurd (cc same)
  rep_calling fl.takes_uncounted a b m same = absurd (cc same)
  rep_calling fl.operand a b m same = absurd (cc same)

  caller_node : {q r : Dot} {n : ℕ} → Calls flat q n r → (s : ℕ) × (k : ℕ) × (l : ℕ) × (node : Node) × (q ≡ at s k)
      × (r ≡ at s l) × (slice_get flat.nodes s ≡ Some node) × Calling node k n l
  caller_node (calls {s = s} {k = k} {l = l} {node = node} is c) = (s, k, l, node, refl, refl, is, c)

  pub record NextAhead (p : Dot) (n : ℕ) (r : Dot) : Type 0 where
    pub next : Dot
    pub calling : Calls flat p n next
    pub ahead : (next ≡ r) ⊎ ((f : IsFewer flat next r) × (f.operand ≡ n))

  fewer_call : {p q r : Dot} {n : ℕ} → IsFewer flat p q → Calls flat q n r → NextAhead p n r
  fewer_call {p} {q} {r} {n} f c =
      by (rep_calling (caller_node c).7 f.least f.most f.operand rep).0
      (rep_calling (caller_node c).7 f.least f.most f.operand rep).1
    where
      dots : at (caller_node c).0 (caller_node c).1 ≡ at f.node f.many
      dots = sym (caller_node c).4 ∙ f.q_is

      node : (caller_node c).0 ≡ f.node
      node = let e = dots in cc e

      step : (caller_node c).1 ≡ f.many
      step = let e = dots in cc e

      rep : (caller_node c).3 ≡ Rep f.least f.most f.operand
      rep =
          let e : Some (caller_node c).3 ≡ Some (Rep f.least f.most f.operand) =
          sym (subst (λ v. slice_get flat.nodes v ≡ Some (caller_node c).3) node (caller_node c).6) ∙ f.node_is in
          cc e

      by : n ≡ f.operand → (((caller_node c).1 < top f.least f.most) × ((caller_node c).2 ≡ (caller_node c).1 + 1))
          ⊎ ((f.most ≡ None) × ((caller_node c).1 ≡ f.least) × ((caller_node c).2 ≡ (caller_node c).1))
          → NextAhead p n r
      by operand (inl more) =
          let lt = more.0 in
          let fewer = f.fewer in
          let enough = f.enough in
          let here = step in
          let after = more.1 in
          let less : f.few < top f.least f.most = omega (arith, lt, fewer, here) in
          let end : (caller_node c).2 ≡ f.many + 1 = omega (arith, after, here) in
          record {
            next = at f.node (f.few + 1);
            calling = subst (λ v. Calls flat v n (at f.node (f.few + 1))) (sym f.p_is)
                (subst (λ v. Calls flat (at f.node f.few) v (at f.node (f.few + 1))) (sym operand)
                (calls f.node_is (fl.iteration less)));
            ahead = inr (
              record {
                node = f.node;
                few = f.few + 1;
                many = f.many + 1;
                least = f.least;
                most = f.most;
                operand = f.operand;
                p_is = refl;
                q_is = (caller_node c).5 ∙ (ap (λ v. at v (caller_node c).2) node ∙ ap (λ v. at f.node v) end);
                node_is = f.node_is;
                enough = omega (arith, enough);
                fewer = omega (arith, fewer);
                within = omega (arith, lt, here);
              },
              sym operand,
            );
          }
      by operand (inr none) =
          let enough = f.enough in
          let fewer = f.fewer in
          let here = step in
          let least = none.1 in
          let count : f.few ≡ f.many = omega (arith, enough, fewer, here, least) in
          let same : q ≡ p = f.q_is ∙ (ap (λ v. at f.node v) (sym count) ∙ sym f.p_is) in
          record { next = r; calling = subst (λ v. Calls flat v n r) same c; ahead = inl refl }

  pub ahead_call : {p q r : Dot} {n : ℕ} → IsAhead flat p q → Calls flat q n r → NextAhead p n r
  ahead_call {p} {q} {r} {n} (inl same) c =
      record { next = r; calling = subst (λ v. Calls flat v n r) (sym same) c; ahead = inl refl }
  ahead_call (inr f) c = fewer_call f c

  module _ (last : Dot → Bool) (marks : MarksLast flat last) where
    -- where something is left to do, so it is after fewer iterations
    pub fewer_not_last : {p q start : Dot} → (f : IsFewer flat p q) → Starts flat f.operand start → last p ≡ true
        → last q ≡ false → ⊥
    fewer_not_last {p} {q} {start} f begins is not = by (cases_lt f.few f.many)
      where
        by : (f.few < f.many) ⊎ (f.many ≤ f.few) → ⊥
        by (inl lt) =
            let within = f.within in
            marks.no_call p (at f.node (f.few + 1)) start f.operand is
            (subst (λ v. Calls flat v f.operand (at f.node (f.few + 1))) (sym f.p_is)
            (calls f.node_is (fl.iteration (omega (arith, lt, within))))) begins
        by (inr le) =
            let fewer = f.fewer in
            let count : f.few ≡ f.many = omega (arith, le, fewer) in
            let same : p ≡ q = f.p_is ∙ (ap (λ v. at f.node v) count ∙ sym f.q_is) in
            let both : true ≡ false = sym is ∙ (ap (λ v. last v) same ∙ not) in
            cc both

    -- a stack leads without a symbol to one that dominates
    pub record IsLedOver (s u : List Dot) : Type 0 where
      pub to : List Dot
      pub led_to : Led flat last (λ v. s ≡ v) to
      pub dominates : Dominates flat to u

    -- .. whose top is ahead
    pub record IsLedAhead (s : List Dot) (q : Dot) (t : List Dot) : Type 0 where
      pub top : Dot
      pub below : List Dot
      pub led_to : Led flat last (λ v. s ≡ v) (top ∷ below)
      pub ahead : IsAhead flat top q
      pub dominates : Dominates flat below t

    led_after : {s t u : List Dot} → Moves flat last s t → Led flat last (λ v. t ≡ v) u → Led flat last (λ v. s ≡ v) u
    led_after {s} m h =
        led_by flat last (λ b same. subst (λ v. Led flat last (λ w. s ≡ w) v) same (moves (led refl) m)) h

    pub led_ahead : (s : List Dot) (q : Dot) (t : List Dot) → Dominates flat s (q ∷ t) → IsLedAhead s q t
    led_ahead [] q t h = absurd (cc h)
    led_ahead (p ∷ s) q t (inl d) = by s d.0 d.1 (led_ahead s q t d.1)
      where
        by : (s : List Dot) → IsDoneAt flat p → Dominates flat s (q ∷ t) → IsLedAhead s q t → IsLedAhead (p ∷ s) q t
        by [] d h g = absurd (cc h)
        by (r ∷ s) d h g = record {
          top = g.top;
          below = g.below;
          led_to = led_after (st.return d) g.led_to;
          ahead = g.ahead;
          dominates = g.dominates;
        }
    led_ahead (p ∷ s) q t (inr h) =
        let both : q ∷ t ≡ h.0 ∷ h.1 = h.2 in
        let one : h.0 ≡ q = cc both in
        let rest : h.1 ≡ t = cc both in
        record {
          top = p;
          below = s;
          led_to = led refl;
          ahead = subst (λ v. IsAhead flat p v) one h.3;
          dominates = subst (λ v. Dominates flat s v) rest h.4;
        }

    -- a move of what is dominated
    after_call : (s : List Dot) {p q r : Dot} {n : ℕ} (below : List Dot) → IsLedAhead s q below → Calls flat q n r
        → Starts flat n p → (last r ≡ false) → IsLedOver s (p ∷ r ∷ below)
    after_call s {p} {q} {r} {n} below g c begins not = by (ahead_call g.ahead c)
      where
        into : (next : Dot) → Calls flat g.top n next → last next ≡ false → IsAhead flat next r
            → IsLedOver s (p ∷ r ∷ below)
        into next c is ahead = record {
          to = p ∷ next ∷ g.below;
          led_to = moves g.led_to (call c begins is);
          dominates = dominates_on p (next ∷ g.below) (r ∷ below) (inr (r, below, refl, ahead, g.dominates));
        }

        fewer : (next : Dot) → Calls flat g.top n next → (f : IsFewer flat next r) → f.operand ≡ n → (b : Bool)
            → last next ≡ b → IsLedOver s (p ∷ r ∷ below)
        fewer next c f same true is =
            absurd (fewer_not_last f (subst (λ v. Starts flat v p) (sym same) begins) is not)
        fewer next c f same false is = into next c is (inr f)

        by : NextAhead g.top n r → IsLedOver s (p ∷ r ∷ below)
        by a = which a.ahead
          where
            which : (a.next ≡ r) ⊎ ((f : IsFewer flat a.next r) × (f.operand ≡ n)) → IsLedOver s (p ∷ r ∷ below)
            which (inl same) = into a.next a.calling (ap (λ v. last v) same ∙ not) (inl same)
            which (inr f) = fewer a.next a.calling f.0 f.1 (last a.next) refl

    after_tail_call : (s : List Dot) {p q r : Dot} {n : ℕ} (below : List Dot) → IsLedAhead s q below → Calls flat q n r
        → Starts flat n p → (last r ≡ true) → IsLedOver s (p ∷ below)
    after_tail_call s {p} {q} {r} {n} below g c begins is = by (ahead_call g.ahead c)
      where
        which : (next : Dot) → Calls flat g.top n next → IsDoneAt flat next → (b : Bool) → last next ≡ b
            → IsLedOver s (p ∷ below)
        which next c d true is = record {
          to = p ∷ g.below;
          led_to = moves g.led_to (tail_call c begins is);
          dominates = dominates_on p g.below below g.dominates;
        }
        which next c d false is = record {
          to = p ∷ next ∷ g.below;
          led_to = moves g.led_to (call c begins is);
          dominates = dominates_on p (next ∷ g.below) below (inl (d, g.dominates));
        }

        ahead_of : (next : Dot) → (next ≡ r) ⊎ ((f : IsFewer flat next r) × (f.operand ≡ n)) → IsDoneAt flat next
        ahead_of next (inl same) = subst (λ v. IsDoneAt flat v) (sym same) (marks.done r is)
        ahead_of next (inr f) = fewer_done f.0

        by : NextAhead g.top n r → IsLedOver s (p ∷ below)
        by a = which a.next a.calling (ahead_of a.next a.ahead) (last a.next) refl

    after_return : (s : List Dot) {p r : Dot} (below : List Dot) → IsLedAhead s p (r ∷ below) → IsDoneAt flat p
        → IsLedOver s (r ∷ below)
    after_return s {p} {r} below g d = by g.top g.below g.led_to (ahead_done g.ahead d) g.dominates
      where
        by : (t : Dot) (rest : List Dot) → Led flat last (λ v. s ≡ v) (t ∷ rest) → IsDoneAt flat t
            → Dominates flat rest (r ∷ below) → IsLedOver s (r ∷ below)
        by t [] h d over = absurd (cc over)
        by t (u ∷ rest) h d over = record { to = u ∷ rest; led_to = moves h (st.return d); dominates = over }

    pub moves_over : (s : List Dot) {t u : List Dot} → Dominates flat s t → Moves flat last t u → IsLedOver s u
    moves_over s h (call {q = q} {below = below} c begins not) =
        after_call s below (led_ahead s q below h) c begins not
    moves_over s h (tail_call {q = q} {below = below} c begins is) =
        after_tail_call s below (led_ahead s q below h) c begins is
    moves_over s h (st.return {p = p} {r = r} {below = below} d) =
        after_return s below (led_ahead s p (r ∷ below) h) d

    -- one that dominates what ends comes to an end
    ends_alone : (p : Dot) (s : List Dot) → IsDoneAt flat p → Dominates flat s []
        → LedToEnd flat last (λ v. p ∷ s ≡ v)
    ends_alone p [] d h = record { position = p; led_to = led refl; done = d }
    ends_alone p (r ∷ s) d (inl h) =
        let e = ends_alone r s h.0 h.1 in
        record { position = e.position; led_to = led_after (st.return d) e.led_to; done = e.done }
    ends_alone p (r ∷ s) d (inr h) = absurd (let e = h.2 in cc e)

    pub ends_over_end : (s : List Dot) {p : Dot} → IsDoneAt flat p → Dominates flat s (p ∷ [])
        → LedToEnd flat last (λ v. s ≡ v)
    ends_over_end s {p} d h =
        let g = led_ahead s p [] h in
        let e = ends_alone g.top g.below (ahead_done g.ahead d) g.dominates in
        record {
          position = e.position;
          led_to = led_by flat last (λ b same. subst (λ v. Led flat last (λ w. s ≡ w) v) same g.led_to) e.led_to;
          done = e.done;
        }

    -- one that dominates what reads leads to one that reads
    pub record ReadsOver (s : List Dot) (q : Dot) (t : List Dot) : Type 0 where
      pub below : List Dot
      pub led_to : Led flat last (λ v. s ≡ v) (q ∷ below)
      pub dominates : Dominates flat below t

    pub reads_over : (s : List Dot) {q r : Dot} {set : Set} (t : List Dot) → Dominates flat s (q ∷ t)
        → Reads flat q set r → ReadsOver s q t
    reads_over s {q} t h rd =
        let g = led_ahead s q t h in
        record {
          below = g.below;
          led_to = subst (λ v. Led flat last (λ w. s ≡ w) (v ∷ g.below)) (ahead_of_reader g.ahead rd) g.led_to;
          dominates = g.dominates;
        }

  -- .. and if it reads itself, its top is the same
  pub same_reader : {p q r : Dot} {set : Set} (s t : List Dot) → IsReading flat (p ∷ s) → Dominates flat (p ∷ s) (q ∷ t)
      → Reads flat q set r → (p ≡ q) × Dominates flat s t
  same_reader {p} {q} s t reads_it (inl d) rd = absurd (by reads_it refl)
    where
      by : {a : List Dot} → IsReading flat a → a ≡ p ∷ s → ⊥
      by (reading {q = o} {r = n} {set = set} rd) same =
          let one : o ≡ p = cc same in
          reader_not_done (subst (λ v. Reads flat v set n) one rd) d.0
  same_reader {p} {q} {r} {set} s t reads_it (inr h) rd =
      let both : q ∷ t ≡ h.0 ∷ h.1 = h.2 in
      let one : q ≡ h.0 = cc both in
      let rest : h.1 ≡ t = cc both in (
        ahead_of_reader h.3 (subst (λ v. Reads flat v set r) one rd) ∙ sym one,
        subst (λ v. Dominates flat s v) rest h.4,
      )
