-- What items of a set await is awaited in rules under way.
-- Serves: items_decide.
use Rattle.std.proofs.Common.{◌≡◌, ◌⊎◌, inl, inr, ℕ, zero, suc, ◌+◌, ◌<◌, ◌≤◌, Bool, Some, List, [], ◌∷◌, ◌++◌, length}
use Rattle.std.proofs.Common.{take, refl, sym, subst, arith, ap, append_assoc}
use Rattle.std.proofs.lemmas.List.{append-nil, length-map, take-map}
use Rattle.std.specs.Prelude.{slice_get}
use Rattle.abnfread.specs.Element as e
use Rattle.abnfread.specs.Element.{Element, Elements, none, more, Rule, bodies, id_of}
use Rattle.abnfcheck.specs.Derivable.{AreLetters, DerivesAll, all_done, then}
use Rattle.abnfcheck.proofs.IsPathLemmas.{here, step, paths_join}
use Rattle.abnfcheck.proofs.LiesLemmas.{OnLine, Lies}
use Rattle.flatgrammar.specs.Flat as g
use Rattle.flatgrammar.specs.Flat.{Node, Flat, Dot, at, Set, Exactly, Calling, Starts, starts, name_starts, reads}
use Rattle.flatgrammar.specs.Flat.{Calls, calls}
use Rattle.flatgrammar.specs.OldItems as oi
use Rattle.flatgrammar.specs.OldItems.{IsNameNode, IsOld, HasPart}
use Rattle.flatgrammar.specs.Holds.{Holds, begins, called, has_read, returned}
use Rattle.flatgrammar.specs.Stacks.{node_at}
use Rattle.flatgrammar.proofs.SliceGetLemmas.{get_below}
use Rattle.lowering.specs.Lowered.{letter_set, Spells, spells, Shows, shows_text, shows_values, shows_range}
use Rattle.lowering.specs.Lowered.{shows_concat, shows_alt, shows_rep, shows_iterations, shows_opt, shows_name}
use Rattle.lowering.specs.Lowered.{spell_none, spell_more, IsLowered}
use Rattle.lowering.specs.AwaitedParts as w
use Rattle.lowering.specs.Lowered.{OperandAt}
use Rattle.lowering.specs.AwaitedParts.{Spans, no_symbol, symbol, Awaits, AwaitsNext, AwaitsSome, Begun, IsAwaited}
use Rattle.lowering.specs.AwaitedParts.{StandsIn, itself, inside}
use Rattle.lowering.proofs.BeforeLemmas.{Before, in_letters, in_concat, alt_begun, alt_done, in_rep, in_iterations}
use Rattle.lowering.proofs.BeforeLemmas.{opt_begun, first, nth, member_at, next_within, next_counted, iterations_most}
use Rattle.lowering.proofs.BeforeLemmas.{Fit, fit_none, fit_more, fit_text, fit_values}
use Rattle.lowering.proofs.CappedMostLemmas.{free_within}
use Rattle.lowering.proofs.OnLineLemmas.{lies_count, short_on_line}
use Rattle.lowering.proofs.ReachedLemmas.{Reached, holds_reached}

-- a node spells a part at a site of the rule's body
pub record IsPartNode (rules : List Rule) (flat : Flat) (rule : ℕ) (site : List ℕ) (p : Element) (s : ℕ) : Type 0 where
  pub top : ℕ
  pub top_is : slice_get flat.bodies rule ≡ Some top
  pub stands : StandsIn flat top site s
  pub spelled : Spells rules flat.limit flat.nodes s p

-- a part of a node is awaited
pub record IsNodeAwaited (has : ℕ → Bool) (rules : List Rule) (judged : ℕ) (flat : Flat) (x : List ℕ) (n s k : ℕ)
    : Type 0 where
  pub rule : ℕ
  pub site : List ℕ
  pub part : Element
  pub node : IsPartNode rules flat rule site part s
  pub awaited : IsAwaited has rules judged x n rule site part k

-- items of set n have a part at a site of a rule's body
pub record HavePart (rules : List Rule) (flat : Flat) (x : List ℕ) (n rule : ℕ) (site : List ℕ) (p : Element) (k : ℕ)
    : Type 0 where
  pub node : ℕ
  pub has_part : HasPart flat x n (IsOld flat x n) node k
  pub is : IsPartNode rules flat rule site p node

pub spans_lies : {x : List ℕ} {i j : ℕ} {w : List ℕ} → Spans x i w j → Lies x i w j
spans_lies no_symbol = here
spans_lies (symbol is s) = step (is, refl) (spans_lies s)

pub lies_spans : {x : List ℕ} {i j : ℕ} {w : List ℕ} → Lies x i w j → Spans x i w j
lies_spans here = no_symbol
lies_spans {x = x} {j = j} (step {w = w} is l) =
    symbol is.0 (subst (λ k. Spans x k w j) (sym is.1) (lies_spans l))

module _ (has : ℕ → Bool) (rules : List Rule) where
  next_awaits : (es : Elements) (k i : ℕ) {el p : Element} {w v z : List ℕ} {m : ℕ}
      → DerivesAll has rules (first k es) w
      → nth es k ≡ Some el → Awaits has rules el v z p m → AwaitsNext has rules es i (w ++ v) ((i + k) ∷ z) p m
  next_awaits none k i d is a = absurd (cc is)
  next_awaits (more e es) zero i {el = el} {p = p} {v = v} {z = z} {m = m} all_done is a =
      let same : el ≡ e = cc is in
      let on : i ≡ i + 0 = omega arith in
      subst (λ u. AwaitsNext has rules (more e es) i v (u ∷ z) p m) on
      (w.here (subst (λ u. Awaits has rules u v z p m) same a))
  next_awaits (more e es) (suc k) i {p = p} {v = v} {z = z} {m = m} (then {w = u} {v = u'} d ds) is a =
      let on : suc i + k ≡ i + suc k = omega arith in
      subst (λ y. AwaitsNext has rules (more e es) i y ((i + suc k) ∷ z) p m) (sym (append_assoc u u' v))
      (w.after d (subst (λ y. AwaitsNext has rules es (suc i) (u' ++ v) (y ∷ z) p m) on
      (next_awaits es k (suc i) ds is a)))

  some_awaits : (es : Elements) (k i : ℕ) {el p : Element} {v z : List ℕ} {m : ℕ} → nth es k ≡ Some el
      → Awaits has rules el v z p m → AwaitsSome has rules es i v ((i + k) ∷ z) p m
  some_awaits none k i is a = absurd (cc is)
  some_awaits (more e es) zero i {el = el} {p = p} {v = v} {z = z} {m = m} is a =
      let same : el ≡ e = cc is in
      let on : i ≡ i + 0 = omega arith in
      subst (λ u. AwaitsSome has rules (more e es) i v (u ∷ z) p m) on
      (w.this (subst (λ u. Awaits has rules u v z p m) same a))
  some_awaits (more e es) (suc k) i {p = p} {v = v} {z = z} {m = m} is a =
      let on : suc i + k ≡ i + suc k = omega arith in
      w.later (subst (λ y. AwaitsSome has rules es (suc i) v (y ∷ z) p m) on (some_awaits es k (suc i) is a))

  module _ (limit : ℕ) (nodes : List Node) where
    -- the element of a called node, which operand it is, and what is awaited in it
    pub record Called (node : Node) (el : Element) (t : ℕ) (w : List ℕ) : Type 0 where
      pub of : Element
      pub spelled : Spells rules limit nodes t of
      pub number : ℕ
      pub operand : OperandAt node number t
      pub up : (v z : List ℕ) (p : Element) (m : ℕ) → Awaits has rules of v z p m
          → Awaits has rules el (w ++ v) (number ∷ z) p m

    pub called_awaits : {node : Node} {el : Element} {k t l : ℕ} {w : List ℕ} → Calling node k t l
        → Shows rules limit nodes node el → Before has rules node el k w → length w ≤ limit → Called node el t w
    called_awaits {w = u} (Calling.member {k = k} {s = s} is) (shows_concat {es = es} all) (in_concat d) short =
        let h = member_at has rules limit nodes k s all is in
        let on : 0 + k ≡ k = omega arith in
        record {
          of = h.el;
          spelled = h.spelled;
          number = k;
          operand = is;
          up = λ v z p m aw.
              w.concat (subst (λ y. AwaitsNext has rules es 0 (u ++ v) (y ∷ z) p m) on (next_awaits es k 0 d h.is aw));
        }
    called_awaits (Calling.alternative {k = k} {s = s} is) (shows_alt {es = es} all) (alt_begun lt) short =
        let h = member_at has rules limit nodes k s all is in
        let on : 0 + k ≡ k = omega arith in
        record {
          of = h.el;
          spelled = h.spelled;
          number = k;
          operand = is;
          up = λ v z p m aw.
              w.alt (subst (λ y. AwaitsSome has rules es 0 v (y ∷ z) p m) on (some_awaits es k 0 h.is aw));
        }
    called_awaits (Calling.alternative {ms = ms} {k = k} is) (shows_alt all) (alt_done m same found d) short =
        absurd (let lt = get_below ms k is in omega (arith, lt, same))
    called_awaits (Calling.iteration {a = a} {k = k} {b = d} lt) (shows_rep {b = b} {el = el} least most bounds never s)
        (in_rep {j = j} ds is within) short =
        let few = iterations_most has rules never ds in
        let under : j ≤ limit = omega (arith, few, short) in
        record {
          of = el;
          spelled = s;
          number = 0;
          operand = (refl, refl);
          up = λ v z p m aw. w.rep bounds (next_within limit a j k b d most under lt is) ds aw;
        }
    called_awaits (Calling.iteration_uncounted {a = a}) (shows_rep {b = b} {el = el} least most bounds never s)
        (in_rep {j = j} ds is within) short =
        let few = iterations_most has rules never ds in
        let under : j ≤ limit = omega (arith, few, short) in
        record {
          of = el;
          spelled = s;
          number = 0;
          operand = (refl, refl);
          up = λ v z p m aw. w.rep bounds (free_within limit j b most under) ds aw;
        }
    called_awaits (Calling.takes {k = k} {b = d} lt) (shows_iterations {b = b} {el = el} most bounds empty s)
        (in_iterations {j = j} ds is few within) short =
        record {
          of = el;
          spelled = s;
          number = 0;
          operand = (refl, refl);
          up = λ v z p m aw. w.rep bounds (next_counted limit j k b d most lt is) ds aw;
        }
    called_awaits (Calling.takes_uncounted {m = m}) (shows_iterations {a = a} {b = b} {el = el} most bounds empty s)
        (in_iterations {j = j} ds is few within) short =
        record {
          of = el;
          spelled = s;
          number = 0;
          operand = (refl, refl);
          up = λ v z p m aw. w.rep bounds (free_within limit j b most (omega (arith, few, short))) ds aw;
        }
    called_awaits Calling.operand (shows_opt {el = el} s) opt_begun short =
        record { of = el; spelled = s; number = 0; operand = (refl, refl); up = λ v z p m aw. w.opt aw }

    fit_nothing : {left : List Set} {v : List ℕ} → left ≡ [] → Fit left v → v ≡ []
    fit_nothing same fit_none = refl
    fit_nothing same (fit_more h f) = absurd (cc same)

    -- a terminal of which the first k symbols are read
    pub terminal_awaits : {sets : List Set} {el : Element} {k : ℕ} {v : List ℕ} → Shows rules limit nodes
        (g.Letters sets) el → Before has rules (g.Letters sets) el k v → k < length sets
        → Awaits has rules el v [] el k
    terminal_awaits {sets = sets} {k = k} {v = v} (shows_text {folds = folds} {t = t} is) (in_letters f) lt =
        let fit = subst (λ u. Fit (take k u) v) is f in
        let some = subst (λ (u : List Set). k < length u) is lt in
        let count = length-map t (letter_set folds) in
        w.text (omega (arith, some, count))
        (fit_text folds (take k t) v (subst (λ u. Fit u v) (take-map (letter_set folds) k t) fit))
    terminal_awaits {sets = sets} {k = k} {v = v} (shows_values {vs = vs} is) (in_letters f) lt =
        let fit = subst (λ u. Fit (take k u) v) is f in
        let some = subst (λ (u : List Set). k < length u) is lt in
        let count = length-map vs Exactly in
        w.values (omega (arith, some, count))
        (fit_values (take k vs) v (subst (λ u. Fit u v) (take-map Exactly k vs) fit))
    terminal_awaits {k = k} {v = v} (shows_range {low = low} {high = high}) (in_letters f) lt =
        let none : k ≡ 0 = omega (arith, lt) in
        let unread : v ≡ [] = fit_nothing (ap (λ u. take u (g.Between low high ∷ [])) none) f in
        subst (λ u. Awaits has rules (e.Range low high) v [] (e.Range low high) u) (sym none)
        (subst (λ u. Awaits has rules (e.Range low high) u [] (e.Range low high) 0) (sym unread) w.range)

stands_on : (flat : Flat) {s t m : ℕ} (i : ℕ) {z : List ℕ} {node : Node} → StandsIn flat s z t
    → slice_get flat.nodes t ≡ Some node → OperandAt node i m → StandsIn flat s (z ++ i ∷ []) m
stands_on flat i itself is op = inside is op itself
stands_on flat i (inside at_s o stands) is op = inside at_s o (stands_on flat i stands is op)

module _ (has : ℕ → Bool) (rules : List Rule) (judged : ℕ) (flat : Flat) (lowered : IsLowered rules judged flat)
    (x : List ℕ) (line : length x ≤ flat.limit) (letters : AreLetters has x) where
  abbrev Spelt : ℕ → Element → Type 0
  Spelt s el = Spells rules flat.limit flat.nodes s el

  -- a node begins at i in a rule that is under way from `start` on
  pub record Under (i s rule start : ℕ) : Type 0 where
    pub begun : Begun has rules judged x rule start
    pub body : Element
    pub body_is : slice_get (bodies rules) rule ≡ Some body
    pub top : ℕ
    pub top_is : slice_get flat.bodies rule ≡ Some top
    pub word : List ℕ
    pub lies : Lies x start word i
    pub site : List ℕ
    pub stands : StandsIn flat top site s
    pub el : Element
    pub spelled : Spelt s el
    pub up : (v z : List ℕ) (p : Element) (m : ℕ) → Awaits has rules el v z p m
        → Awaits has rules body (word ++ v) (site ++ z) p m

  -- .. or it is the augmented start
  abbrev UnderOrStart : ℕ → ℕ → ℕ → ℕ → Type 0
  UnderOrStart i s rule start = ((s ≡ flat.start) × (rule ≡ judged) × (start ≡ 0) × (i ≡ 0)) ⊎ Under i s rule start

  record UnderSome (i s : ℕ) : Type 0 where
    rule : ℕ
    start : ℕ
    is : UnderOrStart i s rule start

  abbrev UnderAt : ℕ → Dot → Type 0
  UnderAt i (at s k) = UnderSome i s

  of_one : {el p : Element} {v z : List ℕ} {i m : ℕ} → Awaits has rules (e.Concat (more el none)) v (i ∷ z) p m
      → Awaits has rules el v z p m
  of_one (w.concat (w.here a)) = a
  of_one (w.concat (w.after d a)) = elim a [ ]

  begun_under : {p : Dot} → Starts flat flat.start p → UnderAt 0 p
  begun_under (starts is b) = record { rule = judged; start = 0; is = inl (refl, refl, refl, refl) }
  begun_under (name_starts is at_r st) = absurd (cc (is, lowered.whole))

  of_body : {k t l : ℕ} → Calling (g.Concat (lowered.body ∷ [])) k t l → (t ≡ lowered.body) × (k ≡ 0)
  of_body (Calling.member {k = zero} is) = (cc is, refl)
  of_body (Calling.member {k = suc k} is) = absurd (cc is)

  nothing_before : {k : ℕ} {es : Elements} {v : List ℕ} → Before has rules (g.Concat (lowered.body ∷ [])) (e.Concat es)
      k v
      → k ≡ 0 → v ≡ []
  nothing_before (in_concat {k = zero} all_done) begun = refl
  nothing_before (in_concat {k = suc k} d) begun = absurd (omega (arith, begun))

  -- a called node, in the same rule
  callee_under : {i j rule start t : ℕ} {q r : Dot} → Holds flat x j q i → Calls flat q t r
      → UnderOrStart i (node_at q) rule start → Under j t rule start
  callee_under {i = i} {j = j} {rule = rule} {start = start} {t = t} h
      (calls {s = s} {k = k} {t = callee} {l = l} {node = outer} at_s c) (inl (s_is, is_judged, from_zero, at_zero)) =
      let whole : outer ≡ g.Concat (lowered.body ∷ []) =
      cc (at_s, subst (λ v. slice_get flat.nodes v ≡ Some (g.Concat (lowered.body ∷ []))) (sym s_is) lowered.whole) in
      let call = of_body (subst (λ (v : Node). Calling v k callee l) whole c) in
      let body = lowered.spelled.spelled judged lowered.body lowered.body_is in
      let shown = shows_concat (spell_more body.2 spell_none) in
      let before = reached.part (g.Concat (lowered.body ∷ [])) (e.Concat (more body.0 none))
      (subst (λ v. slice_get flat.nodes s ≡ Some v) whole at_s) shown in
      let unread = nothing_before before call.1 in
      let is_body : callee ≡ lowered.body = call.0 in
      let from : i ≡ start = omega (arith, from_zero, at_zero) in
      record {
        begun = subst (λ v. Begun has rules judged x v start) (sym is_judged)
            (subst (λ v. Begun has rules judged x judged v) (sym from_zero) w.judged_rule);
        body = body.0;
        body_is = subst (λ v. slice_get (bodies rules) v ≡ Some body.0) (sym is_judged) body.1;
        top = lowered.body;
        top_is = subst (λ v. slice_get flat.bodies v ≡ Some lowered.body) (sym is_judged) lowered.body_is;
        word = [];
        lies = subst (λ v. Lies x v [] j) from (subst (λ v. Lies x i v j) unread reached.lies);
        site = [];
        stands = subst (λ v. StandsIn flat lowered.body [] v) (sym is_body) itself;
        el = body.0;
        spelled = subst (λ v. Spelt v body.0) (sym is_body) body.2;
        up = λ v z p m a. a;
      }
    where
      reached : Reached has rules flat.limit flat lowered.spelled x letters line i j (at s k)
      reached = holds_reached has rules flat.limit flat lowered.spelled x letters line h
  callee_under {i = i} {j = j} {rule = rule} {start = start} {t = t} h
      (calls {s = s} {k = k} {t = callee} {l = l} {node = outer} at_s c) (inr u) = by u.spelled
    where
      reached : Reached has rules flat.limit flat lowered.spelled x letters line i j (at s k)
      reached = holds_reached has rules flat.limit flat lowered.spelled x letters line h

      by : Spelt s u.el → Under j t rule start
      by (spells {node = node} is shown) =
          let same : outer ≡ node = cc (at_s, is) in
          let call = subst (λ v. Calling v k callee l) same c in
          let part = called_awaits has rules flat.limit flat.nodes call shown (reached.part node u.el is shown)
          (let few = short_on_line x reached.lies in omega (arith, few, line)) in
          record {
            begun = u.begun;
            body = u.body;
            body_is = u.body_is;
            top = u.top;
            top_is = u.top_is;
            word = u.word ++ reached.word;
            lies = paths_join (OnLine x) u.lies reached.lies;
            site = u.site ++ part.number ∷ [];
            stands = stands_on flat part.number u.stands is part.operand;
            el = part.of;
            spelled = part.spelled;
            up = λ v z p m a.
                subst (λ y. Awaits has rules u.body y ((u.site ++ part.number ∷ []) ++ z) p m)
                (sym (append_assoc u.word reached.word v))
                (subst (λ y. Awaits has rules u.body (u.word ++ (reached.word ++ v)) y p m)
                (sym (append_assoc u.site (part.number ∷ []) z))
                (u.up (reached.word ++ v) (part.number ∷ z) p m (part.up v z p m a)));
          }

  -- where a node starts
  goes_under : {j s t k rule start : ℕ} → Starts flat s (at t k) → Under j s rule start → UnderSome j t
  goes_under {rule = rule} {start = start} (starts is b) u = record { rule = rule; start = start; is = inr u }
  goes_under {j = j} (name_starts {s = s} {t = body} {r = r} is at_r st) u = goes_under st (entered u.spelled u.up)
    where
      of_name : {el : Element} → Shows rules flat.limit flat.nodes (g.Name r) el
          → ((v z : List ℕ) (p : Element) (m : ℕ) → Awaits has rules el v z p m
          → Awaits has rules u.body (u.word ++ v) (u.site ++ z) p m) → Under j body r j
      of_name (shows_name {n = n} {r = r} found) up =
          let inner = lowered.spelled.spelled r body at_r in
          record {
            begun = subst (λ v. Begun has rules judged x v j) (sym found)
                (w.named u.begun u.body_is (lies_spans u.lies)
                (subst (λ v. Awaits has rules u.body v (u.site ++ []) (e.Name n) 0) (append-nil u.word)
                (up [] [] (e.Name n) 0 w.name)));
            body = inner.0;
            body_is = inner.1;
            top = body;
            top_is = at_r;
            word = [];
            lies = here;
            site = [];
            stands = itself;
            el = inner.0;
            spelled = inner.2;
            up = λ v z p m a. a;
          }

      entered : {el : Element} → Spelt s el → ((v z : List ℕ) (p : Element) (m : ℕ) → Awaits has rules el v z p m
          → Awaits has rules u.body (u.word ++ v) (u.site ++ z) p m) → Under j body r j
      entered (spells {node = node} {el = el} is' shown) up =
          let same : node ≡ g.Name r = cc (is, is') in
          of_name (subst (λ (v : Node). Shows rules flat.limit flat.nodes v el) same shown) up

  under_at : {i j : ℕ} {p : Dot} → Holds flat x j p i → UnderAt i p
  under_at (begins st) = begun_under st
  under_at {j = j} {p = at t k} (called {i = i} {q = at m l} h c st) =
      let u = under_at h in goes_under st (callee_under h c u.is)
  under_at (has_read h (reads is r) letter lies) = under_at h
  under_at (returned h e g (calls is c) takes) = under_at g

  module _ (n : ℕ) where
    -- .. and that rule began before, or is the judged one at the first position
    record UnderOld (i s : ℕ) : Type 0 where
      rule : ℕ
      start : ℕ
      is : UnderOrStart i s rule start
      old : (start < n) ⊎ ((n ≡ 0) × (rule ≡ judged) × (start ≡ 0))

    not_later : {i s rule start : ℕ} → UnderOrStart i s rule start → start ≤ i
    not_later (inl (s_is, is_judged, from_zero, at_zero)) = omega (arith, from_zero, at_zero)
    not_later (inr u) = let past = lies_count x u.lies in omega (arith, past)

    old_under : {i s k : ℕ} → Holds flat x n (at s k) i → IsOld flat x n s i → UnderOld i s
    old_under {i = i} h (oi.before lt) =
        let u = under_at h in
        let past = not_later u.is in
        record { rule = u.rule; start = u.start; is = u.is; old = inl (omega (arith, lt, past)) }
    old_under h (oi.whole is) =
        record { rule = judged; start = 0; is = inl (refl, refl, refl, refl); old = inr (is, refl, refl) }
    old_under h (oi.entered {q = at m l} above old c other) =
        let u = old_under above old in
        record { rule = u.rule; start = u.start; is = inr (callee_under above c u.is); old = u.old }

    abbrev FoundPart : ℕ → ℕ → Type 0
    FoundPart s k = IsNodeAwaited has rules judged flat x n s k

    in_rule : {i s rule start : ℕ} {sets : List Set} → UnderOrStart i s rule start
        → slice_get flat.nodes s ≡ Some (g.Letters sets) → Under i s rule start
    in_rule (inr u) is = u
    in_rule {s = s} (inl (s_is, is_judged, from_zero, at_zero)) is = absurd (cc (is, s_is, lowered.whole))

    reading_part : {i s k : ℕ} {sets : List Set} → Holds flat x n (at s k) i → IsOld flat x n s i
        → slice_get flat.nodes s ≡ Some (g.Letters sets) → k < length sets → FoundPart s k
    reading_part {i = i} {s = s} {k = k} {sets = sets} h old is lt = by u.spelled
      where
        above : UnderOld i s
        above = old_under h old

        u : Under i s above.rule above.start
        u = in_rule above.is is

        reached : Reached has rules flat.limit flat lowered.spelled x letters line i n (at s k)
        reached = holds_reached has rules flat.limit flat lowered.spelled x letters line h

        by : Spelt s u.el → FoundPart s k
        by (spells {node = node} is' shown) =
            let same : node ≡ g.Letters sets = cc (is, is') in
            let shows = subst (λ (v : Node). Shows rules flat.limit flat.nodes v u.el) same shown in
            let part = reached.part (g.Letters sets) u.el is shows in
            record {
              rule = above.rule;
              site = u.site;
              part = u.el;
              node = record { top = u.top; top_is = u.top_is; stands = u.stands; spelled = u.spelled };
              awaited = record {
                start = above.start;
                begun = u.begun;
                underway = above.old;
                body = u.body;
                body_is = u.body_is;
                word = u.word ++ reached.word;
                spans = lies_spans (paths_join (OnLine x) u.lies reached.lies);
                awaits = subst (λ y. Awaits has rules u.body (u.word ++ reached.word) y u.el k) (append-nil u.site)
                    (u.up reached.word [] u.el k (terminal_awaits has rules flat.limit flat.nodes shows part lt));
              };
            }

    called_part : {i s : ℕ} {q r : Dot} → Holds flat x n q i → IsOld flat x n (node_at q) i → Calls flat q s r
        → IsNameNode flat s → FoundPart s 0
    called_part {i = i} {s = s} {q = at m l} h old c name = by u.spelled u.up
      where
        above : UnderOld i m
        above = old_under h old

        u : Under n s above.rule above.start
        u = callee_under h c above.is

        of_name : {el : Element} → Spelt s el → Shows rules flat.limit flat.nodes (g.Name name.0) el
            → ((v z : List ℕ) (p : Element) (m : ℕ) → Awaits has rules el v z p m
            → Awaits has rules u.body (u.word ++ v) (u.site ++ z) p m) → FoundPart s 0
        of_name sp (shows_name {n = name'} found) up = record {
          rule = above.rule;
          site = u.site;
          part = e.Name name';
          node = record { top = u.top; top_is = u.top_is; stands = u.stands; spelled = sp };
          awaited = record {
            start = above.start;
            begun = u.begun;
            underway = above.old;
            body = u.body;
            body_is = u.body_is;
            word = u.word;
            spans = lies_spans u.lies;
            awaits = subst (λ y. Awaits has rules u.body u.word y (e.Name name') 0) (append-nil u.site)
                (subst (λ v. Awaits has rules u.body v (u.site ++ []) (e.Name name') 0) (append-nil u.word)
                (up [] [] (e.Name name') 0 w.name));
          };
        }

        by : {el : Element} → Spelt s el → ((v z : List ℕ) (p : Element) (m : ℕ) → Awaits has rules el v z p m
            → Awaits has rules u.body (u.word ++ v) (u.site ++ z) p m) → FoundPart s 0
        by (spells {node = node} {el = el} is' shown) up =
            let same : node ≡ g.Name name.0 = cc (name.1, is') in
            of_name (spells is' shown) (subst (λ (v : Node). Shows rules flat.limit flat.nodes v el) same shown) up

    pub part_awaited : {s k : ℕ} → HasPart flat x n (IsOld flat x n) s k → FoundPart s k
    part_awaited (oi.reads h old is lt) = reading_part h old is lt
    part_awaited (oi.calls h old c name) = called_part h old c name
