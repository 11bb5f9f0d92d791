-- Whatever stands in an item set goes on to a list that the judged rule derives.
-- Serves: lower_viable.
use Rattle.std.proofs.Common.{◌≡◌, ℕ, zero, suc, ◌+◌, ◌<◌, ◌≤◌, Bool, Some, List, [], ◌∷◌, ◌++◌, length, take, sym, ◌∙◌}
use Rattle.std.proofs.Common.{ap, subst, arith, append_assoc}
use Rattle.std.specs.Prelude.{slice_get}
use Rattle.std.proofs.lemmas.List.{append-nil}
use Rattle.abnfread.specs.Element as e
use Rattle.abnfread.specs.Element.{Element, Rule, bodies, body_of, none, more}
use Rattle.abnfcheck.specs.Prefixes.{BeginsMember}
use Rattle.abnfcheck.specs.Derivable as der
use Rattle.abnfcheck.specs.Derivable.{AreLetters, Derives, DerivesAll, all_done, then, RuleDerives}
use Rattle.abnfcheck.proofs.IsPathLemmas.{here, step}
use Rattle.abnfcheck.proofs.LiesLemmas.{Lies, are_letters}
use Rattle.abnfcheck.proofs.YieldsLemmas.{letters_both}
use Rattle.flatgrammar.specs.Flat.{Node, Flat, Name, Dot, at, Calling, Starts, starts, name_starts, reads, Calls}
use Rattle.flatgrammar.specs.Flat.{calls}
use Rattle.flatgrammar.specs.Holds.{Holds, begins, called, has_read, returned}
use Rattle.lowering.specs.Lowered.{Spells, spells, Shows, shows_name, shows_concat, spell_none, spell_more}
use Rattle.lowering.specs.Lowered.{IsLowered}
use Rattle.flatgrammar.specs.Positions.{width}
use Rattle.flatgrammar.specs.Holds.{HasItem}
use Rattle.lowering.proofs.OnLineLemmas.{short_on_line}
use Rattle.flatgrammar.proofs.PositionsLemmas.{holds_position, calling_within}
use Rattle.lowering.proofs.ReachedLemmas.{Reached, holds_reached}
use Rattle.lowering.proofs.RuleNodeLemmas.{body_of_number}
use Rattle.lowering.specs.Pruned.{IsProductive}
use Rattle.lowering.proofs.LiveLemmas.{IsLive, live_concat, live_name, no_live, more_live, goes_on, part_of}

lies_take : (x : List ℕ) (i j : ℕ) (w : List ℕ) → Lies x i w j → take j x ≡ take i x ++ w
lies_take x i j [] here = sym (append-nil (take i x))
lies_take x i j (c ∷ w) (step on l) =
    lies_take x (i + 1) j w (subst (λ k. Lies x k w j) (sym on.1) l)
    ∙ (ap (λ v. v ++ w) (one x i c on.0) ∙ append_assoc (take i x) (c ∷ []) w)
  where
    one : (x : List ℕ) (i c : ℕ) → slice_get x i ≡ Some c → take (i + 1) x ≡ take i x ++ c ∷ []
    one [] i c is = absurd (cc is)
    one (b ∷ x) zero c is = let same : b ≡ c = cc is in ap (λ v. v ∷ []) same
    one (b ∷ x) (suc i) c is = let on : suc i + 1 ≡ suc (i + 1) = omega arith in ap (λ k. take k (b ∷ x)) on
        ∙ ap (λ v. b ∷ v) (one x i c is)

lies_joined : (x : List ℕ) (i j : ℕ) (w v f z : List ℕ) → Lies x i w j
    → (take i x ++ ((w ++ v) ++ f)) ++ z ≡ (take j x ++ v)
    ++ (f ++ z)
lies_joined x i j w v f z l = rw (lies_take x i j w l) (same (take i x) w v f z)
  where
    same : (a w v f z : List ℕ) → (a ++ ((w ++ v) ++ f)) ++ z ≡ ((a ++ w) ++ v) ++ (f ++ z)
    same a w v f z =
        ap (λ u. (a ++ u) ++ z) (append_assoc w v f) ∙ (ap (λ u. u ++ z) (sym (append_assoc a w (v ++ f))) ∙
        (append_assoc (a ++ w) (v ++ f) z ∙ (ap (λ u. (a ++ w) ++ u) (append_assoc v f z)
        ∙ sym (append_assoc (a ++ w) v (f ++ z)))))

joined_one : (x : List ℕ) (i j : ℕ) (w f z : List ℕ) → Lies x i w j → (take i x ++ (w ++ f)) ++ z ≡ take j x ++ (f ++ z)
joined_one x i j w f z l = rw (lies_take x i j w l) (same (take i x) w f z)
  where
    same : (a w f z : List ℕ) → (a ++ (w ++ f)) ++ z ≡ (a ++ w) ++ (f ++ z)
    same a w f z = ap (λ u. u ++ z) (sym (append_assoc a w f)) ∙ append_assoc (a ++ w) f z

-- the bodies of productive names, and that of the judged rule, have productive parts alone
pub record AreLiveBodies (has : ℕ → Bool) (rules : List Rule) (judged : ℕ) : Type 0 where
  pub named : (n : List ℕ) (el : Element) → body_of rules n ≡ Some el → IsProductive has rules el → IsLive has rules el
  pub whole : (el : Element) → slice_get (bodies rules) judged ≡ Some el → IsProductive has rules el
      × IsLive has rules el

module _ (has : ℕ → Bool) (rules : List Rule) (judged : ℕ) (flat : Flat) (lowered : IsLowered rules judged flat)
    (live : AreLiveBodies has rules judged) (x : List ℕ) (line : length x ≤ flat.limit)
    (letters : AreLetters has x) where
  derives_moved : {v w : List ℕ} → v ≡ w → RuleDerives has rules judged v → RuleDerives has rules judged w
  derives_moved same d = subst (λ z. RuleDerives has rules judged z) same d

  record BeginsAfter (i : ℕ) (v : List ℕ) : Type 0 where
    tail : List ℕ
    tail_letters : AreLetters has tail
    derived : RuleDerives has rules judged ((take i x ++ v) ++ tail)

  -- node s spells an element in whose dotted rule whatever it derives from i on goes on to a list that the judged rule
  -- derives
  record Context (i s : ℕ) : Type 0 where
    el : Element
    spelled : Spells rules flat.limit flat.nodes s el
    alive : IsLive has rules el
    on : (v : List ℕ) → AreLetters has v → Derives has rules el v → BeginsAfter i v

  abbrev ContextAt : ℕ → Dot → Type 0
  ContextAt i (at s k) = Context i s

  -- where a node starts in another, what is derived there is derived by the other's element
  record Into (el : Element) (t : ℕ) : Type 0 where
    of : Element
    spelled : Spells rules flat.limit flat.nodes t of
    alive : IsLive has rules of
    up : (v : List ℕ) → Derives has rules of v → Derives has rules el v

  goes_into : {s t k : ℕ} {el : Element} → Starts flat s (at t k) → Spells rules flat.limit flat.nodes s el
      → IsLive has rules el → Into el t
  goes_into {el = el} (starts is b) sp l = record { of = el; spelled = sp; alive = l; up = λ v d. d }
  goes_into {t = t} {el = el} (name_starts {t = t'} {r = r} is at_r st) (spells {node = node} is' shown) l =
      by (let same : node ≡ Name r = cc (is, is') in subst (λ v. Shows rules flat.limit flat.nodes v el) same shown) l
      (λ body spelled alive. goes_into {el = body} st spelled alive)
    where
      inner : {n : List ℕ} (body : Element) → body_of rules n ≡ Some body → IsProductive has rules (e.Name n)
          → IsLive has rules body
      inner {n = n} body is p = of p.letters p.derives
        where
          of : {w : List ℕ} → AreLetters has w → Derives has rules (e.Name n) w → IsLive has rules body
          of all (der.name {e = other} {w = w} found d) =
              let same : other ≡ body = cc (found, is) in
              live.named n body is (record {
                word = w;
                letters = all;
                derives = subst (λ v. Derives has rules v w) same d;
              })

      by : {el : Element} → Shows rules flat.limit flat.nodes (Name r) el → IsLive has rules el →
          ((body : Element) → Spells rules flat.limit flat.nodes t' body → IsLive has rules body → Into body t)
          → Into el t
      by (shows_name {n = n} found) (live_name p) rec =
          let body = body_of_number rules flat.limit flat.nodes flat.bodies lowered.spelled n r t' found at_r in
          let inside = rec body.0 body.2 (inner body.0 body.1 p) in
          record {
            of = inside.of;
            spelled = inside.spelled;
            alive = inside.alive;
            up = λ v d. der.name body.1 (inside.up v d);
          }

  begun_context : {p : Dot} → Starts flat flat.start p → ContextAt 0 p
  begun_context {p = at t k} st =
      let body = lowered.spelled.spelled judged lowered.body lowered.body_is in
      let alive = live.whole body.0 body.1 in
      let inside = goes_into st (spells lowered.whole (shows_concat (spell_more body.2 spell_none)))
      (live_concat (more_live alive.0 alive.1 no_live)) in
      record {
        el = inside.of;
        spelled = inside.spelled;
        alive = inside.alive;
        on = λ v all d. record {
          tail = [];
          tail_letters = tt;
          derived = record {
            body = body.0;
            is = body.1;
            derives = subst (λ u. Derives has rules body.0 u) (sym (append-nil v)) (one (inside.up v d));
          };
        };
      }
    where
      alone : {el : Element} {w : List ℕ} → DerivesAll has rules (more el none) w → Derives has rules el w
      alone {el = el} (then {w = w} d all_done) = subst (λ v. Derives has rules el v) (sym (append-nil w)) d

      one : {el : Element} {w : List ℕ} → Derives has rules (e.Concat (more el none)) w → Derives has rules el w
      one (der.concat d) = alone d

  called_context : {i j s : ℕ} {p q r : Dot} → Holds flat x j q i → Calls flat q s r → Starts flat s p → ContextAt i q
      → ContextAt j p
  called_context {i = i} {j = j} {p = at t m} h (calls {s = u} {k = k} {t = callee} {l = l} {node = outer} at_u c) st
      context = by context.spelled
    where
      reached : Reached has rules flat.limit flat lowered.spelled x letters line i j (at u k)
      reached = holds_reached has rules flat.limit flat lowered.spelled x letters line h

      by : Spells rules flat.limit flat.nodes u context.el → Context j t
      by (spells {node = node} is shown) =
          let same : outer ≡ node = cc (at_u, is) in
          let call = subst (λ v. Calling v k callee l) same c in
          let part = part_of has rules flat.limit flat.nodes call shown context.alive
          (reached.part node context.el is shown)
          (let few = short_on_line x reached.lies in omega (arith, few, line)) in
          let inside = goes_into st part.spelled part.live in
          record {
            el = inside.of;
            spelled = inside.spelled;
            alive = inside.alive;
            on = λ v all d.
                let before = part.on v (inside.up v d) in
                let both = letters_both has reached.word v (are_letters x has letters reached.lies) all in
                let f = goes_on has rules flat.limit flat.nodes shown context.alive (calling_within flat call) both
                before in
                let on = context.on ((reached.word ++ v) ++ f.rest)
                (letters_both has (reached.word ++ v) f.rest both f.letters) f.derives in
                record {
                  tail = f.rest ++ on.tail;
                  tail_letters = letters_both has f.rest on.tail f.letters on.tail_letters;
                  derived = derives_moved {v = (take i x ++ ((reached.word ++ v) ++ f.rest)) ++ on.tail}
                      {w = (take j x ++ v) ++ (f.rest ++ on.tail)}
                      (lies_joined x i j reached.word v f.rest on.tail reached.lies) on.derived;
                };
          }

  context_at : {i j : ℕ} {p : Dot} → Holds flat x j p i → ContextAt i p
  context_at (begins st) = begun_context st
  context_at (called h c st) = called_context h c st (context_at h)
  context_at (has_read h (reads is r) letter lies) = context_at h
  context_at (returned h e g (calls is c) takes) = context_at g

  pub items_go_on : (j : ℕ) → HasItem flat x j → BeginsMember has rules judged x j
  items_go_on j h = by h.position h.origin h.held
    where
      by : (p : Dot) (i : ℕ) → Holds flat x j p i → BeginsMember has rules judged x j
      by (at s k) i held = own (context_at held).spelled
        where
          position : (node : Node) × (slice_get flat.nodes s ≡ Some node) × (k < width node)
          position = holds_position flat held

          reached : Reached has rules flat.limit flat lowered.spelled x letters line i j (at s k)
          reached = holds_reached has rules flat.limit flat lowered.spelled x letters line held

          there : Context i s
          there = context_at held

          own : Spells rules flat.limit flat.nodes s there.el → BeginsMember has rules judged x j
          own (spells {node = node} is shown) =
              let same : position.0 ≡ node = cc (position.1, is) in
              let lt = subst (λ v. k < width v) same position.2 in
              let all = are_letters x has letters reached.lies in
              let f = goes_on has rules flat.limit flat.nodes shown there.alive lt all
              (reached.part node there.el is shown) in
              let on = there.on (reached.word ++ f.rest) (letters_both has reached.word f.rest all f.letters)
              f.derives in
              record {
                rest = f.rest ++ on.tail;
                letters = letters_both has f.rest on.tail f.letters on.tail_letters;
                derives = derives_moved {v = (take i x ++ (reached.word ++ f.rest)) ++ on.tail}
                    {w = take j x ++ (f.rest ++ on.tail)}
                    (joined_one x i j reached.word f.rest on.tail reached.lies) on.derived;
              }
