-- What is awaited in rules under way, items of a set await.
-- Serves: items_decide.
use Rattle.std.proofs.Common.{◌≡◌, ◌↔◌, ◌⊎◌, inl, inr, ℕ, zero, suc, ◌+◌, ◌<◌, ◌≤◌, Bool, true, false, Option, Some}
use Rattle.std.proofs.Common.{None, List, [], ◌∷◌, ◌++◌, length, map, take, drop, refl, sym, ◌∙◌, subst, arith, ap}
use Rattle.std.proofs.lemmas.Bool.{cases_lt}
use Rattle.std.proofs.lemmas.List.{take-map, length-map}
use Rattle.std.specs.Prelude.{slice_get}
use Rattle.abnfread.specs.Element as e
use Rattle.abnfread.specs.Element.{Element, Elements, Rule, bodies, id_of}
use Rattle.abnfcheck.specs.Derivable as der
use Rattle.abnfcheck.specs.Derivable.{AreLetters, DerivesTimes, no_more, one_more}
use Rattle.abnfcheck.proofs.IsPathLemmas.{here, step, path_splits}
use Rattle.abnfcheck.proofs.LiesLemmas.{OnLine, Lies}
use Rattle.flatgrammar.specs.Flat as g
use Rattle.flatgrammar.specs.Flat.{Node, Flat, Dot, at, Set, Exactly, Calling, Reading, Starts, starts, name_starts}
use Rattle.flatgrammar.specs.Flat.{Begins, Calls, calls, reads, IsTaking}
use Rattle.flatgrammar.specs.OldItems as oi
use Rattle.flatgrammar.specs.OldItems.{IsNameNode, IsOld, HasPart}
use Rattle.flatgrammar.specs.Holds.{Holds, begins, called, has_read}
use Rattle.flatgrammar.specs.Stacks.{node_at}
use Rattle.lowering.specs.Lowered.{letter_set, capped_most, Spells, spells, Shows, shows_text, shows_values}
use Rattle.lowering.specs.Lowered.{shows_range, shows_concat, shows_alt, shows_rep, shows_iterations, shows_opt}
use Rattle.lowering.specs.Lowered.{shows_name, SpellAll, shows_reversed, spell_more, IsLowered}
use Rattle.lowering.specs.AwaitedParts as w
use Rattle.lowering.specs.Lowered.{ArePlaced, OperandAt}
use Rattle.lowering.specs.AwaitedParts.{Spans, Awaits, AwaitsNext, AwaitsSome, Begun, IsAwaited, StandsIn, itself}
use Rattle.lowering.specs.AwaitedParts.{inside}
use Rattle.lowering.proofs.AwaitsLemmas.{HavePart, IsNodeAwaited, part_awaited, spans_lies}
use Rattle.lowering.proofs.BeforeLemmas.{Fit, fit_none, fit_more, text_fits, values_fit, Turned, turned_none}
use Rattle.lowering.proofs.CappedMostLemmas.{most_is}
use Rattle.lowering.proofs.NodeRunsLemmas.{next_of, iteration_on, call_step, plain_node, node_runs, run_times}
use Rattle.lowering.proofs.NodeRunsLemmas.{run_iterations}
use Rattle.lowering.proofs.OnLineLemmas.{lies_count, short_on_line}
use Rattle.lowering.proofs.RuleNodeLemmas.{HasNode, node_of_rule}

-- a bound of iterations holds for its cap
pub cap_at_most : (limit : ℕ) (b d : Option ℕ) (k : ℕ) → d ≡ capped_most limit b → der.AtMost k b → der.AtMost k d
cap_at_most limit b None k is within = tt
cap_at_most limit None (Some d) k is within = absurd (cc is)
cap_at_most limit (Some b) (Some d) k is within =
    let one : Some b ≡ Some d = most_is limit (Some b) d is in
    let same : b ≡ d = cc one in
    omega (arith, same, within)

one_fewer : (j : ℕ) (b : Option ℕ) → der.AtMost (suc j) b → der.AtMost j b
one_fewer j None h = tt
one_fewer j (Some b) h = omega (arith, h)

-- a further iteration that takes a letter
takes_next : (count f m : ℕ) (d : Option ℕ) → Turned 0 d count f → der.AtMost (suc count) d
    → (l : ℕ) × Calling (Node.Iterations d m) f m l
takes_next count f m None turned within =
    let zero_is : 0 ≡ f = omega (arith, turned) in
    (0, subst (λ v. Calling (Node.Iterations None m) v m 0) zero_is Calling.takes_uncounted)
takes_next count f m (Some d) turned within = (f + 1, Calling.takes (omega (arith, turned, within)))

operand_one : (node : Node) (i m n : ℕ) → OperandAt node i m → OperandAt node i n → m ≡ n
operand_one (g.Letters sets) i m n h o = absurd h
operand_one (g.Concat ms) i m n h o = cc (h, o)
operand_one (g.Alt ms) i m n h o = cc (h, o)
operand_one (g.Rep a b d) i m n h o = h.1 ∙ sym o.1
operand_one (g.Iterations b d) i m n h o = h.1 ∙ sym o.1
operand_one (g.Opt d) i m n h o = h.1 ∙ sym o.1
operand_one (g.Name r) i m n h o = absurd h
operand_one g.Nothing i m n h o = absurd h

-- what stands at one site is one node
stands_one : (flat : Flat) {s t u : ℕ} {z : List ℕ} → StandsIn flat s z t → StandsIn flat s z u → t ≡ u
stands_one flat itself itself = refl
stands_one flat {u = u} (inside {m = m} {i = i} {z = z} {node = node} is h st)
    (inside {m = m'} {node = node'} is' h' st') =
    let same : node' ≡ node = cc (is, is') in
    let one : m' ≡ m = operand_one node i m' m (subst (λ (v : Node). OperandAt v i m') same h') h in
    stands_one flat st (subst (λ v. StandsIn flat v z u) one st')

-- where a node stands, from its last step on
data Up (flat : Flat) (s : ℕ) : List ℕ → ℕ → Type 0 where
  at_top : Up flat s [] s
  under : {t m : ℕ} {z : List ℕ} {node : Node} (i : ℕ) → Up flat s z t → slice_get flat.nodes t ≡ Some node
      → OperandAt node i m → Up flat s (z ++ i ∷ []) m

up_front : (flat : Flat) {s m : ℕ} (i : ℕ) {node : Node} {t : ℕ} {z : List ℕ} → slice_get flat.nodes s ≡ Some node
    → OperandAt node i m → Up flat m z t → Up flat s (i ∷ z) t
up_front flat i is h at_top = under i at_top is h
up_front flat i is h (under j u at_t o) = under j (up_front flat i is h u) at_t o

stands_up : (flat : Flat) {s t : ℕ} {z : List ℕ} → StandsIn flat s z t → Up flat s z t
stands_up flat itself = at_top
stands_up flat (inside {i = i} is h st) = up_front flat i is h (stands_up flat st)

module _ (flat : Flat) (placed : ArePlaced flat) where
  not_start : (r : ℕ) {s t : ℕ} {z : List ℕ} → slice_get flat.bodies r ≡ Some s → Up flat s z t → t ≡ flat.start → ⊥
  not_start r is at_top same = placed.no_body r (subst (λ v. slice_get flat.bodies r ≡ Some v) same is)
  not_start r is (under {t = t} {node = node} i u at_t h) same =
      placed.start t i node at_t (subst (λ v. OperandAt node i v) same h)

  one_site : (r q : ℕ) {s u t : ℕ} {z y : List ℕ} → slice_get flat.bodies r ≡ Some s → slice_get flat.bodies q ≡ Some u
      → Up flat s z t → Up flat u y t → (r ≡ q) × (z ≡ y)
  one_site r q {s = s} is other at_top at_top = (placed.apart r q s is other, refl)
  one_site r q {s = s} is other at_top (under {t = t} {node = node} i up at_t h) =
      absurd (not_start q other up (placed.above r s t i node is at_t h))
  one_site r q {u = s} is other (under {t = t} {node = node} i up at_t h) at_top =
      absurd (not_start r is up (placed.above q s t i node other at_t h))
  one_site r q {u = s} {t = m} is other (under {t = t} {z = z} {node = node} i up at_t h)
      (under {t = t'} {z = y} {node = node'} j up' at_t' h') =
      let same = placed.forest t' t j i m node' node at_t' at_t h' h in
      let t_is : t' ≡ t = same.0 in
      let i_is : i ≡ j = sym same.1 in
      let rest = one_site r q is other up (subst (λ v. Up flat s y v) t_is up') in
      (rest.0, (λ k. rest.1 k ++ i_is k ∷ []))

abbrev pub is_name : Element → Bool
is_name (e.Name m) = true
is_name _ = false

plus_zero : (k : ℕ) (b : Option ℕ) → der.AtMost k b → der.AtMost (0 + k) b
plus_zero k None h = tt
plus_zero k (Some b) h = omega (arith, h)

next_plus_zero : (k : ℕ) (b : Option ℕ) → der.AtMost (suc k) b → der.AtMost (suc (0 + k)) b
next_plus_zero k None h = tt
next_plus_zero k (Some b) h = omega (arith, h)

no_iteration : (d : Option ℕ) → der.AtMost 0 d
no_iteration None = tt
no_iteration (Some d) = omega arith

less_most : (c j : ℕ) (d : Option ℕ) → c ≤ 0 + j → der.AtMost (suc j) d → der.AtMost (suc c) d
less_most c j None le h = tt
less_most c j (Some d) le h = omega (arith, le, h)

module _ (has : ℕ → Bool) (rules : List Rule) (judged : ℕ) (flat : Flat) (lowered : IsLowered rules judged flat)
    (x : List ℕ) (line : length x ≤ flat.limit) (letters : AreLetters has x) where
  abbrev Spelt : ℕ → Element → Type 0
  Spelt s el = Spells rules flat.limit flat.nodes s el

  -- the first c sets of what is left are read
  read_front : (s : ℕ) (sets : List Set) → slice_get flat.nodes s ≡ Some (g.Letters sets) → (c : ℕ) (left : List Set)
      {v : List ℕ} → Fit (take c left) v → (k i j o : ℕ) → drop k sets ≡ left → c ≤ length left → Lies x i v j
      → Holds flat x i (at s k) o → Holds flat x j (at s (k + c)) o
  read_front s sets is zero left fit_none k i j o same le here h =
      let on : k ≡ k + 0 = omega arith in subst (λ v. Holds flat x i (at s v) o) on h
  read_front s sets is (suc c) [] f k i j o same le l h = absurd (omega (arith, le))
  read_front s sets is (suc c) (set ∷ rest) (fit_more g f) k i j o same le (step {k = next} letter l) h =
      let n = next_of sets k same in
      let one = subst (λ v. Holds flat x v (at s (k + 1)) o) letter.1
      (has_read h (reads is (Reading.letter n.is)) letter.0 g) in
      let more = read_front s sets is c rest f (k + 1) next j o n.rest (omega (arith, le)) l one in
      let on : k + 1 + c ≡ k + suc c = omega arith in
      subst (λ v. Holds flat x j (at s v) o) on more

  -- each start of the node stands in set i
  abbrev AreStarted : ℕ → ℕ → Type 0
  AreStarted s i = (q : Dot) → Starts flat s q → Holds flat x i q i

  -- a name's node spells a name
  named_node : {s : ℕ} {el : Element} → Spelt s el → IsNameNode flat s → (m : List ℕ) × (el ≡ e.Name m)
  named_node (spells {node = node} {el = el} is shown) name =
      let same : node ≡ g.Name name.0 = cc (is, name.1) in
      by (subst (λ (v : Node). Shows rules flat.limit flat.nodes v el) same shown)
    where
      by : {el : Element} → Shows rules flat.limit flat.nodes (g.Name name.0) el → (m : List ℕ) × (el ≡ e.Name m)
      by (shows_name {n = m} found) = (m, refl)

  not_named : {s : ℕ} {el : Element} → is_name el ≡ false → Spelt s el → IsNameNode flat s → ⊥
  not_named plain sp name =
      let h = named_node sp name in absurd (cc (subst (λ v. is_name v ≡ false) h.1 plain))

  module _ (n : ℕ) (Old : ℕ → ℕ → Type 0) (early : (s i : ℕ) → i < n → Old s i)
      (into : (q r : Dot) (i s : ℕ) → Holds flat x n q i → Old (node_at q) i → Calls flat q s r
      → (IsNameNode flat s → ⊥) → Old s n) where
    -- items of set n have the part at a site of the top node
    pub record HasPartIn (top : ℕ) (site : List ℕ) (p : Element) (m : ℕ) : Type 0 where
      pub node : ℕ
      pub has_part : HasPart flat x n Old node m
      pub stands : StandsIn flat top site node
      pub spelled : Spelt node p

    stands_deeper : {s t i m : ℕ} {z : List ℕ} {p : Element} {node : Node} → slice_get flat.nodes s ≡ Some node
        → OperandAt node i t → HasPartIn t z p m → HasPartIn s (i ∷ z) p m
    stands_deeper is site_is h = record {
      node = h.node;
      has_part = h.has_part;
      stands = inside is site_is h.stands;
      spelled = h.spelled;
    }

    read_part : {s i k : ℕ} {sets : List Set} {el : Element} {v : List ℕ} → slice_get flat.nodes s
        ≡ Some (g.Letters sets) → Spelt s el → Fit (take k sets) v → k < length sets → Lies x i v n → AreStarted s i
        → Old s i → HasPartIn s [] el k
    read_part {s = s} {i = i} {k = k} {sets = sets} is sp f lt l started old =
        let first = started (at s 0) (starts is Begins.letters) in
        let held = read_front s sets is k sets f 0 i n i refl (omega (arith, lt)) l first in
        let on : 0 + k ≡ k = omega arith in
        record {
          node = s;
          has_part = oi.reads (subst (λ v. Holds flat x n (at s v) i) on held) old is lt;
          stands = itself;
          spelled = sp;
        }

    -- in a terminal
    in_text : {folds : Bool} {t v : List ℕ} {k : ℕ} → k < length t → der.Spelled folds (take k t) v → (s i : ℕ)
        → Spelt s (e.Text folds t) → Lies x i v n → AreStarted s i → Old s i → HasPartIn s [] (e.Text folds t) k
    in_text {folds = folds} {t = t} {v = v} {k = k} lt d s i (spells is (shows_text {sets = sets} same)) l started old =
        let fit : Fit (take k sets) v = subst (λ u. Fit (take k u) v) (sym same)
        (subst (λ u. Fit u v) (sym (take-map (letter_set folds) k t)) (text_fits d)) in
        let count = length-map t (letter_set folds) in
        let some : k < length sets = subst (λ (u : List Set). k < length u) (sym same) (omega (arith, lt, count)) in
        read_part is (spells is (shows_text same)) fit some l started old

    in_values : {vs v : List ℕ} {k : ℕ} → k < length vs → v ≡ take k vs → (s i : ℕ) → Spelt s (e.Values vs)
        → Lies x i v n → AreStarted s i → Old s i → HasPartIn s [] (e.Values vs) k
    in_values {vs = vs} {v = v} {k = k} lt v_is s i (spells is (shows_values {sets = sets} same)) l started old =
        let front : Fit (map Exactly (take k vs)) v =
        subst (λ u. Fit (map Exactly (take k vs)) u) (sym v_is) (values_fit (take k vs)) in
        let fit : Fit (take k sets) v = subst (λ u. Fit (take k u) v) (sym same)
        (subst (λ u. Fit u v) (sym (take-map Exactly k vs)) front) in
        let count = length-map vs Exactly in
        let some : k < length sets = subst (λ (u : List Set). k < length u) (sym same) (omega (arith, lt, count)) in
        read_part is (spells is (shows_values same)) fit some l started old

    in_range : {low high : ℕ} (s i : ℕ) → Spelt s (e.Range low high) → Lies x i [] n → AreStarted s i → Old s i
        → HasPartIn s [] (e.Range low high) 0
    in_range s i (spells is shows_range) l started old =
        read_part is (spells is shows_range) fit_none (omega arith) l started old

    -- a called node that is no name is old there
    old_there : {el : Element} {v : List ℕ} {q r : Dot} → is_name el ≡ false → (i o t : ℕ) → Holds flat x i q o
        → Old (node_at q) o → Calls flat q t r → Spelt t el → Lies x i v n → Old t i
    old_there {v = v} {q = q} {r = r} plain i o t h old c sp l = by (cases_lt i n)
      where
        by : (i < n) ⊎ (n ≤ i) → Old t i
        by (inl lt) = early t i lt
        by (inr le) =
            let count = lies_count x l in
            let same : i ≡ n = omega (arith, le, count) in
            subst (λ k. Old t k) (sym same)
            (into q r o t (subst (λ k. Holds flat x k q o) same h) old c (not_named plain sp))

    -- where a repetition goes on after some iterations, or an option begins
    record NextCall (s i : ℕ) (el : Element) (v : List ℕ) : Type 0 where
      mid : ℕ
      operand : ℕ
      node : Node
      node_is : slice_get flat.nodes s ≡ Some node
      site_is : OperandAt node 0 operand
      k : ℕ
      next : Dot
      held : Holds flat x mid (at s k) i
      call : Calls flat (at s k) operand next
      spelled : Spelt operand el
      right : Lies x mid v n

    next_call : {a j : ℕ} {b : Option ℕ} {el : Element} {u v : List ℕ} → der.AtMost a b → der.AtMost (suc j) b
        → DerivesTimes has rules el j u → (s i : ℕ) → Spelt s (e.Rep a b el) → Lies x i (u ++ v) n → AreStarted s i
        → NextCall s i el v
    next_call {a = a} {j = j} {b = b} {u = u} bounds within ds s i
        (spells is (shows_rep {c = c} {m = m} {d = d} least most bounds' never sp)) l started =
        let cut = path_splits (OnLine x) u l in
        let capped = cap_at_most flat.limit b d (suc j) most within in
        let run = run_times has rules flat.limit flat lowered.spelled x line ds s c m d is sp 0 0 i cut.mid
        (turned_none c d) (plus_zero j d (one_fewer j d capped)) cut.left in
        let next = iteration_on c d m (0 + j) run.to run.turned (next_plus_zero j d capped) in
        record {
          mid = cut.mid;
          operand = m;
          node = _;
          node_is = is;
          site_is = (refl, refl);
          k = run.to;
          next = at s next.to;
          held = run.steps i (started (at s 0) (starts is Begins.rep));
          call = calls is next.calling;
          spelled = sp;
          right = cut.right;
        }
    next_call {a = a} {j = j} {b = b} {u = u} bounds within ds s i
        (spells is (shows_iterations {m = m} {d = d} most bounds' empty sp)) l started =
        let cut = path_splits (OnLine x) u l in
        let short = short_on_line x cut.left in
        let run = run_iterations has rules flat.limit flat lowered.spelled x line ds s m b d is most sp 0 0 i cut.mid
        (turned_none 0 d) (no_iteration d) (plus_zero j b (one_fewer j b within)) (omega (arith, short, line))
        cut.left in
        let capped = cap_at_most flat.limit b d (suc j) most within in
        let next = takes_next run.count run.to m d run.turned (less_most run.count j d run.fewer capped) in
        record {
          mid = cut.mid;
          operand = m;
          node = _;
          node_is = is;
          site_is = (refl, refl);
          k = run.to;
          next = at s next.0;
          held = run.steps i (started (at s 0) (starts is Begins.iterations));
          call = calls is next.1;
          spelled = sp;
          right = cut.right;
        }
    next_call bounds within ds s i (spells is (shows_reversed lt)) l started = absurd (omega (arith, bounds, lt))

    option_call : {el : Element} {v : List ℕ} (s i : ℕ) → Spelt s (e.Opt el) → Lies x i v n → AreStarted s i
        → NextCall s i el v
    option_call s i (spells is (shows_opt {m = m} sp)) l started = record {
      mid = i;
      operand = m;
      node = _;
      node_is = is;
      site_is = (refl, refl);
      k = 0;
      next = at s 2;
      held = started (at s 0) (starts is Begins.opt);
      call = calls is Calling.operand;
      spelled = sp;
      right = l;
    }

    mutual
      in_members : {es : Elements} {p : Element} {v z : List ℕ} {m k : ℕ} {left : List ℕ}
          → AwaitsNext has rules es k v z p m → SpellAll rules flat.limit flat.nodes left es → (s : ℕ) (ms : List ℕ)
          → slice_get flat.nodes s ≡ Some (g.Concat ms) → (i o : ℕ) → drop k ms ≡ left → Holds flat x i (at s k) o
          → Old s o → Lies x i v n → HasPartIn s z p m
      in_members {k = k} (w.here a) (spell_more {m = m} sp all) s ms is i o left h old l =
          let one = next_of ms k left in
          stands_deeper is one.is (in_called a i o m h old (calls is (Calling.member {k = k} one.is)) sp l)
      in_members {k = k} (w.after {v = v} d rest) (spell_more {m = m} {ms = others} sp all) s ms is i o left h old l =
          let one = next_of ms k left in
          let cut = path_splits (OnLine x) v l in
          let on : k + 1 ≡ suc k = omega arith in
          let held = call_step has rules flat.limit flat lowered.spelled x line (calls is (Calling.member one.is))
          (plain_node has rules flat.limit flat lowered.spelled x line is (λ t. elim t [ ]))
          (node_runs has rules flat.limit flat lowered.spelled x line d m i cut.mid sp cut.left) o h in
          in_members rest all s ms is cut.mid o (subst (λ y. drop y ms ≡ others) on one.rest)
          (subst (λ y. Holds flat x cut.mid (at s y) o) on held) old cut.right

      in_some : {es : Elements} {p : Element} {v z : List ℕ} {m k : ℕ} {left : List ℕ}
          → AwaitsSome has rules es k v z p m → SpellAll rules flat.limit flat.nodes left es → (s : ℕ) (ms : List ℕ)
          → slice_get flat.nodes s ≡ Some (g.Alt ms) → (i : ℕ) → drop k ms ≡ left → AreStarted s i → Old s i
          → Lies x i v n → HasPartIn s z p m
      in_some {k = k} (w.this a) (spell_more {m = m} sp all) s ms is i left started old l =
          let one = next_of ms k left in
          stands_deeper is one.is (in_called a i i m (started (at s k) (starts is (Begins.alt one.below))) old
          (calls is (Calling.alternative {k = k} one.is)) sp l)
      in_some {k = k} (w.later a) (spell_more {ms = others} sp all) s ms is i left started old l =
          let one = next_of ms k left in
          let on : k + 1 ≡ suc k = omega arith in
          in_some a all s ms is i (subst (λ y. drop y ms ≡ others) on one.rest) started old l

      -- in a called node
      pub in_called : {el p : Element} {v z : List ℕ} {m : ℕ} → Awaits has rules el v z p m → {q r : Dot} (i o t : ℕ)
          → Holds flat x i q o → Old (node_at q) o → Calls flat q t r → Spelt t el → Lies x i v n → HasPartIn t z p m
      in_called w.name i o t h old c (spells at_t (shows_name {r = r} found)) here = record {
        node = t;
        has_part = oi.calls h old c (r, at_t);
        stands = itself;
        spelled = spells at_t (shows_name found);
      }
      in_called (w.text lt d) i o t h old c sp l =
          in_text lt d t i sp l (λ p st. called h c st) (old_there refl i o t h old c sp l)
      in_called (w.values lt d) i o t h old c sp l =
          in_values lt d t i sp l (λ p st. called h c st) (old_there refl i o t h old c sp l)
      in_called w.range i o t h old c sp l =
          in_range t i sp l (λ p st. called h c st) (old_there refl i o t h old c sp l)
      in_called (w.concat a) i o t h old c (spells is (shows_concat {ms = ms} all)) l =
          in_members a all t ms is i i refl (called h c (starts is Begins.concat))
          (old_there refl i o t h old c (spells is (shows_concat all)) l) l
      in_called (w.alt a) i o t h old c (spells is (shows_alt {ms = ms} all)) l =
          in_some a all t ms is i refl (λ p st. called h c st)
          (old_there refl i o t h old c (spells is (shows_alt all)) l) l
      in_called (w.rep bounds within ds a) i o t h old c sp l =
          let next = next_call bounds within ds t i sp l (λ p st. called h c st) in
          stands_deeper next.node_is next.site_is (in_called a next.mid i next.operand next.held
          (old_there refl i o t h old c sp l) next.call next.spelled next.right)
      in_called (w.opt a) i o t h old c sp l =
          let next = option_call t i sp l (λ p st. called h c st) in
          stands_deeper next.node_is next.site_is (in_called a next.mid i next.operand next.held
          (old_there refl i o t h old c sp l) next.call next.spelled next.right)

    -- in a node, each of whose starts stands in set i
    pub in_node : {el p : Element} {v z : List ℕ} {m : ℕ} → Awaits has rules el v z p m → is_name el ≡ false
        → (s i : ℕ) → Spelt s el → Lies x i v n → AreStarted s i → Old s i → HasPartIn s z p m
    in_node (w.text lt d) plain s i sp l started old = in_text lt d s i sp l started old
    in_node (w.values lt d) plain s i sp l started old = in_values lt d s i sp l started old
    in_node w.range plain s i sp l started old = in_range s i sp l started old
    in_node w.name plain s i sp l started old = absurd (cc plain)
    in_node (w.concat a) plain s i (spells is (shows_concat {ms = ms} all)) l started old =
        in_members a all s ms is i i refl (started (at s 0) (starts is Begins.concat)) old l
    in_node (w.alt a) plain s i (spells is (shows_alt {ms = ms} all)) l started old =
        in_some a all s ms is i refl started old l
    in_node (w.rep bounds within ds a) plain s i sp l started old =
        let next = next_call bounds within ds s i sp l started in
        stands_deeper next.node_is next.site_is
        (in_called a next.mid i next.operand next.held old next.call next.spelled next.right)
    in_node (w.opt a) plain s i sp l started old =
        let next = option_call s i sp l started in
        stands_deeper next.node_is next.site_is
        (in_called a next.mid i next.operand next.held old next.call next.spelled next.right)

  -- a rule that can begin at a position is predicted there
  pub begun_started : {r i : ℕ} → Begun has rules judged x r i → (top : ℕ) → slice_get flat.bodies r ≡ Some top
      → AreStarted top i
  begun_started w.judged_rule top is =
      let same : lowered.body ≡ top = cc (is, lowered.body_is) in
      λ q st. called (begins (starts lowered.whole Begins.concat)) (calls lowered.whole (Calling.member {k = 0} refl))
      (subst (λ v. Starts flat v q) (sym same) st)
  begun_started (w.named {r = r} {i = i} {j = j} {body = body} {w = v} {n = m} b body_is spans a) top is =
      let node = node_of_rule rules flat.limit flat.nodes flat.bodies lowered.spelled r body body_is in
      of_body node.node (begun_started b node.node node.at) a node.spelled (spans_lies spans)
    where
      of_part : {s : ℕ} → HasPart flat x j (λ _ _. Unit {0}) s 0 → Spelt s (e.Name m) → AreStarted top j
      of_part (oi.reads {sets = sets} h old at_s lt) (spells at_s' (shows_name found)) = absurd (cc (at_s, at_s'))
      of_part (oi.calls h old c name) (spells at_s (shows_name found)) =
          λ q st. called h c (name_starts at_s (subst (λ k. slice_get flat.bodies k ≡ Some top) (sym found) is) st)

      of_body : {body : Element} {v z : List ℕ} (s : ℕ) → AreStarted s i → Awaits has rules body v z (e.Name m) 0
          → Spelt s body
          → Lies x i v j → AreStarted top j
      of_body s inner w.name (spells at_s (shows_name found)) l =
          let count = lies_count x l in
          let same : i ≡ j = omega (arith, count) in
          λ q st. subst (λ k. Holds flat x k q k) same
          (inner q (name_starts at_s (subst (λ k. slice_get flat.bodies k ≡ Some top) (sym found) is) st))
      of_body s inner (w.concat a) sp l =
          let part = in_node j (λ _ _. Unit {0}) (λ s i lt. tt) (λ q r i s h old c other. tt) (w.concat a) refl s i sp l
          inner tt in
          of_part part.has_part part.spelled
      of_body s inner (w.alt a) sp l =
          let part = in_node j (λ _ _. Unit {0}) (λ s i lt. tt) (λ q r i s h old c other. tt) (w.alt a) refl s i sp l
          inner tt in
          of_part part.has_part part.spelled
      of_body s inner (w.rep bounds within ds a) sp l =
          let part = in_node j (λ _ _. Unit {0}) (λ s i lt. tt) (λ q r i s h old c other. tt)
          (w.rep bounds within ds a) refl s i sp l inner tt in
          of_part part.has_part part.spelled
      of_body s inner (w.opt a) sp l =
          let part = in_node j (λ _ _. Unit {0}) (λ s i lt. tt) (λ q r i s h old c other. tt) (w.opt a) refl s i sp l
          inner tt in
          of_part part.has_part part.spelled

  pub awaited_part : (n rule : ℕ) (site : List ℕ) (p : Element) (k : ℕ) → IsAwaited has rules judged x n rule site p k
      → HavePart rules flat x n rule site p k
  awaited_part n rule site p k a = by a.underway
    where
      node : HasNode rules flat.limit flat.nodes flat.bodies rule a.body
      node = node_of_rule rules flat.limit flat.nodes flat.bodies lowered.spelled rule a.body a.body_is

      early : (s i : ℕ) → i < n → IsOld flat x n s i
      early s i lt = oi.before lt

      into : (q r : Dot) (i s : ℕ) → Holds flat x n q i → IsOld flat x n (node_at q) i → Calls flat q s r
          → (IsNameNode flat s → ⊥) → IsOld flat x n s n
      into q r i s h old c other = oi.entered h old c other

      found : HasPartIn n (IsOld flat x n) early into node.node site p k → HavePart rules flat x n rule site p k
      found h = record {
        node = h.node;
        has_part = h.has_part;
        is = record { top = node.node; top_is = node.at; stands = h.stands; spelled = h.spelled };
      }

      started : AreStarted node.node a.start
      started = begun_started a.begun node.node node.at

      in_body : {body p : Element} {v site : List ℕ} {k : ℕ} (b : Bool) → is_name body ≡ b
          → Awaits has rules body v site p k
          → Spelt node.node body → Lies x a.start v n → a.start < n
          → HasPartIn n (IsOld flat x n) early into node.node site p k
      in_body false plain b sp l lt =
          in_node n (IsOld flat x n) early into b plain node.node a.start sp l started (oi.before lt)
      in_body true named w.name sp l lt = let count = lies_count x l in absurd (omega (arith, lt, count))
      in_body true named (w.text lt' d) sp l lt = absurd (cc named)
      in_body true named (w.values lt' d) sp l lt = absurd (cc named)
      in_body true named w.range sp l lt = absurd (cc named)
      in_body true named (w.concat b) sp l lt = absurd (cc named)
      in_body true named (w.alt b) sp l lt = absurd (cc named)
      in_body true named (w.rep bounds within ds b) sp l lt = absurd (cc named)
      in_body true named (w.opt b) sp l lt = absurd (cc named)

      by : (a.start < n) ⊎ ((n ≡ 0) × (rule ≡ judged) × (a.start ≡ 0)) → HavePart rules flat x n rule site p k
      by (inl lt) = found (in_body (is_name a.body) refl a.awaits node.spelled (spans_lies a.spans) lt)
      by (inr (none, is_judged, first)) =
          let is_body : node.node ≡ lowered.body =
          cc (node.at, subst (λ v. slice_get flat.bodies v ≡ Some lowered.body) (sym is_judged) lowered.body_is) in
          let held : Holds flat x n (at flat.start 0) 0 =
          subst (λ v. Holds flat x v (at flat.start 0) 0) (sym none) (begins (starts lowered.whole Begins.concat)) in
          let same : a.start ≡ n = first ∙ sym none in
          found (in_called n (IsOld flat x n) early into a.awaits n 0 node.node held (oi.whole none)
          (calls lowered.whole (Calling.member {k = 0} (ap Some (sym is_body)))) node.spelled
          (subst (λ v. Lies x v a.word n) same (spans_lies a.spans)))

  -- a part at a node is awaited exactly if items have it
  pub awaited_exactly : (rule top s n k : ℕ) (site : List ℕ) → slice_get flat.bodies rule ≡ Some top
      → StandsIn flat top site s → ((part : Element) × IsAwaited has rules judged x n rule site part k)
      ↔ HasPart flat x n (IsOld flat x n) s k
  awaited_exactly rule top s n k site is stands = (
    λ a.
        let found = awaited_part n rule site a.0 k a.1 in
        let same : found.is.top ≡ top = cc (is, found.is.top_is) in
        let one : found.node ≡ s =
        stands_one flat (subst (λ v. StandsIn flat v site found.node) same found.is.stands) stands in
        subst (λ v. HasPart flat x n (IsOld flat x n) v k) one found.has_part,
    λ h.
        let found : IsNodeAwaited has rules judged flat x n s k =
        part_awaited has rules judged flat lowered x line letters n h in
        let same = one_site flat lowered.placed found.rule rule found.node.top_is is (stands_up flat found.node.stands)
        (stands_up flat stands) in (
          found.part,
          subst (λ v. IsAwaited has rules judged x n v site found.part k) same.0
              (subst (λ v. IsAwaited has rules judged x n found.rule v found.part k) same.1 found.awaited),
        ),
  )
