-- What is derived stands as an item.
-- Serves: items_decide, lower, judge, lower_viable.
use Rattle.std.proofs.Common.{◌≡◌, ℕ, zero, suc, ◌+◌, ◌<◌, ◌≤◌, min, List, [], ◌∷◌, length, drop, refl, sym, ◌∙◌, ap}
use Rattle.std.proofs.Common.{subst, arith, length-append, ◌⊎◌, inl, inr}
use Rattle.std.proofs.lemmas.Bool.{cases_lt}
use Rattle.std.specs.Prelude.{slice_get, Bool, Option, Some, None}
use Rattle.abnfread.specs.Element as e
use Rattle.abnfread.specs.Element.{Element, Elements, Rule}
use Rattle.abnfcheck.specs.Derivable as der
use Rattle.abnfcheck.specs.Derivable.{AreLetters, Derives, DerivesAll, DerivesSome, DerivesTimes, all_done, then, this}
use Rattle.abnfcheck.specs.Derivable.{later, no_more, one_more}
use Rattle.flatgrammar.specs.Flat.{Node, Flat, Letters, Concat, Alt, Rep, Dot, at, Set, IsTaking, Takes, in_iterations}
use Rattle.flatgrammar.specs.Flat.{Reading, Calling, IsDone, Begins, Starts, starts, name_starts, Ends, ends, name_ends}
use Rattle.flatgrammar.specs.Flat.{reads, Calls, calls}
use Rattle.flatgrammar.specs.Holds.{Holds, called, has_read, returned}
use Rattle.lowering.specs.Lowered.{capped_most, Spells, spells, shows_text, shows_values, shows_range, shows_concat}
use Rattle.lowering.specs.Lowered.{shows_alt, shows_rep, shows_iterations, shows_reversed, shows_opt, shows_name}
use Rattle.lowering.specs.Lowered.{SpellAll, spell_none, spell_more, AreBodies}
use Rattle.abnfcheck.proofs.RuleIdLemmas.{body_at_id}
use Rattle.lowering.proofs.RuleNodeLemmas.{node_of_rule}
use Rattle.abnfcheck.proofs.IsPathLemmas.{here, step, path_splits}
use Rattle.abnfcheck.proofs.LiesLemmas.{OnLine, Lies}
use Rattle.lowering.proofs.CappedMostLemmas.{most_is}
use Rattle.lowering.proofs.OnLineLemmas.{short_on_line, lies_count}
use Rattle.lowering.proofs.BeforeLemmas.{Fit, fit_none, fit_more, text_fits, values_fit, Turned, turned_none}
use Rattle.lowering.proofs.BeforeLemmas.{iterations_most}

pub record Next {A : Type 0} (xs : List A) (k : ℕ) (y : A) (ys : List A) : Type 0 where
  pub is : slice_get xs k ≡ Some y
  pub rest : drop (k + 1) xs ≡ ys
  pub below : k < length xs

-- the first of what is left stands at that dotted rule
pub next_of : {A : Type 0} (xs : List A) (k : ℕ) {y : A} {ys : List A} → drop k xs ≡ y ∷ ys → Next xs k y ys
next_of [] zero h = absurd cc
next_of [] (suc k) h = absurd cc
next_of (z ∷ xs) zero {y = y} {ys = ys} h =
    let first : z ≡ y = cc in let rest : xs ≡ ys = cc in
    record { is = ap Some first; rest = rest; below = omega arith }
next_of (z ∷ xs) (suc k) {ys = ys} h =
    let n = next_of xs k h in
    let on : k + 1 ≡ suc k = omega arith in
    record {
      is = n.is;
      rest = (let one : suc (k + 1) ≡ suc k + 1 = omega arith in
          subst (λ v. drop v (z ∷ xs) ≡ ys) one n.rest);
      below = omega (arith, n.below);
    }

-- one more iteration of a repetition, after t iterations, at step f
pub record Iteration (a : ℕ) (b : Option ℕ) (m t f : ℕ) : Type 0 where
  pub to : ℕ
  pub calling : Calling (Rep a b m) f m to
  pub turned : Turned a b (suc t) to

pub iteration_on : (a : ℕ) (b : Option ℕ) (m t f : ℕ) → Turned a b t f → der.AtMost (suc t) b → Iteration a b m t f
iteration_on a (Some most) m t f is within = record {
  to = f + 1;
  calling = Calling.iteration (omega arith);
  turned = omega arith;
}
iteration_on a None m t f is within = by (cases_lt t a)
  where
    by : ((t < a) ⊎ (a ≤ t)) → Iteration a None m t f
    by (inl lt) =
        let turned : f + 1 ≡ min (suc t) a = omega arith in
        record { to = f + 1; calling = Calling.iteration (omega arith); turned = turned }
    by (inr le) =
        let top_is : a ≡ f = omega arith in
        let turned : a ≡ min (suc t) a = omega arith in
        record {
          to = a;
          calling = subst (λ v. Calling (Rep a None m) v m a) top_is Calling.iteration_uncounted;
          turned = turned;
        }

pub within_less : (t k : ℕ) (b : Option ℕ) → der.AtMost (t + suc k) b → der.AtMost (suc t) b
within_less t k None h = tt
within_less t k (Some b) h = omega arith

pub within_same : (t k : ℕ) (b : Option ℕ) → der.AtMost (t + suc k) b → der.AtMost (suc t + k) b
within_same t k None h = tt
within_same t k (Some b) h = omega arith

rep_done : (a k f m : ℕ) (b : Option ℕ) → a ≤ k → der.AtMost k b → Turned a b (0 + k) f → IsDone (Rep a b m) f
rep_done a k f m None low within is = IsDone.rep (omega arith) (omega arith)
rep_done a k f m (Some b) low within is = IsDone.rep (omega arith) (omega arith)

-- one more iteration that takes a letter
pub record IterationOn (d : Option ℕ) (m t f : ℕ) : Type 0 where
  pub to : ℕ
  pub calling : Calling (Node.Iterations d m) f m to
  pub turned : Turned 0 d (suc t) to
  pub within : der.AtMost (suc t) d

pub fewer_within : (t k : ℕ) (b : Option ℕ) → der.AtMost (t + suc k) b → der.AtMost (t + k) b
fewer_within t k None h = tt
fewer_within t k (Some b) h = omega (arith, h)

iterations_done : (count f m : ℕ) (d : Option ℕ) → der.AtMost count d → Turned 0 d count f
    → IsDone (Node.Iterations d m) f
iterations_done count f m None within is = IsDone.iterations (omega (arith, is))
iterations_done count f m (Some d) within is = IsDone.iterations (omega (arith, within, is))

module _ (limit : ℕ) where
  cap_within : (b d : Option ℕ) (k : ℕ) → d ≡ capped_most limit b → k ≤ limit → der.AtMost k b → der.AtMost k d
  cap_within None None k is under within = tt
  cap_within None (Some d) k is under within = absurd (cc is)
  cap_within (Some b) None k is under within = tt
  cap_within (Some b) (Some d) k is under within = let one : Some b ≡ Some d = most_is limit (Some b) d is in
      let same : b ≡ d = cc one in omega (arith, same, within)

  pub take_on : (t k : ℕ) (b d : Option ℕ) (m f : ℕ) → d ≡ capped_most limit b → t + 1 ≤ limit
      → der.AtMost (t + suc k) b → Turned 0 d t f → IterationOn d m t f
  take_on t k b None m f is under within turned =
      let zero_is : 0 ≡ f = omega (arith, turned) in
      let after : 0 ≡ min (suc t) 0 = omega arith in
      record {
        to = 0;
        calling = subst (λ v. Calling (Node.Iterations None m) v m 0) zero_is Calling.takes_uncounted;
        turned = after;
        within = tt;
      }
  take_on t k None (Some d) m f is under within turned = absurd (cc is)
  take_on t k (Some b) (Some d) m f is under within turned =
      let one : Some b ≡ Some d = most_is limit (Some b) d is in
      let same : b ≡ d = cc one in
      record {
        to = f + 1;
        calling = Calling.takes (omega (arith, same, within, turned));
        turned = omega (arith, turned);
        within = omega (arith, same, within);
      }

module _ (has : ℕ → Bool) (rules : List Rule) (limit : ℕ) (flat : Flat)
    (bodies : AreBodies rules limit flat.nodes flat.bodies) (x : List ℕ) (line : length x ≤ limit) where
  -- whatever stands at q in set i goes on to r in set j
  abbrev pub Steps : Dot → ℕ → Dot → ℕ → Type 0
  Steps q i r j = (o : ℕ) → Holds flat x i q o → Holds flat x j r o

  -- the node can be run through from i to j
  pub record Runs (s i j : ℕ) : Type 0 where
    pub from : Dot
    pub to : Dot
    pub start : Starts flat s from
    pub end : Ends flat to s
    pub run : Holds flat x i from i → Holds flat x j to i

  pub call_step : {q r : Dot} {s i j : ℕ} → Calls flat q s r → (Takes flat q → i < j) → Runs s i j → Steps q i r j
  call_step c takes run = λ o h. returned (run.run (called h c run.start)) run.end h c takes

  -- a node of another kind asks for nothing
  pub plain_node : {A : Type 0} {s k : ℕ} {node : Node} → slice_get flat.nodes s ≡ Some node → (IsTaking node → ⊥)
      → Takes flat (at s k) → A
  plain_node is none (in_iterations {node = node'} is' t) =
      absurd (none (let same : node' ≡ _ = cc (is, is') in subst IsTaking same t))

  -- a node that begins at step k and is done at step l
  runs_through : {s k l i j : ℕ} {node : Node} → slice_get flat.nodes s ≡ Some node → Begins node k → IsDone node l
      → Steps (at s k) i (at s l) j → Runs s i j
  runs_through {s = s} {k = k} {l = l} {i = i} is b d steps =
      record { from = at s k; to = at s l; start = starts is b; end = ends is d; run = steps i }

  read_all : (s : ℕ) (sets : List Set) → slice_get flat.nodes s ≡ Some (Letters sets) → {left : List Set} {w : List ℕ}
      → Fit left w →
      (k i j : ℕ) → drop k sets ≡ left → Lies x i w j → Steps (at s k) i (at s (k + length left)) j
  read_all s sets is fit_none k i j left here = λ o h. let same : k ≡ k + 0 = omega arith in
      subst (λ v. Holds flat x i (at s v) o) same h
  read_all s sets is (fit_more {set = set} {sets = rest} h f) k i j left (step {k = after} on l) = λ o g.
      let n = next_of sets k left in
      let one = subst (λ v. Holds flat x v (at s (k + 1)) o) on.1
      (has_read g (reads is (Reading.letter n.is)) on.0 h) in
      let more = read_all s sets is f (k + 1) after j n.rest l o one in
      let same : k + 1 + length rest ≡ k + suc (length rest) = omega arith in
      subst (λ v. Holds flat x j (at s v) o) same more

  run_letters : {s i j : ℕ} {sets : List Set} {w : List ℕ} → slice_get flat.nodes s ≡ Some (Letters sets) → Fit sets w
      → Lies x i w j → Runs s i j
  run_letters {s = s} {i = i} {j = j} {sets = sets} is f l =
      let same : 0 + length sets ≡ length sets = omega arith in
      runs_through is Begins.letters (IsDone.letters same) (read_all s sets is f 0 i j refl l)

  record Chosen (s i j : ℕ) (ms : List ℕ) : Type 0 where
    one : ℕ
    below : one < length ms
    steps : Steps (at s one) i (at s (length ms + one)) j

  pub record Iterations (s a : ℕ) (b : Option ℕ) (t f i j : ℕ) : Type 0 where
    pub to : ℕ
    pub turned : Turned a b t to
    pub steps : Steps (at s f) i (at s to) j

  -- counted iterations, at most so many
  pub record Counted (s : ℕ) (b : Option ℕ) (most f i j : ℕ) : Type 0 where
    pub count : ℕ
    pub to : ℕ
    pub turned : Turned 0 b count to
    pub within : der.AtMost count b
    pub fewer : count ≤ most
    pub steps : Steps (at s f) i (at s to) j

  mutual
    pub node_runs : {el : Element} {w : List ℕ} → Derives has rules el w → (s i j : ℕ)
        → Spells rules limit flat.nodes s el
        → Lies x i w j → Runs s i j
    node_runs (der.text {w = w} d) s i j (spells is (shows_text same)) l =
        run_letters is (subst (λ v. Fit v w) (sym same) (text_fits d)) l
    node_runs (der.values {vs = vs} letters) s i j (spells is (shows_values same)) l =
        run_letters is (subst (λ v. Fit v vs) (sym same) (values_fit vs)) l
    node_runs (der.range low high letter) s i j (spells is shows_range) l =
        run_letters is (fit_more (low, high) fit_none) l
    node_runs (der.concat d) s i j (spells is (shows_concat {ms = ms} all)) l =
        let same : 0 + length ms ≡ length ms = omega arith in
        runs_through is Begins.concat (IsDone.concat same) (run_all d all s ms is 0 i j refl l)
    node_runs (der.alt d) s i j (spells is (shows_alt {ms = ms} all)) l =
        let h = run_some d all s ms is 0 i j refl l in runs_through is (Begins.alt h.below) (IsDone.alt h.below) h.steps
    node_runs (der.rep {a = a} {k = k} {b = b} {w = w} low within d) s i j
        (spells is (shows_rep {c = c} {m = m} {d = d'} least most bounds never sp)) l =
        let few = iterations_most has rules never d in
        let all = short_on_line x l in
        let under : k ≤ limit = omega (arith, few, all, line) in
        let low' : c ≤ k = omega (arith, least, low) in
        let within' = cap_within limit b d' k most under within in
        let h = run_times d s c m d' is sp 0 0 i j (turned_none c d') (within_start k d' within') l in
        runs_through is Begins.rep (rep_done c k h.to m d' low' within' h.turned) h.steps
      where
        within_start : (k : ℕ) (b : Option ℕ) → der.AtMost k b → der.AtMost (0 + k) b
        within_start k None h = tt
        within_start k (Some b) h = omega arith
    node_runs (der.rep low within d) s i j (spells is (shows_reversed lt)) l = absurd (omega (arith, low, within, lt))
    node_runs (der.rep {a = a} {k = k} {b = b} {w = w} low within d) s i j
        (spells is (shows_iterations {m = m} {b = b'} {d = d'} most some empty sp)) l =
        let all = short_on_line x l in
        let h = run_iterations d s m b' d' is most sp 0 0 i j (turned_none 0 d') (start_cap d') (start_most k b' within)
        (omega (arith, all, line)) l in
        runs_through is Begins.iterations (iterations_done h.count h.to m d' h.within h.turned) h.steps
      where
        start_cap : (d : Option ℕ) → der.AtMost 0 d
        start_cap None = tt
        start_cap (Some d) = omega arith

        start_most : (k : ℕ) (b : Option ℕ) → der.AtMost k b → der.AtMost (0 + k) b
        start_most k None h = tt
        start_most k (Some b) h = omega (arith, h)
    node_runs der.opt_empty s i j (spells is (shows_opt sp)) here =
        runs_through is Begins.opt_empty IsDone.opt_empty (λ o h. h)
    node_runs (der.opt d) s i j (spells is (shows_opt {m = m} sp)) l =
        runs_through is Begins.opt IsDone.opt (call_step (calls is Calling.operand) (plain_node is (λ t. elim t [ ]))
        (node_runs d m i j sp l))
    node_runs (der.name {e = el} found d) s i j (spells is (shows_name {n = n} {r = r} number_is)) l =
        let h = node_of_rule rules limit flat.nodes flat.bodies bodies r el
        (subst (λ v. slice_get (e.bodies rules) v ≡ Some el) (sym number_is) (sym (body_at_id rules n) ∙ found)) in
        let inner = node_runs d h.node i j h.spelled l in
        record {
          from = inner.from;
          to = inner.to;
          start = name_starts is h.at inner.start;
          end = name_ends is h.at inner.end;
          run = inner.run;
        }

    run_all : {es : Elements} {w left : List ℕ} → DerivesAll has rules es w → SpellAll rules limit flat.nodes left es →
        (s : ℕ) (ms : List ℕ) → slice_get flat.nodes s ≡ Some (Concat ms) → (k i j : ℕ) → drop k ms ≡ left
        → Lies x i w j →
        Steps (at s k) i (at s (k + length left)) j
    run_all all_done spell_none s ms is k i j left here = λ o h. let same : k ≡ k + 0 = omega arith in
        subst (λ v. Holds flat x i (at s v) o) same h
    run_all (then {w = w} d ds) (spell_more {m = m} {ms = rest} sp all) s ms is k i j left l = λ o h.
        let n = next_of ms k left in
        let cut = path_splits (OnLine x) w l in
        let once = call_step (calls is (Calling.member n.is)) (plain_node is (λ t. elim t [ ]))
        (node_runs d m i cut.mid sp cut.left) o h in
        let on = run_all ds all s ms is (k + 1) cut.mid j n.rest cut.right o once in
        let same : k + 1 + length rest ≡ k + suc (length rest) = omega arith in
        subst (λ v. Holds flat x j (at s v) o) same on

    run_some : {es : Elements} {w left : List ℕ} → DerivesSome has rules es w
        → SpellAll rules limit flat.nodes left es →
        (s : ℕ) (ms : List ℕ) → slice_get flat.nodes s ≡ Some (Alt ms) → (k i j : ℕ) → drop k ms ≡ left → Lies x i w j
        → Chosen s i j ms
    run_some (this d) (spell_more {m = m} sp all) s ms is k i j left l =
        let n = next_of ms k left in
        record {
          one = k;
          below = n.below;
          steps = call_step (calls is (Calling.alternative n.is)) (plain_node is
              (λ t. elim t [ ])) (node_runs d m i j sp l);
        }
    run_some (later d) (spell_more sp all) s ms is k i j left l =
        let n = next_of ms k left in run_some d all s ms is (k + 1) i j n.rest l

    pub run_times : {el : Element} {k : ℕ} {w : List ℕ} → DerivesTimes has rules el k w → (s a m : ℕ) (b : Option ℕ)
        → slice_get flat.nodes s ≡ Some (Rep a b m) →
        Spells rules limit flat.nodes m el → (t f i j : ℕ) → Turned a b t f → der.AtMost (t + k) b → Lies x i w j
        → Iterations s a b (t + k) f i j
    run_times no_more s a m b is sp t f i j turned within here =
        let same : t ≡ t + 0 = omega arith in
        record { to = f; turned = subst (λ v. Turned a b v f) same turned; steps = λ o h. h }
    run_times (one_more {k = k} {w = w} d ds) s a m b is sp t f i j turned within l =
        let n = iteration_on a b m t f turned (within_less t k b within) in
        let cut = path_splits (OnLine x) w l in
        let once = call_step (calls is n.calling) (plain_node is (λ t. elim t [ ]))
        (node_runs d m i cut.mid sp cut.left) in
        let on = run_times ds s a m b is sp (suc t) n.to cut.mid j n.turned (within_same t k b within) cut.right in
        let same : suc t + k ≡ t + suc k = omega arith in
        record {
          to = on.to;
          turned = subst (λ v. Turned a b v on.to) same on.turned;
          steps = λ o h. on.steps o (once o h);
        }

    pub run_iterations : {el : Element} {k : ℕ} {w : List ℕ} → DerivesTimes has rules el k w
        → (s m : ℕ) (b d : Option ℕ)
        → slice_get flat.nodes s ≡ Some (Node.Iterations d m) → d ≡ capped_most limit b →
        Spells rules limit flat.nodes m el → (t f i j : ℕ) → Turned 0 d t f → der.AtMost t d → der.AtMost (t + k) b
        → t + length w ≤ limit → Lies x i w j → Counted s d (t + k) f i j
    run_iterations no_more s m b d is most sp t f i j turned counted within under here =
        record { count = t; to = f; turned = turned; within = counted; fewer = omega arith; steps = λ o h. h }
    run_iterations (one_more {k = k} {w = []} e ds) s m b d is most sp t f i j turned counted within under l =
        let on = run_iterations ds s m b d is most sp t f i j turned counted (fewer_within t k b within) under l in
        record {
          count = on.count;
          to = on.to;
          turned = on.turned;
          within = on.within;
          fewer = (let few = on.fewer in omega (arith, few));
          steps = on.steps;
        }
    run_iterations (one_more {k = k} {w = c ∷ w} {v = v} e ds) s m b d is most sp t f i j turned counted within under l
        =
        let all = length-append w v in
        let one : t + 1 ≤ limit = omega (arith, all, under) in
        let n = take_on limit t k b d m f most one within turned in
        let cut = path_splits (OnLine x) (c ∷ w) l in
        let ahead = lies_count x cut.left in
        let once = call_step (calls is n.calling) (λ t. let lt : i < cut.mid = omega (arith, ahead) in lt)
        (node_runs e m i cut.mid sp cut.left) in
        let on = run_iterations ds s m b d is most sp (suc t) n.to cut.mid j n.turned n.within
        (within_same t k b within)
        (omega (arith, all, under)) cut.right in
        record {
          count = on.count;
          to = on.to;
          turned = on.turned;
          within = on.within;
          fewer = (let few = on.fewer in omega (arith, few));
          steps = λ o h. on.steps o (once o h);
        }
