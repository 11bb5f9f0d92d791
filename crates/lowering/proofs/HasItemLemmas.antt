-- Where letters begin a list that the judged rule derives, an item stands after each of them.
-- Serves: lower_viable.
use Rattle.std.proofs.Common.{◌≡◌, ℕ, zero, suc, ◌+◌, ◌<◌, ◌≤◌, ◌⊎◌, inl, inr, ⊎_elim, Some, None, Option, List, []}
use Rattle.std.proofs.Common.{◌∷◌, ◌++◌, length, take, drop, refl, sym, ◌∙◌, subst, arith}
use Rattle.std.specs.Prelude.{slice_get, Bool}
use Rattle.std.proofs.lemmas.List.{length-take-le}
use Rattle.abnfread.specs.Element as e
use Rattle.abnfread.specs.Element.{Element, Elements, Rule}
use Rattle.abnfcheck.specs.Prefixes.{BeginsMember}
use Rattle.abnfcheck.specs.Derivable as der
use Rattle.abnfcheck.specs.Derivable.{AreLetters, Derives, DerivesAll, DerivesSome, DerivesTimes, all_done, then, this}
use Rattle.abnfcheck.specs.Derivable.{later, no_more, one_more, RuleDerives}
use Rattle.abnfcheck.proofs.IsPathLemmas.{here, step, path_splits}
use Rattle.abnfcheck.proofs.LiesLemmas.{OnLine, Lies, all_of}
use Rattle.flatgrammar.specs.Flat.{Node, Flat, Letters, Concat, Alt, Rep, Dot, at, Set, Has, Reading, Calling, Begins}
use Rattle.flatgrammar.specs.Flat.{Starts, starts, name_starts, reads, calls}
use Rattle.flatgrammar.specs.Holds.{Holds, begins, called, has_read}
use Rattle.lowering.specs.Lowered.{capped_most, Spells, spells, shows_text, shows_values, shows_range, shows_concat}
use Rattle.lowering.specs.Lowered.{shows_alt, shows_rep, shows_iterations, shows_reversed, shows_opt, shows_name}
use Rattle.lowering.specs.Lowered.{SpellAll, spell_none, spell_more, AreBodies, IsLowered}
use Rattle.flatgrammar.specs.Holds.{HasItem}
use Rattle.lowering.proofs.BeforeLemmas.{Fit, fit_none, fit_more, text_fits, values_fit, Turned, turned_none}
use Rattle.lowering.specs.NullElements.{IsNeverEmpty}
use Rattle.lowering.proofs.NodeRunsLemmas.{next_of, iteration_on, take_on, within_same, fewer_within}
use Rattle.lowering.proofs.NodeRunsLemmas.{node_runs, call_step, plain_node}
use Rattle.lowering.proofs.CappedMostLemmas.{most_is}
use Rattle.lowering.proofs.OnLineLemmas.{lies_count}
use Rattle.abnfcheck.proofs.RuleIdLemmas.{body_at_id}
use Rattle.lowering.proofs.RuleNodeLemmas.{node_of_rule}

-- one list ends within another
append_splits : (w v u r : List ℕ) → w ++ v ≡ u ++ r → ((m : List ℕ) × (u ≡ w ++ m) × (v ≡ m ++ r))
    ⊎ ((m : List ℕ) × (w ≡ u ++ m))
append_splits [] v u r h = inl (u, refl, h)
append_splits (c ∷ w) v [] r h = inr (c ∷ w, refl)
append_splits (c ∷ w) v (b ∷ u) r h =
    let same : c ≡ b = cc h in
    let rest : w ++ v ≡ u ++ r = cc h in
    ⊎_elim (λ a. inl (a.0, cc (same, a.1), a.2)) (λ a. inr (a.0, cc (same, a.1))) (append_splits w v u r rest)

module _ (has : ℕ → Bool) (rules : List Rule) (limit : ℕ) (flat : Flat)
    (bodies : AreBodies rules limit flat.nodes flat.bodies) (x : List ℕ) (line : length x ≤ limit) where
  ended_item : {i o : ℕ} {p : Dot} (u r : List ℕ) (j : ℕ) → [] ≡ u ++ r → Lies x i u j → Holds flat x i p o
      → HasItem flat x j
  ended_item {i = i} {o = o} {p = p} [] r j same here h = record { position = p; origin = o; held = h }
  ended_item (c ∷ u) r j same l h = absurd (cc same)

  reach_letters : (s : ℕ) (sets : List Set) → slice_get flat.nodes s ≡ Some (Letters sets)
      → {left : List Set} {v : List ℕ} → Fit left v →
      (k i j o : ℕ) → drop k sets ≡ left → (u r : List ℕ) → v ≡ u ++ r → Lies x i u j → Holds flat x i (at s k) o
      → HasItem flat x j
  reach_letters s sets is f k i j o left u r same here h = record { position = at s k; origin = o; held = h }
  reach_letters s sets is fit_none k i j o left u r same (step on l) h = absurd (cc same)
  reach_letters s sets is (fit_more {set = set} {c = c} {w = w} lies f) k i j o left (b ∷ u) r same
      (step {k = after} on l) h =
      let n = next_of sets k left in
      let one : c ≡ b = cc same in
      let rest : w ≡ u ++ r = cc same in
      let once = subst (λ v. Holds flat x v (at s (k + 1)) o) on.1
      (has_read h (reads is (Reading.letter n.is)) on.0 (subst (λ v. Has set v) one lies)) in
      reach_letters s sets is f (k + 1) after j o n.rest u r rest l once

  -- a further iteration is counted, since those before took a letter each
  iteration_room : (t k : ℕ) (b d : Option ℕ) → d ≡ capped_most limit b → t ≤ limit → der.AtMost (t + suc k) b
      → der.AtMost (suc t) d
  iteration_room t k None None is le within = tt
  iteration_room t k None (Some d) is le within = absurd (cc is)
  iteration_room t k (Some b) None is le within = tt
  iteration_room t k (Some b) (Some d) is le within = let one : Some b ≡ Some d = most_is limit (Some b) d is in
      let same : b ≡ d = cc one in omega (arith, same, within)

  some_letter : {el : Element} {w : List ℕ} → IsNeverEmpty rules el → Derives has rules el w → 0 < length w
  some_letter {w = []} never d = absurd (never has d)
  some_letter {w = c ∷ w} never d = omega arith

  mutual
    pub item_reached : {el : Element} {v : List ℕ} → Derives has rules el v → (s i j : ℕ) → j ≤ length x
        → Spells rules limit flat.nodes s el → (u r : List ℕ) → v ≡ u ++ r → Lies x i u j →
        ((p : Dot) → Starts flat s p → Holds flat x i p i) → HasItem flat x j
    item_reached (der.text {w = w} d) s i j le (spells is (shows_text {sets = sets} same)) u r cut l begin =
        reach_letters s sets is (subst (λ v. Fit v w) (sym same) (text_fits d)) 0 i j i refl u r cut l
        (begin (at s 0) (starts is Begins.letters))
    item_reached (der.values {vs = vs} letters) s i j le (spells is (shows_values {sets = sets} same)) u r cut l begin =
        reach_letters s sets is (subst (λ v. Fit v vs) (sym same) (values_fit vs)) 0 i j i refl u r cut l
        (begin (at s 0) (starts is Begins.letters))
    item_reached (der.range low high letter) s i j le (spells is shows_range) u r cut l begin =
        reach_letters s _ is (fit_more (low, high) fit_none) 0 i j i refl u r cut l
        (begin (at s 0) (starts is Begins.letters))
    item_reached (der.concat d) s i j le (spells is (shows_concat {ms = ms} all)) u r cut l begin =
        reach_all d all s ms is 0 i j i le refl u r cut l (begin (at s 0) (starts is Begins.concat))
    item_reached (der.alt d) s i j le (spells is (shows_alt {ms = ms} all)) u r cut l begin =
        reach_some d all s ms is 0 i j le refl u r cut l begin
    item_reached (der.rep {k = count} {b = b} low within d) s i j le
        (spells is (shows_rep {c = c} {m = m} {d = d'} least most bounds never sp)) u r cut l begin =
        reach_times d s c m b d' most is sp never 0 0 i j i le (turned_none c d') (from_none count b within)
        (omega arith) u r cut l (begin (at s 0) (starts is Begins.rep))
      where
        from_none : (k : ℕ) (b : Option ℕ) → der.AtMost k b → der.AtMost (0 + k) b
        from_none k None h = tt
        from_none k (Some b) h = omega (arith, h)
    item_reached (der.rep low within d) s i j le (spells is (shows_reversed lt)) u r cut l begin =
        absurd (omega (arith, low, within, lt))
    item_reached (der.rep {k = count} low within d) s i j le
        (spells is (shows_iterations {m = m} {b = b} {d = d'} most some empty sp)) u r cut l begin =
        reach_iterations d s m b d' most is sp 0 0 i j i le (turned_none 0 d') (none_within d')
        (from_none count b within)
        (omega arith) u r cut l (begin (at s 0) (starts is Begins.iterations))
      where
        from_none : (k : ℕ) (b : Option ℕ) → der.AtMost k b → der.AtMost (0 + k) b
        from_none k None h = tt
        from_none k (Some b) h = omega (arith, h)

        none_within : (d : Option ℕ) → der.AtMost 0 d
        none_within None = tt
        none_within (Some d) = omega arith
    item_reached der.opt_empty s i j le (spells is (shows_opt sp)) u r cut l begin =
        ended_item u r j cut l (begin (at s 1) (starts is Begins.opt_empty))
    item_reached (der.opt d) s i j le (spells is (shows_opt {m = m} sp)) u r cut l begin =
        item_reached d m i j le sp u r cut l (λ p st. called (begin (at s 0) (starts is Begins.opt))
        (calls is Calling.operand) st)
    item_reached (der.name {e = el} found d) s i j le (spells is (shows_name {n = n} {r = q} number_is)) u r cut l
        begin =
        let h = node_of_rule rules limit flat.nodes flat.bodies bodies q el
        (subst (λ v. slice_get (e.bodies rules) v ≡ Some el) (sym number_is) (sym (body_at_id rules n) ∙ found)) in
        item_reached d h.node i j le h.spelled u r cut l (λ p st. begin p (name_starts is h.at st))

    reach_all : {es : Elements} {v : List ℕ} {left : List ℕ} → DerivesAll has rules es v
        → SpellAll rules limit flat.nodes left es →
        (s : ℕ) (ms : List ℕ) → slice_get flat.nodes s ≡ Some (Concat ms) → (k i j o : ℕ) → j ≤ length x
        → drop k ms ≡ left → (u r : List ℕ) → v ≡ u ++ r → Lies x i u j →
        Holds flat x i (at s k) o → HasItem flat x j
    reach_all all_done spell_none s ms is k i j o le left u r cut l h = ended_item u r j cut l h
    reach_all (then {w = w} {v = v} d ds) (spell_more {m = m} sp all) s ms is k i j o le left u r cut l h =
        let n = next_of ms k left in
        ⊎_elim
        (λ after.
        let at_mid = path_splits (OnLine x) w (subst (λ z. Lies x i z j) after.1 l) in
        let once = call_step has rules limit flat bodies x line (calls is (Calling.member n.is))
        (plain_node has rules limit flat bodies x line is (λ t. elim t [ ]))
        (node_runs has rules limit flat bodies x line d m i at_mid.mid sp at_mid.left) o h in
        reach_all ds all s ms is (k + 1) at_mid.mid j o le n.rest after.0 r after.2 at_mid.right once)
        (λ inside. item_reached d m i j le sp u inside.0 inside.1 l
        (λ p st. called h (calls is (Calling.member n.is)) st))
        (append_splits w v u r cut)

    reach_some : {es : Elements} {v left : List ℕ} → DerivesSome has rules es v
        → SpellAll rules limit flat.nodes left es →
        (s : ℕ) (ms : List ℕ) → slice_get flat.nodes s ≡ Some (Alt ms) → (k i j : ℕ) → j ≤ length x → drop k ms ≡ left
        → (u r : List ℕ) → v ≡ u ++ r → Lies x i u j →
        ((p : Dot) → Starts flat s p → Holds flat x i p i) → HasItem flat x j
    reach_some (this d) (spell_more {m = m} sp all) s ms is k i j le left u r cut l begin =
        let n = next_of ms k left in
        item_reached d m i j le sp u r cut l (λ p st. called (begin (at s k) (starts is (Begins.alt n.below)))
        (calls is (Calling.alternative n.is)) st)
    reach_some (later d) (spell_more sp all) s ms is k i j le left u r cut l begin =
        let n = next_of ms k left in reach_some d all s ms is (k + 1) i j le n.rest u r cut l begin

    reach_times : {el : Element} {count : ℕ} {v : List ℕ} → DerivesTimes has rules el count v
        → (s c m : ℕ) (b d : Option ℕ) → d ≡ capped_most limit b → slice_get flat.nodes s ≡ Some (Rep c d m) →
        Spells rules limit flat.nodes m el → IsNeverEmpty rules el → (t f i j o : ℕ) → j ≤ length x → Turned c d t f
        → der.AtMost (t + count) b → t ≤ i →
        (u r : List ℕ) → v ≡ u ++ r → Lies x i u j → Holds flat x i (at s f) o → HasItem flat x j
    reach_times no_more s c m b d most is sp never t f i j o le turned within few u r cut l h = ended_item u r j cut l h
    reach_times (one_more {k = k} {w = w} {v = v} e ds) s c m b d most is sp never t f i j o le turned within few u r
        cut l h =
        let on = lies_count x l in
        let n = iteration_on c d m t f turned (iteration_room t k b d most (omega (arith, few, on, le, line)) within) in
        ⊎_elim
        (λ after.
        let at_mid = path_splits (OnLine x) w (subst (λ z. Lies x i z j) after.1 l) in
        let long = lies_count x at_mid.left in
        let some = some_letter never e in
        let once = call_step has rules limit flat bodies x line (calls is n.calling)
        (plain_node has rules limit flat bodies x line is (λ t. elim t [ ]))
        (node_runs has rules limit flat bodies x line e m i at_mid.mid sp at_mid.left) o h in
        reach_times ds s c m b d most is sp never (suc t) n.to at_mid.mid j o le n.turned (within_same t k b within)
        (omega (arith, few, long, some)) after.0 r after.2 at_mid.right once)
        (λ inside. item_reached e m i j le sp u inside.0 inside.1 l (λ p st. called h (calls is n.calling) st))
        (append_splits w v u r cut)

    reach_iterations : {el : Element} {count : ℕ} {v : List ℕ} → DerivesTimes has rules el count v
        → (s m : ℕ) (b d : Option ℕ) → d ≡ capped_most limit b → slice_get flat.nodes s ≡ Some (Node.Iterations d m) →
        Spells rules limit flat.nodes m el → (t f i j o : ℕ) → j ≤ length x → Turned 0 d t f → der.AtMost t d
        → der.AtMost (t + count) b → t ≤ i →
        (u r : List ℕ) → v ≡ u ++ r → Lies x i u j → Holds flat x i (at s f) o → HasItem flat x j
    reach_iterations no_more s m b d most is sp t f i j o le turned counted within few u r cut l h = ended_item u r j
        cut l h
    reach_iterations (one_more {k = k} {w = []} e ds) s m b d most is sp t f i j o le turned counted within few u r cut
        l h =
        reach_iterations ds s m b d most is sp t f i j o le turned counted (fewer_within t k b within) few u r cut l h
    reach_iterations (one_more {w = c ∷ w} e ds) s m b d most is sp t f i j o le turned counted within few u r cut here
        h =
        record { position = at s f; origin = o; held = h }
    reach_iterations (one_more {k = k} {w = c ∷ w} {v = v} e ds) s m b d most is sp t f i j o le turned counted within
        few
        (a ∷ u) r cut (step at_i l) h =
        let on = lies_count x (step at_i l) in
        let n = take_on limit t k b d m f most (omega (arith, few, on, le, line)) within turned in
        ⊎_elim
        (λ after.
        let at_mid = path_splits (OnLine x) (c ∷ w) (subst (λ z. Lies x i z j) after.1 (step at_i l)) in
        let long = lies_count x at_mid.left in
        let once = call_step has rules limit flat bodies x line (calls is n.calling)
        (λ t. let lt : i < at_mid.mid = omega (arith, long) in lt)
        (node_runs has rules limit flat bodies x line e m i at_mid.mid sp at_mid.left) o h in
        reach_iterations ds s m b d most is sp (suc t) n.to at_mid.mid j o le n.turned n.within
        (within_same t k b within)
        (omega (arith, few, long)) after.0 r after.2 at_mid.right once)
        (λ inside. item_reached e m i j le sp (a ∷ u) inside.0 inside.1 (step at_i l)
        (λ p st. called h (calls is n.calling) st))
        (append_splits (c ∷ w) v (a ∷ u) r cut)

front_at : (x : List ℕ) (j i : ℕ) {c : ℕ} → slice_get (take j x) i ≡ Some c → slice_get x i ≡ Some c
front_at x zero i is = absurd (cc is)
front_at [] (suc j) i is = absurd (cc is)
front_at (b ∷ x) (suc j) zero is = is
front_at (b ∷ x) (suc j) (suc i) is = front_at x j i is

front_lies : (x : List ℕ) (j : ℕ) {i k : ℕ} {w : List ℕ} → Lies (take j x) i w k → Lies x i w k
front_lies x j here = here
front_lies x j (step {i = i} on l) = step (front_at x j i on.0, on.1) (front_lies x j l)

module _ (has : ℕ → Bool) (rules : List Rule) (judged : ℕ) (flat : Flat) (lowered : IsLowered rules judged flat)
    (x : List ℕ) (line : length x ≤ flat.limit) where
  pub has_item : (j : ℕ) → j ≤ length x → BeginsMember has rules judged x j → HasItem flat x j
  has_item j le b =
      let d = b.derives in
      let h = node_of_rule rules flat.limit flat.nodes flat.bodies lowered.spelled judged d.body d.is in
      let same : h.node ≡ lowered.body = cc (h.at, lowered.body_is) in
      let front = subst (λ v. Lies x 0 (take j x) v) (length-take-le j x le) (front_lies x j (all_of (take j x))) in
      item_reached has rules flat.limit flat lowered.spelled x line d.derives lowered.body 0 j le
      (subst (λ v. Spells rules flat.limit flat.nodes v d.body) same h.spelled) (take j x) b.rest refl front
      (λ p st. called (begins (starts lowered.whole Begins.concat)) (calls lowered.whole (Calling.member refl)) st)
