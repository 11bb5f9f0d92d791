-- What tops on suffixes accept, and what states accept.
-- Serves: is_included.
use Rattle.std.proofs.Common.{◌≡◌, ◌⊎◌, inl, inr, ℕ, zero, suc, ◌+◌, ◌<◌, ◌≤◌, List, [], ◌∷◌, ◌++◌, length, refl}
use Rattle.std.proofs.Common.{sym, ◌∙◌, ap, subst, arith, length-append, append-nil, drop}
use Rattle.std.specs.Prelude.{Bool, true, false, Contains, slice_get, Some}
use Rattle.abnfcheck.specs.Derivable.{AreLetters}
use Rattle.flatgrammar.specs.Flat.{Calls, calls, Calling, Flat, Has, Node, Dot, Reading, Reads}
use Rattle.flatgrammar.specs.Flat as f
use Rattle.flatgrammar.specs.Stacks.{Accepts, AreAlike, IsDoneAt, is_done, IsNext, IsReading, reading, IsStackClosure}
use Rattle.flatgrammar.specs.Stacks.{Led, led, Lifted, Moves, call, tail_call, return, Reach, ReadBy}
use Rattle.lazydfa.specs.StackCuts.{AreAllJoined, AreFull, IsStateFrom}
use Rattle.lazydfa.proofs.StateSetsLemmas.{contained_at, got_at}
use Rattle.rulelines.specs.StatePairs.{AreSamples, LeadsInto, StatePair}
use Rattle.rulelines.specs.StackSets.{AreClosedByCuts, by_stack, cut, dead, done, Drains, ends, IsCutInto, IsFollowed}
use Rattle.rulelines.specs.StackSets.{IsStartStack, is_start, leads, more, moves, reads, SomeDrains, StateAccepts}
use Rattle.rulelines.proofs.TakesLemmas.{no_led_none}

module _ (flat : Flat) (last : Dot → Bool) where
  abbrev Drain : List Dot → List ℕ → Type 0
  Drain = Drains flat last

  -- a top comes to its end, and then the suffix does
  record Splits (top suffix : List Dot) (w : List ℕ) : Type 0 where
    pub first : List ℕ
    pub rest : List ℕ
    pub word : w ≡ first ++ rest
    pub top_drains : Drain top first
    pub suffix_drains : Drain suffix rest

  by_move : {top next suffix : List Dot} {w : List ℕ} → Moves flat last top next → Splits next suffix w
      → Splits top suffix w
  by_move m s = record {
    first = s.first;
    rest = s.rest;
    word = s.word;
    top_drains = moves m s.top_drains;
    suffix_drains = s.suffix_drains;
  }

  no_rest : (rest suffix : List Dot) → (suffix ≡ [] → ⊥) → [] ≡ rest ++ suffix → ⊥
  no_rest [] suffix full same = full (sym same)
  no_rest (r ∷ rest) suffix full same = cc same

  split_drain : {s : List Dot} {w : List ℕ} → Drain s w → (t : Dot) (top suffix : List Dot) → (suffix ≡ [] → ⊥)
      → s ≡ t ∷ (top ++ suffix) → Splits (t ∷ top) suffix w
  split_drain (done {p = p} d) t top suffix full same = absurd (no_rest top suffix full (cc same))
  split_drain (moves (call {s = s} {p = p} {q = q} {r = r} {below = below} c st l) d) t top suffix full same =
      let is : q ≡ t = cc same in
      by_move (call (subst (λ v. Calls flat v s r) is c) st l) (split_drain d p (r ∷ top) suffix full (cc same))
  split_drain (moves (tail_call {s = s} {p = p} {q = q} {r = r} {below = below} c st l) d) t top suffix full same =
      let is : q ≡ t = cc same in
      by_move (tail_call (subst (λ v. Calls flat v s r) is c) st l) (split_drain d p top suffix full (cc same))
  split_drain (moves {w = w} (return {p = p} {r = r} {below = below} over) d) t [] suffix full same = record {
    first = [];
    rest = w;
    word = refl;
    top_drains = done (subst (λ v. IsDoneAt flat v) (cc same) over);
    suffix_drains = subst (λ v. Drain v w) (cc same) d;
  }
  split_drain (moves (return {p = p} {r = r} {below = below} over) d) t (u ∷ top) suffix full same =
      let is : p ≡ t = cc same in
      let on : r ≡ u = cc same in
      by_move (return (subst (λ v. IsDoneAt flat v) is over)) (split_drain d u top suffix full (cc same))
  split_drain (reads {q = q} {r = r} {set = set} {below = below} {c = c} {w = w} rd lies d) t top suffix full same =
      let is : q ≡ t = cc same in
      let g = split_drain d r top suffix full (cc same) in
      record {
        first = c ∷ g.first;
        rest = g.rest;
        word = ap (λ v. c ∷ v) g.word;
        top_drains = reads (subst (λ v. Reads flat v set r) is rd) lies g.top_drains;
        suffix_drains = g.suffix_drains;
      }

  move_over : {s t : List Dot} (suffix : List Dot) → Moves flat last s t → Moves flat last (s ++ suffix) (t ++ suffix)
  move_over suffix (call c st l) = call c st l
  move_over suffix (tail_call c st l) = tail_call c st l
  move_over suffix (return d) = return d

  join_drains : {top suffix : List Dot} {u v : List ℕ} → (suffix ≡ [] → ⊥) → Drain top u → Drain suffix v
      → Drain (top ++ suffix) (u ++ v)
  join_drains {suffix = []} full (done d) e = absurd (full refl)
  join_drains {suffix = r ∷ below} full (done d) e = moves (return d) e
  join_drains {suffix = suffix} full (moves m d) e = moves (move_over suffix m) (join_drains full d e)
  join_drains full (reads rd lies d) e = reads rd lies (join_drains full d e)

  split_some : (top suffix : List Dot) (w : List ℕ) → (top ≡ [] → ⊥) → (suffix ≡ [] → ⊥) → Drain (top ++ suffix) w
      → Splits top suffix w
  split_some [] suffix w some full d = absurd (some refl)
  split_some (t ∷ top) suffix w some full d = split_drain d t top suffix full refl

  rejoin_some : (tops suffixes stacks : List (List Dot)) → AreAllJoined tops suffixes stacks → AreFull suffixes
      → {u v w : List ℕ}
      → SomeDrains flat last (Contains tops) u → SomeDrains flat last (Contains suffixes) v → w ≡ u ++ v
      → SomeDrains flat last (Contains stacks) w
  rejoin_some tops suffixes stacks joined full t r same = record {
    stack = t.stack ++ r.stack;
    is = joined t.stack r.stack t.is r.is;
    drains = subst (λ v. Drain (t.stack ++ r.stack) v) (sym same) (join_drains (full r.stack r.is) t.drains r.drains);
  }

  -- what some stacks drain, their state accepts
  module _ (from : List Dot → Type 0) (tops : List (List Dot)) (ended : Bool)
      (is : IsStateFrom flat last from tops ended) where
    into_state : {s : List Dot} {w : List ℕ} → Led flat last from s → Drain s w → StateAccepts flat last tops ended w
    into_state l (done {p = p} d) = ends (is.ended_is.1 (record { position = p; led_to = l; done = d }))
    into_state l (moves m d) = into_state (Led.moves l m) d
    into_state l (reads {q = q} {r = r} {below = below} rd lies d) =
        by_stack (record {
          stack = q ∷ below;
          is = (is.tops_are (q ∷ below)).1 (reading rd, l);
          drains = reads rd lies d;
        })

    led_back : {s : List Dot} {w : List ℕ} → Led flat last from s → Drain s w → SomeDrains flat last from w
    led_back {s = s} (led f) d = record { stack = s; is = f; drains = d }
    led_back (Led.moves l m) d = led_back l (moves m d)

    out_of_state : {w : List ℕ} → StateAccepts flat last tops ended w → SomeDrains flat last from w
    out_of_state (ends e) = let g = is.ended_is.0 e in led_back g.led_to (done g.done)
    out_of_state (by_stack h) = led_back ((is.tops_are h.stack).0 h.is).1 h.drains

  -- a dotted rule that reads a symbol does nothing else
  sets_of : {node : Node} {k l : ℕ} {set : f.Set} → Reading node k set l
      → (sets : List f.Set) × (node ≡ f.Letters sets) × (k < length sets)
  sets_of (Reading.letter {sets = sets} {k = k} at) = (sets, refl, below sets k at)
    where
      below : (xs : List f.Set) (n : ℕ) {a : f.Set} → slice_get xs n ≡ Some a → n < length xs
      below [] n is = cc is
      below (x ∷ xs) zero is = omega arith
      below (x ∷ xs) (suc n) is = omega (arith, below xs n is)

  calls_none : {node : Node} {k n l : ℕ} (sets : List f.Set) → Calling node k n l → node ≡ f.Letters sets → ⊥
  calls_none sets (Calling.member at) same = cc same
  calls_none sets (Calling.alternative at) same = cc same
  calls_none sets (Calling.iteration lt) same = cc same
  calls_none sets Calling.iteration_uncounted same = cc same
  calls_none sets (Calling.takes lt) same = cc same
  calls_none sets Calling.takes_uncounted same = cc same
  calls_none sets Calling.operand same = cc same

  runs_on : {node : Node} {k : ℕ} (sets : List f.Set) → f.IsDone node k → node ≡ f.Letters sets → k < length sets → ⊥
  runs_on sets (f.IsDone.letters {sets = others} is) same lt =
      let one : others ≡ sets = cc same in omega (arith, is, ap length one, lt)
  runs_on sets (f.IsDone.concat is) same lt = cc same
  runs_on sets (f.IsDone.alt is) same lt = cc same
  runs_on sets (f.IsDone.rep least most) same lt = cc same
  runs_on sets (f.IsDone.iterations most) same lt = cc same
  runs_on sets f.IsDone.opt same lt = cc same
  runs_on sets f.IsDone.opt_empty same lt = cc same

  no_call : {q r t : Dot} {set : f.Set} {n : ℕ} → Reads flat q set r → Calls flat q n t → ⊥
  no_call (Reads.reads {node = node} is rd) (calls {node = other} at c) =
      let g = sets_of rd in
      let same : other ≡ node = cc (is, at) in calls_none g.0 c (same ∙ g.1)

  not_done : {q r : Dot} {set : f.Set} → Reads flat q set r → IsDoneAt flat q → ⊥
  not_done (Reads.reads {node = node} is rd) (is_done {node = other} at d) =
      let g = sets_of rd in
      let same : other ≡ node = cc (is, at) in runs_on g.0 d (same ∙ g.1) g.2

  no_move : {s t : List Dot} → IsReading flat s → Moves flat last s t → ⊥
  no_move (reading rd) (call c st l) = no_call rd c
  no_move (reading rd) (tail_call c st l) = no_call rd c
  no_move (reading rd) (return d) = not_done rd d

  -- the state after_symbol a letter
  module _ (tops next : List (List Dot)) (ended : Bool) (c d : ℕ) (alike : AreAlike flat c d)
      (is : IsNext flat last (Contains tops) d (Contains next) ended) where
    state_after : IsStateFrom flat last (ReadBy flat last (Contains tops) d) next ended
    state_after = record { tops_are = is.tops_are; ended_is = is.ended_is }

    after_symbol : (all_read : (top : List Dot) → Contains tops top → IsReading flat top) {s : List Dot}
        {w : List ℕ}
        → Contains tops s → Drain s w → (v : List ℕ) → w ≡ c ∷ v → StateAccepts flat last next ended v
    after_symbol all_read h (done dn) v same = cc same
    after_symbol all_read h (moves m dr) v same = absurd (no_move (all_read _ h) m)
    after_symbol all_read h (reads {q = q} {r = r} {set = set} {below = below} {c = b} {w = w} rd lies dr) v same =
        let symbol : b ≡ c = cc same in
        into_state (ReadBy flat last (Contains tops) d) next ended state_after
        (led (ReadBy.reads h rd ((alike q r set rd).0 (subst (λ x. Has set x) symbol lies))))
        (subst (λ x. Drain (r ∷ below) x) (cc same) dr)

    before_read : {s : List Dot} {v : List ℕ} → ReadBy flat last (Contains tops) d s → Drain s v
        → SomeDrains flat last (Contains tops) (c ∷ v)
    before_read (ReadBy.reads {q = q} {r = r} {set = set} {below = below} h rd lies) dr = record {
      stack = q ∷ below;
      is = h;
      drains = reads rd ((alike q r set rd).1 lies) dr;
    }

    before_symbol : {v : List ℕ} → StateAccepts flat last next ended v → SomeDrains flat last (Contains tops) (c ∷ v)
    before_symbol t =
        let g = out_of_state (ReadBy flat last (Contains tops) d) next ended state_after t in
        before_read g.is g.drains

  -- the whole accepts what is drained from where it begins
  at_end : (x : List ℕ) (j : ℕ) → j ≤ length x → drop j x ≡ [] → j ≡ length x
  at_end [] zero le same = refl
  at_end (c ∷ x) zero le same = cc same
  at_end [] (suc j) le same = absurd (omega (arith, le))
  at_end (c ∷ x) (suc j) le same = ap suc (at_end x j (omega (arith, le)) same)

  all_dropped : (x : List ℕ) → drop (length x) x ≡ []
  all_dropped [] = refl
  all_dropped (c ∷ x) = all_dropped x

  symbol_of : (x : List ℕ) (j c : ℕ) (w : List ℕ) → drop j x ≡ c ∷ w → (slice_get x j ≡ Some c) × (drop (suc j) x ≡ w)
      × (suc j ≤ length x)
  symbol_of [] zero c w same = cc same
  symbol_of [] (suc j) c w same = cc same
  symbol_of (b ∷ x) zero c w same = (cc same, cc same, omega arith)
  symbol_of (b ∷ x) (suc j) c w same = let g = symbol_of x j c w same in (g.0, g.1, omega (arith, g.2))

  drop_at : (x : List ℕ) (j c : ℕ) → slice_get x j ≡ Some c → drop j x ≡ c ∷ drop (suc j) x
  drop_at [] j c is = cc is
  drop_at (b ∷ x) zero c is = ap (λ v. v ∷ x) (cc is)
  drop_at (b ∷ x) (suc j) c is = drop_at x j c is

  module _ (x : List ℕ) where
    accepts_from : {s : List Dot} {w : List ℕ} → Drain s w → (j : ℕ) → Reach flat last x j s → j ≤ length x
        → drop j x ≡ w → Accepts flat last x (length x)
    accepts_from (done {p = p} d) j h le same = record {
      position = p;
      reached = subst (λ v. Reach flat last x v (p ∷ [])) (at_end x j le same) h;
      done = d;
    }
    accepts_from (moves m d) j h le same = accepts_from d j (Reach.moved h m) le same
    accepts_from (reads {q = q} {r = r} {below = below} {c = c} {w = w} rd lies d) j h le same =
        let g = symbol_of x j c w same in
        let next : suc j ≡ j + 1 = omega arith in
        accepts_from d (j + 1) (Reach.has_read h rd g.0 lies) (omega (arith, g.2))
        (subst (λ v. drop v x ≡ w) next g.1)

    drains_from : {j : ℕ} {s : List Dot} → Reach flat last x j s → Drain s (drop j x)
        → SomeDrains flat last (IsStartStack flat) x
    drains_from (Reach.begins {p = p} st) d = record { stack = p ∷ []; is = is_start st; drains = d }
    drains_from (Reach.moved h m) d = drains_from h (moves m d)
    drains_from (Reach.has_read {j = j} {c = c} {q = q} {r = r} {below = below} h rd at lies) d =
        let next : j + 1 ≡ suc j = omega arith in
        drains_from h (subst (λ v. Drain (q ∷ below) v) (sym (drop_at x j c at))
        (reads rd lies (subst (λ v. Drain (r ∷ below) (drop v x)) next d)))

    accepted_drains : Accepts flat last x (length x) → SomeDrains flat last (IsStartStack flat) x
    accepted_drains a = drains_from a.reached
        (subst (λ v. Drain (a.position ∷ []) v) (sym (all_dropped x)) (done a.done))

    drains_accepted : SomeDrains flat last (IsStartStack flat) x → Accepts flat last x (length x)
    drains_accepted h = by h.is h.drains
      where
        by : {s : List Dot} → IsStartStack flat s → Drain s x → Accepts flat last x (length x)
        by (is_start st) d = accepts_from d 0 (Reach.begins st) (omega arith) refl

symbols_in : (has : ℕ → Bool) (u v : List ℕ) → AreLetters has (u ++ v) → AreLetters has u × AreLetters has v
symbols_in has [] v all = (tt, all)
symbols_in has (c ∷ u) v all = let g = symbols_in has u v all.1 in ((all.0, g.0), g.1)

module _ (has : ℕ → Bool) (old : Flat) (old_last : Dot → Bool) (new : Flat) (new_last : Dot → Bool)
    (samples : List ℕ) (each : AreSamples old new has samples) (pairs : List StatePair)
    (closed : AreClosedByCuts old old_last new new_last samples pairs) where
  abbrev Old : StatePair → List ℕ → Type 0
  Old p = StateAccepts old old_last p.old p.old_ended

  abbrev New : StatePair → List ℕ → Type 0
  New p = StateAccepts new new_last p.new p.new_ended

  -- what a state accepts that has not ended, one of its stacks drains
  of_top : {flat : Flat} {last : Dot → Bool} {tops : List (List Dot)} {ended : Bool} {w : List ℕ} → ended ≡ false
      → StateAccepts flat last tops ended w → SomeDrains flat last (Contains tops) w
  of_top runs (ends e) = cc (runs, e)
  of_top runs (by_stack h) = h

  wider_accepts : {flat : Flat} {last : Dot → Bool} {tops others : List (List Dot)} {ended now : Bool} {w : List ℕ}
      → ((stack : List Dot) → Contains tops stack → Contains others stack) → (ended ≡ true → now ≡ true)
      → StateAccepts flat last tops ended w → StateAccepts flat last others now w
  wider_accepts are on (ends e) = ends (on e)
  wider_accepts are on (by_stack h) = by_stack (record { stack = h.stack; is = are h.stack h.is; drains = h.drains })

  -- what is drained from a stack whose top reads is not empty
  none_drained : {s : List Dot} {w : List ℕ} → IsReading old s → Drains old old_last s w → w ≡ [] → ⊥
  none_drained read (done d) same = ends_reading read d
    where
      ends_reading : {q : Dot} → IsReading old (q ∷ []) → IsDoneAt old q → ⊥
      ends_reading (reading rd) d = not_done old old_last rd d
  none_drained read (moves m d) same = no_move old old_last read m
  none_drained read (reads rd lies d) same = cc same

  not_empty : (p : StatePair) → Contains pairs p → p.old_ended ≡ false → (w : List ℕ) → Old p w → w ≡ [] → ⊥
  not_empty p is runs w h same =
      let o = of_top runs h in none_drained (closed.reading p is o.stack o.is) o.drains same

  some_length : (w : List ℕ) → (w ≡ [] → ⊥) → 0 < length w
  some_length [] full = absurd (full refl)
  some_length (c ∷ w) full = omega arith

  -- the pairs include all lists of at most n symbols
  abbrev UpTo : ℕ → Type 0
  UpTo n = (i : ℕ) (p : StatePair) → slice_get pairs i ≡ Some p → (w : List ℕ) → AreLetters has w → length w ≤ n
      → Old p w → New p w

  from_pairs : (n : ℕ) → UpTo n → (p : StatePair) → Contains pairs p → (w : List ℕ) → AreLetters has w → length w ≤ n
      → Old p w → New p w
  from_pairs n up p is w all le h = up is.0 p (got_at pairs p is) w all le h

  -- a cut pair, where both parts are shorter
  through_cut : (n : ℕ) → UpTo n → (p tops below : StatePair) → IsCutInto old old_last new new_last p tops below
      → Contains pairs tops → Contains pairs below → (w : List ℕ) → AreLetters has w → length w ≤ suc n
      → Old p w → New p w
  through_cut n up p tops below c on_tops on_below w all le h =
      let o = of_top c.runs h in
      let g = c.split o.stack o.is in
      let top_reads = closed.reading tops on_tops g.top g.is_top in
      let s = split_some old old_last g.top g.suffix w (not_nil top_reads) (c.old_full g.suffix g.is_suffix)
      (subst (λ v. Drains old old_last v w) g.is o.drains) in
      let size : length w ≡ length s.first + length s.rest = ap length s.word ∙ length-append s.first s.rest in
      let each = symbols_in has s.first s.rest (subst (λ v. AreLetters has v) s.word all) in
      let old_rest = into_state old old_last (Contains c.old_suffixes) below.old below.old_ended c.old_below
      (led g.is_suffix) s.suffix_drains in
      let first_some = some_length s.first (λ none. none_drained top_reads s.top_drains none) in
      let rest_some = some_length s.rest (λ none. not_empty below on_below c.below_runs s.rest old_rest none) in
      let t = of_top c.new_tops_run (from_pairs n up tops on_tops s.first each.0 (omega (arith, le, size, rest_some))
      (by_stack (record { stack = g.top; is = g.is_top; drains = s.top_drains }))) in
      let r = out_of_state new new_last (Contains c.new_suffixes) below.new below.new_ended c.new_below
      (from_pairs n up below on_below s.rest each.1 (omega (arith, le, size, first_some)) old_rest) in
      by_stack (rejoin_some new new_last tops.new c.new_suffixes p.new c.joined c.new_full t r s.word)
    where
      not_nil : {s : List Dot} → IsReading old s → s ≡ [] → ⊥
      not_nil (reading rd) same = cc same

  through_symbol : (n : ℕ) → UpTo n → (p : StatePair)
      → ((top : List Dot) → Contains p.old top → IsReading old top)
      → ((c : ℕ) → Contains samples c → LeadsInto old old_last new new_last pairs c p) → (c : ℕ) (w : List ℕ)
      → AreLetters has (c ∷ w) → length w ≤ n → Old p (c ∷ w) → New p (c ∷ w)
  through_symbol n up p all_read on c w all le h =
      let a = each c all.0 in
      let l = on a.sample a.is in
      let o = some_symbol h in
      by_stack (before_symbol new new_last p.new l.next.new l.next.new_ended c a.sample a.new_alike l.leads.new_next
      (from_pairs n up l.next l.is w all.1 le
      (after_symbol old old_last p.old l.next.old l.next.old_ended c a.sample a.old_alike l.leads.old_next
      all_read o.is o.drains w refl)))
    where
      some_symbol : {v : List ℕ} {b : ℕ} → Old p (b ∷ v) → SomeDrains old old_last (Contains p.old) (b ∷ v)
      some_symbol (by_stack g) = g

  -- a list that is not empty; k bounds the index
  on_symbols : (n : ℕ) → UpTo n → (k i : ℕ) → i < k → (p : StatePair) → slice_get pairs i ≡ Some p → (c : ℕ)
      (w : List ℕ) → AreLetters has (c ∷ w) → length w ≤ n → Old p (c ∷ w) → New p (c ∷ w)
  on_symbols n up zero i lt p is c w all le h = absurd (omega (arith, lt))
  on_symbols n up (suc k) i lt p is c w all le h =
      by (λ j less other at g. on_symbols n up k j less other at c w all le g) (closed.followed i p is)
    where
      no_stack : (none : p.old ≡ []) → {v : List ℕ} → Old p v → v ≡ c ∷ w → ⊥
      no_stack none (ends e) same = cc same
      no_stack none (by_stack g) same =
          let at = g.is.1 in let e = ap (λ v. length v) none in omega (arith, at, e)

      by : ((j : ℕ) → j < k → (other : StatePair) → slice_get pairs j ≡ Some other → Old other (c ∷ w)
          → New other (c ∷ w)) → IsFollowed old old_last new new_last samples pairs i p → New p (c ∷ w)
      by earlier (dead none) = absurd (no_stack none h refl)
      by earlier (leads on) = through_symbol n up p (closed.reading p (contained_at pairs i p is)) on c w all le h
      by earlier (cut {tops = tops} {below = below} into on_tops on_below) =
          through_cut n up p tops below into on_tops on_below (c ∷ w) all (omega (arith, le)) h
      by earlier (more {j = j} {other = other} before at asks) =
          wider_accepts asks.new_are asks.new_ends
          (earlier j (omega (arith, before, lt)) other at (wider_accepts asks.old_are asks.old_ends h))

  up_to : (n : ℕ) → UpTo n
  up_to n i p is [] all le (ends e) = ends (closed.ends p (contained_at pairs i p is) e)
  up_to n i p is [] all le (by_stack h) =
      absurd (none_drained (closed.reading p (contained_at pairs i p is) h.stack h.is) h.drains refl)
  up_to zero i p is (c ∷ w) all le h = absurd (omega (arith, le))
  up_to (suc n) i p is (c ∷ w) all le h =
      on_symbols n (up_to n) (suc i) i (omega arith) p is c w all (omega (arith, le)) h

  pub accepted_by_cuts : (first : StatePair) → Contains pairs first
      → IsStateFrom old old_last (IsStartStack old) first.old first.old_ended
      → IsStateFrom new new_last (IsStartStack new) first.new first.new_ended → (x : List ℕ) → AreLetters has x
      → Accepts old old_last x (length x) → Accepts new new_last x (length x)
  accepted_by_cuts first is old_first new_first x all a =
      let d = accepted_drains old old_last x a in
      let o = into_state old old_last (IsStartStack old) first.old first.old_ended old_first (led d.is) d.drains in
      drains_accepted new new_last x (out_of_state new new_last (IsStartStack new) first.new first.new_ended new_first
      (from_pairs (length x) (up_to (length x)) first is x all (omega arith) o))

-- the start state as a state of stacks
module _ (flat : Flat) (last : Dot → Bool) (tops : List (List Dot)) (ended : Bool)
    (closure : (x : List ℕ) → IsStackClosure flat last x 0 (Contains tops) ended []) where
  reach_led : {j : ℕ} {s : List Dot} → Reach flat last [] j s → j ≡ 0 → Led flat last (IsStartStack flat) s
  reach_led (Reach.begins st) same = led (is_start st)
  reach_led (Reach.moved h m) same = Led.moves (reach_led h same) m
  reach_led (Reach.has_read h rd at lies) same = absurd (omega (arith, same))

  led_reach : {s : List Dot} → Led flat last (IsStartStack flat) s → Reach flat last [] 0 s
  led_reach (led (is_start st)) = Reach.begins st
  led_reach (Led.moves h m) = Reach.moved (led_reach h) m

  pub starts_from : IsStateFrom flat last (IsStartStack flat) tops ended
  starts_from = record {
    tops_are = λ top. (
      λ h. let r = (closure []).all_read top h in (
        r,
        reach_led (((closure []).reading top r).1
            (inl (record { top = top; is = h; stack_is = sym (append-nil top) }))) refl,
      ),
      λ h. back top h.0 (((closure []).reading top h.0).0 (led_reach h.1)),
    );
    ended_is = (
      λ e. let a = (closure []).accepts.1 (e, inl refl) in
          record { position = a.position; led_to = reach_led a.reached refl; done = a.done },
      λ e. ((closure []).accepts.0
          (record { position = e.position; reached = led_reach e.led_to; done = e.done })).0,
    );
  }
    where
      not_none : IsReading flat [] → ⊥
      not_none r = by r refl
        where
          by : {s : List Dot} → IsReading flat s → s ≡ [] → ⊥
          by (reading rd) same = cc same

      back : (top : List Dot) → IsReading flat top
          → Lifted (Contains tops) [] top ⊎ ((ended ≡ true) × Led flat last (λ v. [] ≡ v) top) → Contains tops top
      back top r (inl l) = subst (λ v. Contains tops v) (sym (l.stack_is ∙ append-nil l.top)) l.is
      back top r (inr g) = absurd (no_led_none flat last top g.1
          (λ same. not_none (subst (λ v. IsReading flat v) same r)))
