-- The evaluation of an evaluation that the byte at its position decides stores nothing but itself.
-- Serves: one_byte_decides, Packrat::match_unit
use Rattle.std.proofs.Common.{◌≡◌, inl, inr, ℕ, zero, suc, ◌+◌, Bool, true, false, List, [], ◌∷◌, Some, None, Option}
use Rattle.std.proofs.Common.{refl, sym, subst, arith}
use Rattle.std.specs.Prelude.{slice_get}
use Rattle.pegread.specs.Pattern.{Rule}
use Rattle.pegnodes.specs.ByByte.{Succeeds, ByByte, by_shape, Below, below, ByShape, by_any, by_set_in, by_set_out}
use Rattle.pegnodes.specs.ByByte.{by_no_bytes, by_one_byte, by_other_byte, by_name, by_members, by_alternatives}
use Rattle.pegnodes.specs.ByByte.{by_opt_some, by_opt_none, by_and, by_and_fails, by_not, by_not_fails, by_no_iteration}
use Rattle.pegnodes.specs.ByByte.{by_no_plus, ByMembers, members_end, member_stays, member_fails, member_takes}
use Rattle.pegnodes.specs.ByByte.{member_leaves, LeavesEvent}
use Rattle.pegnodes.specs.ByByte.{ByAlternatives, alternatives_end, alternative_fails, alternative_succeeds}
use Rattle.pegnodes.specs.Nodes as node
use Rattle.pegnodes.specs.Nodes.{Shape}
use Rattle.gramcheck.specs.Sound.{IsRanked}
use Rattle.pegnodes.specs.declared.by_byte.ByteVerdict.{ByteVerdict}
use Rattle.pegnodes.specs.declared.by_byte.ByteVerdict.TheVariants.{Takes, Stays, Fails}
use Rattle.pegmatch.specs.KeptEvents.{SpellsSome}
use Rattle.pegmatch.specs.Visits.{NodeTakes, NodeFails}
use Rattle.memo.specs.Parts.{IsIn}
use Rattle.memo.specs.Run.{Run, run_key, run_plain, RunAll, run_none, run_more}
use Rattle.memo.specs.declared.task.MatchTask.{MatchTask}
use Rattle.memo.specs.declared.task.MatchTask.TheVariants.{Eval, Tail}
use Rattle.packrat.specs.ByteGives.{GivesBy, StoresItself}
use Rattle.packrat.specs.MachineSteps.{store}
use Rattle.packrat.specs.MatchTasks.{Kids, is_key}
use Rattle.packrat.specs.View.{weight}
use Rattle.packrat.proofs.ByteGivesLemmas.{gives_by, name_has, seq_has, choice_has, star_has, plus_has, opt_has}
use Rattle.packrat.proofs.ByteGivesLemmas.{and_has, not_has, event_of, event_gives}

module _ (rules : List Rule) (start : ℕ) (nodes : List Shape) (bodies ranks x : List ℕ)
    (sound : IsRanked rules start nodes bodies ranks) (marks : ℕ → Bool) (tails : ℕ → ℕ → Bool) where
  abbrev K : MatchTask → List MatchTask → Type 0
  K a ks = Kids rules nodes bodies x a ks

  abbrev R : List MatchTask → MatchTask → List MatchTask → ℕ → Type 0
  R old a new c = Run MatchTask K (is_key marks tails) weight old a new c

  abbrev RA : List MatchTask → List MatchTask → List MatchTask → ℕ → Type 0
  RA old ks new c = RunAll MatchTask K (is_key marks tails) weight old ks new c

  -- an evaluation that leaves what is stored as it was
  abbrev Quiet : MatchTask → ℕ → Type 0
  Quiet a c = (old : List MatchTask) → R old a old c

  abbrev QuietAll : List MatchTask → ℕ → Type 0
  QuietAll ks c = (old : List MatchTask) → RA old ks old c

  run_as : {old new : List MatchTask} {a : MatchTask} {c d : ℕ} → c ≡ d → R old a new c → R old a new d
  run_as {old = old} {new = new} {a = a} is r = subst (R old a new) is r

  all_as : {old new ks : List MatchTask} {c d : ℕ} → c ≡ d → RA old ks new c → RA old ks new d
  all_as {old = old} {new = new} {ks = ks} is r = subst (RA old ks new) is r

  quiet_none : QuietAll [] 0
  quiet_none old = run_none

  quiet_one : (a : MatchTask) (c : ℕ) → Quiet a c → QuietAll (a ∷ []) c
  quiet_one a c h old = all_as (omega arith) (run_more (h old) run_none)

  quiet_two : (a b : MatchTask) (c d : ℕ) → Quiet a c → Quiet b d → QuietAll (a ∷ (b ∷ [])) (c + d)
  quiet_two a b c d h k old = run_more (h old) (quiet_one b d k old)

  abbrev Itself : MatchTask → ℕ → Type 0
  Itself a c = StoresItself rules nodes bodies x marks tails a c

  itself_of : (a : MatchTask) (ks : List MatchTask) (c : ℕ) → K a ks → QuietAll ks c → Itself a (weight a + c)
  itself_of a ks c k q = record { kids = ks; are = k; below = c; runs = q; whole = refl }

  -- a task that is no key
  quiet_plain : (a : MatchTask) (ks : List MatchTask) (c : ℕ) → is_key marks tails a ≡ false → K a ks → QuietAll ks c
      → Quiet a (weight a + c)
  quiet_plain a ks c f k q old = run_plain f k (q old)

  pub itself_quiet : (a : MatchTask) (c : ℕ) → is_key marks tails a ≡ false → Itself a c → Quiet a c
  itself_quiet a c f h old = run_as h.whole (quiet_plain a h.kids h.below f h.are h.runs old)

  -- any task that is not stored yet
  pub itself_runs : (a : MatchTask) (c : ℕ) (old : List MatchTask) → (is_key marks tails a ≡ true → IsIn a old → ⊥)
      → Itself a c
      → R old a (store MatchTask (is_key marks tails a) a old) c
  itself_runs a c old fresh h = run_as h.whole (by (is_key marks tails a) refl)
    where
      by : (v : Bool) → is_key marks tails a ≡ v → R old a (store MatchTask v a old) (weight a + h.below)
      by true is = run_key is (fresh is) h.are (h.runs old)
      by false is = run_plain is h.are (h.runs old)

  abbrev Has : ℕ → Type 0
  Has n = SpellsSome rules nodes n

  abbrev At : ℕ → Shape → Type 0
  At n s = slice_get nodes n ≡ Some s

  module _ (b p : ℕ) (here : slice_get x p ≡ Some b) where
    abbrev Below' : ℕ → ByteVerdict → ℕ → Type 0
    Below' m v c = Below nodes bodies marks tails b m v c

    takes_by : (m : ℕ) (v : ByteVerdict) → Succeeds v → GivesBy rules nodes bodies x m p v
        → (q : ℕ) × NodeTakes rules nodes bodies x m p q
    takes_by m Takes t g = (p + 1, record { events = []; looked = g.looked; gives = g.gives })
    takes_by m Stays t g = (p, record { events = []; looked = g.looked; gives = g.gives })
    takes_by m Fails t g = absurd t

    stays_by : (m : ℕ) → GivesBy rules nodes bodies x m p Stays → NodeTakes rules nodes bodies x m p p
    stays_by m g = record { events = []; looked = g.looked; gives = g.gives }

    fails_by : (m : ℕ) → GivesBy rules nodes bodies x m p Fails → NodeFails rules nodes bodies x m p
    fails_by m g = record { looked = g.looked; gives = g.gives }

    below_by : {m c : ℕ} {v : ByteVerdict} → Below' m v c → Has m → GivesBy rules nodes bodies x m p v
    below_by (below t h) s = gives_by rules start nodes bodies ranks x sound marks tails b p here h s

    -- after the last member no evaluation begins
    no_members : {n i c : ℕ} {ms : List ℕ} {v : ByteVerdict} → ByMembers nodes bodies marks tails b n ms i v c
        → slice_get ms i ≡ None → c ≡ 0
    no_members (members_end e) none = refl
    no_members (member_stays at t h r) none = absurd (cc (at, none))
    no_members (member_fails at t h) none = absurd (cc (at, none))
    no_members (member_takes at last t h) none = absurd (cc (at, none))
    no_members (member_leaves at t free there l r) none = absurd (cc (at, none))

    no_alternatives : {n i c : ℕ} {ms : List ℕ} {v : ByteVerdict}
        → ByAlternatives nodes bodies marks tails b n ms i v c → slice_get ms i ≡ None → c ≡ 0
    no_alternatives (alternatives_end e) none = refl
    no_alternatives (alternative_fails at t h r) none = absurd (cc (at, none))
    no_alternatives (alternative_succeeds at t some h) none = absurd (cc (at, none))

    module _ (n i m : ℕ) (ms : List ℕ) (there : slice_get ms i ≡ Some m) (t : tails n i ≡ false) where
      quiet_last : (c : ℕ) → K (Tail n i p) (Eval m p ∷ []) → Quiet (Eval m p) c → Quiet (Tail n i p) c
      quiet_last c k q old =
          run_as (omega arith) (quiet_plain (Tail n i p) (Eval m p ∷ []) c t k (quiet_one (Eval m p) c q) old)

      quiet_more : (c d : ℕ) → K (Tail n i p) (Eval m p ∷ (Tail n (suc i) p ∷ [])) → Quiet (Eval m p) c
          → Quiet (Tail n (suc i) p) d → Quiet (Tail n i p) (c + d)
      quiet_more c d k q r old =
          run_as (omega arith) (quiet_plain (Tail n i p) (Eval m p ∷ (Tail n (suc i) p ∷ [])) (c + d) t k
          (quiet_two (Eval m p) (Tail n (suc i) p) c d q r) old)

      -- a member that stays, and the rest
      quiet_members : (c d : ℕ) → At n (node.Seq ms) → NodeTakes rules nodes bodies x m p p → Quiet (Eval m p) c
          → (slice_get ms (suc i) ≡ None → d ≡ 0)
          → ((k : ℕ) → slice_get ms (suc i) ≡ Some k → Quiet (Tail n (suc i) p) d) → Quiet (Tail n i p) (c + d)
      quiet_members c d at takes q none rest = by (slice_get ms (suc i)) refl
        where
          by : (o : Option ℕ) → slice_get ms (suc i) ≡ o → Quiet (Tail n i p) (c + d)
          by None is = λ old.
              let zero_more = none is in
              run_as (omega (arith, zero_more))
              (quiet_last c (node.Seq ms, at, (m, there, inl (inr is, refl))) q old)
          by (Some k) is = quiet_more c d (node.Seq ms, at, (m, there, inr (k, p, is, takes, refl))) q (rest k is)

      -- an alternative that fails, and the others
      quiet_alternatives : (c d : ℕ) → At n (node.Choice ms) → NodeFails rules nodes bodies x m p → Quiet (Eval m p) c
          → (slice_get ms (suc i) ≡ None → d ≡ 0)
          → ((k : ℕ) → slice_get ms (suc i) ≡ Some k → Quiet (Tail n (suc i) p) d) → Quiet (Tail n i p) (c + d)
      quiet_alternatives c d at fails q none rest = by (slice_get ms (suc i)) refl
        where
          by : (o : Option ℕ) → slice_get ms (suc i) ≡ o → Quiet (Tail n i p) (c + d)
          by None is = λ old.
              let zero_more = none is in
              run_as (omega (arith, zero_more))
              (quiet_last c (node.Choice ms, at, (m, there, inl (inr is, refl))) q old)
          by (Some k) is = quiet_more c d (node.Choice ms, at, (m, there, inr (k, is, fails, refl))) q (rest k is)

    itself_leaf : (n : ℕ) → K (Eval n p) [] → Itself (Eval n p) 1
    itself_leaf n k = record { kids = []; are = k; below = 0; runs = quiet_none; whole = refl }

    -- a node that leaves an event
    event_kids : (n : ℕ) (s : Shape) → At n s → LeavesEvent s → K (Eval n p) []
    event_kids n node.Any at l = absurd l
    event_kids n (node.Bytes bs) at l = absurd l
    event_kids n (node.Set s) at l = absurd l
    event_kids n (node.Name id) at l = absurd l
    event_kids n (node.Seq ms) at l = absurd l
    event_kids n (node.Choice ms) at l = absurd l
    event_kids n (node.Star m) at l = absurd l
    event_kids n (node.Plus m k) at l = absurd l
    event_kids n (node.Opt m) at l = absurd l
    event_kids n (node.And m) at l = absurd l
    event_kids n (node.Not m) at l = absurd l
    event_kids n (node.Act t) at l = (node.Act t, at, refl)
    event_kids n node.Open at l = (node.Open, at, refl)
    event_kids n node.Close at l = (node.Close, at, refl)

    event_takes : (n : ℕ) (s : Shape) → At n s → LeavesEvent s → Has n → NodeTakes rules nodes bodies x n p p
    event_takes n s at l h = record {
      events = event_of rules start nodes bodies ranks x sound marks tails b p here s ∷ [];
      looked = 0;
      gives = record {
        expr = h.0;
        spelled = h.1;
        gives = event_gives rules start nodes bodies ranks x sound marks tails b p here h.1 s at l;
      };
    }

    -- a node that goes on to one evaluation
    itself_one : (n m c : ℕ) → K (Eval n p) (Eval m p ∷ []) → Quiet (Eval m p) c → Itself (Eval n p) (1 + c)
    itself_one n m c k q = itself_of (Eval n p) (Eval m p ∷ []) c k (quiet_one (Eval m p) c q)

    -- a sequence or a choice
    itself_rest : (n c : ℕ) (ms : List ℕ) (s : Shape) → At n s
        → ((ks : List MatchTask) → ((slice_get ms zero ≡ None) × (ks ≡ [])) → K (Eval n p) ks)
        → ((m : ℕ) → slice_get ms zero ≡ Some m → K (Eval n p) (Tail n zero p ∷ []))
        → (slice_get ms zero ≡ None → c ≡ 0)
        → ((m : ℕ) → slice_get ms zero ≡ Some m → Quiet (Tail n zero p) c) → Itself (Eval n p) (1 + c)
    itself_rest n c ms s at empty some none rest = by (slice_get ms zero) refl
      where
        by : (o : Option ℕ) → slice_get ms zero ≡ o → Itself (Eval n p) (1 + c)
        by None is =
            let no_more = none is in
            subst (λ d. Itself (Eval n p) (1 + d)) (sym no_more)
            (itself_of (Eval n p) [] 0 (empty [] (is, refl)) quiet_none)
        by (Some m) is =
            itself_of (Eval n p) (Tail n zero p ∷ []) c (some m is) (quiet_one (Tail n zero p) c (rest m is))

    mutual
      pub by_byte_itself : {n c : ℕ} {v : ByteVerdict} → ByByte nodes bodies marks tails b n v c → Has n
          → Itself (Eval n p) c
      by_byte_itself (by_shape at h) s = shape_itself at h s

      below_quiet : {n c : ℕ} {v : ByteVerdict} → Below' n v c → Has n → Quiet (Eval n p) c
      below_quiet {n = n} {c = c} (below t h) s = itself_quiet (Eval n p) c t (by_byte_itself h s)

      shape_itself : {n c : ℕ} {sh : Shape} {v : ByteVerdict} → At n sh → ByShape nodes bodies marks tails b n sh v c
          → Has n → Itself (Eval n p) c
      shape_itself {n = n} at by_any s = itself_leaf n (node.Any, at, refl)
      shape_itself {n = n} at (by_set_in {s = set} t) s = itself_leaf n (node.Set set, at, refl)
      shape_itself {n = n} at (by_set_out {s = set} t) s = itself_leaf n (node.Set set, at, refl)
      shape_itself {n = n} at by_no_bytes s = itself_leaf n (node.Bytes [], at, refl)
      shape_itself {n = n} at (by_one_byte {c = c} is) s = itself_leaf n (node.Bytes (c ∷ []), at, refl)
      shape_itself {n = n} at (by_other_byte {c = c} {cs = cs} not) s = itself_leaf n (node.Bytes (c ∷ cs), at, refl)
      shape_itself {n = n} at (by_name {id = id} {m = m} {c = c} body h) s =
          itself_one n m c (node.Name id, at, (m, body, refl))
          (below_quiet h (name_has rules start nodes bodies ranks x sound n id m body))
      shape_itself {n = n} at (by_members {c = c} {ms = ms} h) s =
          itself_rest n c ms (node.Seq ms) at (λ ks e. (node.Seq ms, at, inl e))
          (λ m e. (node.Seq ms, at, inr (m, e, refl))) (no_members h)
          (λ m e. members_quiet at s h m e)
      shape_itself {n = n} at (by_alternatives {c = c} {ms = ms} h) s =
          itself_rest n c ms (node.Choice ms) at (λ ks e. (node.Choice ms, at, inl e))
          (λ m e. (node.Choice ms, at, inr (m, e, refl))) (no_alternatives h)
          (λ m e. alternatives_quiet at s h m e)
      shape_itself {n = n} at (by_opt_some {m = m} {c = c} t h) s =
          itself_one n m c (node.Opt m, at, refl)
          (below_quiet h (opt_has rules start nodes bodies ranks x sound n m at s))
      shape_itself {n = n} at (by_opt_none {m = m} {c = c} h) s =
          itself_one n m c (node.Opt m, at, refl)
          (below_quiet h (opt_has rules start nodes bodies ranks x sound n m at s))
      shape_itself {n = n} at (by_and {m = m} {c = c} t h) s =
          itself_one n m c (node.And m, at, refl)
          (below_quiet h (and_has rules start nodes bodies ranks x sound n m at s))
      shape_itself {n = n} at (by_and_fails {m = m} {c = c} h) s =
          itself_one n m c (node.And m, at, refl)
          (below_quiet h (and_has rules start nodes bodies ranks x sound n m at s))
      shape_itself {n = n} at (by_not {m = m} {c = c} h) s =
          itself_one n m c (node.Not m, at, refl)
          (below_quiet h (not_has rules start nodes bodies ranks x sound n m at s))
      shape_itself {n = n} at (by_not_fails {m = m} {c = c} t h) s =
          itself_one n m c (node.Not m, at, refl)
          (below_quiet h (not_has rules start nodes bodies ranks x sound n m at s))
      shape_itself {n = n} at (by_no_iteration {m = m} {c = c} h) s =
          let there = star_has rules start nodes bodies ranks x sound n m at s in
          itself_one n m c (node.Star m, at, inl (fails_by m (below_by h there), refl)) (below_quiet h there)
      shape_itself {n = n} at (by_no_plus {m = m} {s = k} {c = c} h) s =
          let there = plus_has rules start nodes bodies ranks x sound n m k at s in
          itself_one n m c (node.Plus m k, at, inl (fails_by m (below_by h there), refl)) (below_quiet h there)

      members_quiet : {n i c : ℕ} {ms : List ℕ} {v : ByteVerdict} → At n (node.Seq ms) → Has n
          → ByMembers nodes bodies marks tails b n ms i v c → (m : ℕ) → slice_get ms i ≡ Some m → Quiet (Tail n i p) c
      members_quiet at s (members_end e) m there = absurd (cc (e, there))
      members_quiet {n = n} {i = i} {ms = ms} at s (member_stays {m = k} {c = c} {d = d} is t h r) m there =
          let has = seq_has rules start nodes bodies ranks x sound n i k ms at s is in
          quiet_members n i k ms is t c d at (stays_by k (below_by h has)) (below_quiet h has) (no_members r)
          (λ l e. members_quiet at s r l e)
      members_quiet {n = n} {i = i} {ms = ms} at s (member_fails {m = k} {c = c} is t h) m there =
          let has = seq_has rules start nodes bodies ranks x sound n i k ms at s is in
          quiet_last n i k ms is t c (node.Seq ms, at, (k, is, inl (inl (fails_by k (below_by h has)), refl)))
          (below_quiet h has)
      members_quiet {n = n} {i = i} {ms = ms} at s (member_takes {m = k} {c = c} is last t h) m there =
          let has = seq_has rules start nodes bodies ranks x sound n i k ms at s is in
          quiet_last n i k ms is t c (node.Seq ms, at, (k, is, inl (inr last, refl))) (below_quiet h has)
      members_quiet {n = n} {i = i} {ms = ms} at s (member_leaves {m = k} {c = c} {s = sh} is t free k_at l r) m there =
          let has = seq_has rules start nodes bodies ranks x sound n i k ms at s is in
          quiet_members n i k ms is t 1 c at (event_takes k sh k_at l has)
          (itself_quiet (Eval k p) 1 free (itself_leaf k (event_kids k sh k_at l))) (no_members r)
          (λ m e. members_quiet at s r m e)

      alternatives_quiet : {n i c : ℕ} {ms : List ℕ} {v : ByteVerdict} → At n (node.Choice ms) → Has n
          → ByAlternatives nodes bodies marks tails b n ms i v c → (m : ℕ) → slice_get ms i ≡ Some m
          → Quiet (Tail n i p) c
      alternatives_quiet at s (alternatives_end e) m there = absurd (cc (e, there))
      alternatives_quiet {n = n} {i = i} {ms = ms} at s (alternative_fails {m = k} {c = c} {d = d} is t h r) m there =
          let has = choice_has rules start nodes bodies ranks x sound n i k ms at s is in
          quiet_alternatives n i k ms is t c d at (fails_by k (below_by h has)) (below_quiet h has)
          (no_alternatives r) (λ l e. alternatives_quiet at s r l e)
      alternatives_quiet {n = n} {i = i} {ms = ms} at s (alternative_succeeds {m = k} {c = c} {v = v} is t some h) m
          there =
          let has = choice_has rules start nodes bodies ranks x sound n i k ms at s is in
          quiet_last n i k ms is t c
          (node.Choice ms, at, (k, is, inl (inl (takes_by k v some (below_by h has)), refl))) (below_quiet h has)
