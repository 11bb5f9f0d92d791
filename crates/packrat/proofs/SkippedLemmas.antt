-- A choice whose first alternatives the byte at its position decides to fail, where the loop skips them.
-- Serves: Packrat::match_unit
use Rattle.std.proofs.Common.{◌≡◌, ℕ, suc, ◌+◌, ◌<◌, ◌≤◌, Bool, true, false, List, [], ◌∷◌, ◌++◌, length}
use Rattle.std.proofs.Common.{Some, None, refl, sym, subst, arith, inl, inr, ◌∙◌}
use Rattle.std.proofs.lemmas.Option.{slice_get_past, slice_get_within}
use Rattle.std.specs.Prelude.{slice_get}
use Rattle.pegread.specs.PegViews.{rules_of}
use Rattle.packrat.specs.declared.events.link.Link.{Link}
use Rattle.pegnodes.specs.ByByte.{ByByte, by_shape, below, ByShape, by_alternatives, ByAlternatives}
use Rattle.pegnodes.specs.ByByte.{alternatives_end, alternative_fails}
use Rattle.pegnodes.specs.ChoiceTables.{FailFirst, fail_none, fail_more}
use Rattle.gramcheck.specs.Grammar.{Grammar, IsSoundGrammar}
use Rattle.pegnodes.specs.KeyLists.{Marks, node_marks, tail_marks}
use Rattle.pegnodes.specs.KeyMarks.{AreMarks}
use Rattle.pegnodes.specs.Nodes as node
use Rattle.pegnodes.specs.Nodes.{Shape, shapes_of}
use Rattle.pegnodes.specs.declared.by_byte.ByteVerdict.{ByteVerdict}
use Rattle.pegnodes.specs.declared.by_byte.ByteVerdict.TheVariants.{Takes, Stays, Fails}
use Rattle.pegmatch.specs.Answers.{WasEnough}
use Rattle.memo.specs.KeyLog.{tasks_of}
use Rattle.memo.specs.Parts.{IsIn}
use Rattle.memo.specs.declared.found.Found.TheVariants.{Failed, Took}
use Rattle.memo.specs.declared.key_log.Given.{Given}
use Rattle.memo.specs.declared.key_log.Stored.{Stored}
use Rattle.memo.specs.declared.task.MatchTask.{MatchTask}
use Rattle.memo.specs.declared.task.MatchTask.TheVariants.{Eval, Tail}
use Rattle.memo.proofs.PartsLemmas.{in_either}
use Rattle.packrat.specs.MachineSteps.{State, Works, start_at}
use Rattle.packrat.specs.Onward.{IsWell, entering_of, tail_of}
use Rattle.packrat.specs.Skipped.{ArePassed, AreSkipped, IsRest}
use Rattle.packrat.specs.TaskSteps.{TaskSteps}
use Rattle.packrat.specs.IterationsLeft.{left, most_begun}
use Rattle.packrat.specs.Stands.{Stands, IsClosed, key_of, AreWaiting, IsEntered}
use Rattle.packrat.specs.declared.frames.Frame.{Frame}
use Rattle.packrat.specs.declared.frames.Wait.TheVariants.{First}
use Rattle.packrat.specs.LoopIterations.{Iteration, Ask, Answer}
use Rattle.packrat.specs.declared.onward.Entering.{Entering}
use Rattle.packrat.specs.declared.skips.Skips.{Skips}
use Rattle.packrat.specs.declared.known.Known.{Known}
use Rattle.packrat.specs.declared.known.Taken.{Taken}
use Rattle.packrat.specs.Known.{IsKnown, IsTaken, taken_of}
use Rattle.packrat.specs.ByteGives.{found_by}
use Rattle.packrat.specs.TaskGives.{IsQuiet}
use Rattle.packrat.proofs.ByteKidsLemmas.{by_byte_itself}
use Rattle.packrat.proofs.ByteGivesLemmas.{gives_by, choice_has}
use Rattle.packrat.proofs.LeftLemmas as T
use Rattle.packrat.proofs.OnwardLemmas as M
use Rattle.packrat.proofs.RunIterationsLemmas.{decided_comes}
use Rattle.packrat.proofs.KeptAtLemmas.{grown_same}
use Rattle.packrat.proofs.TaskGivesLemmas.{choice_empty}
use Rattle.packrat.proofs.StandsLemmas as L
use Rattle.packrat.proofs.TurnedLemmas.{asks_here, fronts_add, then_steps}

module _ {nodes : List Shape} {bodies : List ℕ} {marks : ℕ → Bool} {tails : ℕ → ℕ → Bool} {b n : ℕ} {ms : List ℕ} where
  -- each of them is an alternative
  fail_within : {i c : ℕ} → FailFirst nodes bodies marks tails b n ms i c → i ≤ length ms
  fail_within fail_none = omega arith
  fail_within (fail_more {i = i} {m = m} f there plain h) =
      let lt = slice_get_within ms i m there in omega (arith, lt)

  alternatives_from : {i c d : ℕ} {v : ByteVerdict} → FailFirst nodes bodies marks tails b n ms i c
      → ByAlternatives nodes bodies marks tails b n ms i v d
      → ByAlternatives nodes bodies marks tails b n ms 0 v (c + d)
  alternatives_from {d = d} {v = v} fail_none r =
      subst (ByAlternatives nodes bodies marks tails b n ms 0 v) (omega arith) r
  alternatives_from {d = d} {v = v} (fail_more {c = c} {d = e} f there plain h) r =
      subst (ByAlternatives nodes bodies marks tails b n ms 0 v) (omega arith)
      (alternatives_from f (alternative_fails there plain h r))

  -- a choice of which all alternatives fail
  pub all_fail : {c : ℕ} → FailFirst nodes bodies marks tails b n ms (length ms) c
      → slice_get nodes n ≡ Some (node.Choice ms) → ByByte nodes bodies marks tails b n Fails (1 + c)
  all_fail {c = c} f at =
      let end = alternatives_end (slice_get_past ms (length ms) (omega arith)) in
      by_shape at (subst (λ v. ByShape nodes bodies marks tails b n (node.Choice ms) Fails (1 + v)) (omega arith)
      (by_alternatives (alternatives_from f end)))

-- each of the alternatives that are passed is one
pub passed_within : (g : Grammar) (x : List ℕ) (more : Bool) (marks : Marks) {n p i c : ℕ} {ms : List ℕ}
    → ArePassed g x more marks n p ms i c → i ≤ length ms
passed_within g x more marks (inl f) = fail_within f.fail
passed_within g x more marks (inr z) = let none = z.0 in omega (arith, none)

-- what a byte decides leaves no events
quiet_by : (v : ByteVerdict) (p : ℕ) → IsQuiet (found_by v p) []
quiet_by Takes p = tt
quiet_by Stays p = tt
quiet_by Fails p = refl

abbrev failure : Given
failure = record { found = Failed; events = 0 }

module _ (g : Grammar) (x : List ℕ) (more : Bool) (marks : Marks) (some : WasEnough x more 0) (sound : IsSoundGrammar g)
    (body : ℕ) (is_body : slice_get g.bodies g.start ≡ Some body)
    (are : AreMarks g.start (shapes_of g.nodes) g.bodies (node_marks marks) (tail_marks marks)) where
  abbrev S : MatchTask → Iteration → List Frame → List Stored → List Link → ℕ → Type 0
  S root t ls st links n = Stands g x more marks root t ls st links n

  abbrev SS : MatchTask → State MatchTask → Type 0
  SS root s = TaskSteps (rules_of g.rules) (shapes_of g.nodes) g.bodies x (node_marks marks) (tail_marks marks)
      (start_at MatchTask root) s

  abbrev Decides : ℕ → ℕ → ByteVerdict → ℕ → Type 0
  Decides b n v d = ByByte (shapes_of g.nodes) g.bodies (node_marks marks) (tail_marks marks) b n v d

  module _ (p b : ℕ) (here : slice_get x p ≡ Some b) (last : more ≡ true → p + 1 < length x) where
    -- the loop goes from an evaluation that the byte decides to its end
    pub stands_decided : (root : MatchTask) (n d : ℕ) (v : ByteVerdict) (ls : List Frame) (st new : List Stored)
        (links : List Link) (count : ℕ) → S root (Ask (Eval n p)) ls st links count
        → (node_marks marks n ≡ true → IsIn (Eval n p) (tasks_of st) → ⊥) → Decides b n v d
        → IsClosed g x more marks links (Eval n p) (record { found = found_by v p; events = 0 }) st new
        → S root (Answer (record { found = found_by v p; events = 0 })) ls new links (count + d)
    stands_decided root n d v ls st new links count s fresh h c =
        let has = (L.asked_well g x more marks root (Eval n p) ls st links count s).0 in
        let own = gives_by (rules_of g.rules) g.start (shapes_of g.nodes) g.bodies g.ranks x sound (node_marks marks)
        (tail_marks marks) b p here h has in
        let come = decided_comes (rules_of g.rules) g.start (shapes_of g.nodes) g.bodies g.ranks x sound body is_body
        (node_marks marks) (tail_marks marks) are b n p d v h here has s.levels (tasks_of st) s.begun fresh in
        let gives = L.given_none g x more marks links (Eval n p) (found_by v p) (
          own.looked,
          own.gives,
          (λ is. let lt = last is in let within = own.within in omega (arith, lt, within)),
          quiet_by v p,
        ) in
        let one = come.is in
        let two = s.is in
        let sum = fronts_add g x more marks sound body is_body are come.front s.begun in
        record {
          levels = s.levels;
          begun = come.front ++ s.begun;
          task = Eval n p;
          are = L.levels_above g x more marks root (Eval n p) ls st links count s;
          iterations = gives;
          given = c.keeps gives s.given;
          near = λ m z i. elim (in_either come.front s.begun i) [
            | inl j ↦ λ t. let le = come.near m z j in let lt = last t in omega (arith, le, lt)
            | inr j ↦ s.near m z j
          ];
          is = omega (arith, one, two, sum);
          steps = subst (λ v. SS root (Works (record {
            levels = s.levels;
            stored = v;
            begun = come.front ++ s.begun;
          }))) (sym c.tasks) (then_steps g x more marks sound body is_body are
              (asks_here g x more marks sound body is_body are root (Eval n p) ls st links count s) come.steps);
        }

    module _ (n : ℕ) (ms : List ℕ) (at : slice_get (shapes_of g.nodes) n ≡ Some (node.Choice ms))
        (well : IsWell g x (Eval n p)) (root : MatchTask) (ls : List Frame) (st : List Stored) (links : List Link) where
      tail_well : (i : ℕ) → i < length ms → IsWell g x (Tail n i p)
      tail_well i lt = (well.0, well.1, (node.Choice ms, at, lt))

      -- from the tail of an alternative that fails to the next one
      skip_one : (i m d count : ℕ) → slice_get ms i ≡ Some m → tail_marks marks n i ≡ false
          → node_marks marks m ≡ false → Decides b m Fails d → suc i < length ms
          → S root (Ask (Tail n i p)) ls st links count
          → S root (Ask (Tail n (suc i) p)) ls st links (count + d)
      skip_one i m d count there plain free h lt s =
          let w = tail_well i (omega (arith, lt)) in
          let has = choice_has (rules_of g.rules) g.start (shapes_of g.nodes) g.bodies g.ranks x sound n i m ms at
          well.0 there in
          let down = L.stands_down g x more marks root (Tail n i p) ls st links count s (λ t. absurd (cc (t, plain)))
          (Eval m p) false (sym plain) ((node.Choice ms, at, (m, there, refl)), (has, well.1)) in
          let stays = L.closed_plain g x more marks links (Eval m p) failure st free in
          let back = stands_decided root m d Fails (record { task = Tail n i p; key = false; wait = First } ∷ ls) st
          st links
          (count + 0) down (λ t. absurd (cc (t, free))) h stays in
          subst (S root (Ask (Tail n (suc i) p)) ls st links) (omega arith)
          (L.stands_on g x more marks root (Tail n i p) failure ls st links ((count + 0) + d) false back
          (Tail n (suc i) p) ls (M.other_more g x more some sound n i p ms Failed w (suc i) refl at refl lt)
          (inr (refl, refl, refl)))

      skip_all : {i c : ℕ} (count : ℕ)
          → FailFirst (shapes_of g.nodes) g.bodies (node_marks marks) (tail_marks marks) b n ms i c → i < length ms
          → S root (Ask (Tail n 0 p)) ls st links count → S root (Ask (Tail n i p)) ls st links (count + c)
      skip_all count fail_none lt s = subst (S root (Ask (Tail n 0 p)) ls st links) (omega arith) s
      skip_all count (fail_more {i = i} {m = m} {c = c} {d = d} f there plain (below free h)) lt s =
          subst (S root (Ask (Tail n (suc i) p)) ls st links) (omega arith)
          (skip_one i m d (count + c) there plain free h lt (skip_all count f (omega (arith, lt)) s))

  -- the loop goes from a task that the byte decides to its end
  pub stands_known : (root a : MatchTask) (known : Known) → IsKnown g x more marks a known → (ls : List Frame)
      (st new : List Stored) (links : List Link) (count : ℕ) → S root (Ask a) ls st links count → (key : Bool)
      → key ≡ key_of marks a → (key ≡ true → IsIn a (tasks_of st) → ⊥)
      → IsClosed g x more marks links a (record { found = known.found; events = 0 }) st new
      → S root (Answer (record { found = known.found; events = 0 })) ls new links (count + known.evals)
  stands_known root (Eval n p) known h ls st new links count s key is fresh c =
      subst (λ v. S root (Answer (record { found = v; events = 0 })) ls new links (count + known.evals)) (sym h.found)
      (stands_decided p h.byte h.here h.last root n known.evals h.verdict ls st new links count s
      (λ t. fresh (cc (is, t))) h.decides
      (subst (λ v. IsClosed g x more marks links (Eval n p) (record { found = v; events = 0 }) st new) h.found c))
  stands_known root (Tail n i p) known h ls st new links count s key is fresh c = absurd h

  -- the loop goes from a repetition of one or more whose operand takes the byte to what goes on with it
  pub stands_taken : (root : MatchTask) (t : Taken) → IsTaken g x more marks t → (ls mid : List Frame)
      (st new : List Stored) (links : List Link) (count : ℕ) → S root (Ask (taken_of t)) ls st links count
      → (key : Bool) → key ≡ key_of marks (taken_of t) → (key ≡ true → IsIn (taken_of t) (tasks_of st) → ⊥)
      → (node_marks marks t.operand ≡ true → IsIn (Eval t.operand t.position) (tasks_of st) → ⊥)
      → IsClosed g x more marks links (Eval t.operand t.position)
      (record { found = Took (t.position + 1); events = 0 }) st
      new
      → AreWaiting key 0 (taken_of t) ls mid
      → S root (Ask (Eval t.star (t.position + 1))) mid new links (count + (1 + t.evals))
  stands_taken root t h ls mid st new links count s key is fresh free c w =
      let b = h.by_byte in
      let well = L.asked_well g x more marks root (taken_of t) ls st links count s in
      let down = L.stands_down g x more marks root (taken_of t) ls st links count s (λ k. fresh (is ∙ k))
      (Eval t.operand t.position) key is h.led in
      let taken = stands_decided t.position b.byte b.here b.last root t.operand t.evals Takes
      (record { task = taken_of t; key = key; wait = First } ∷ ls) st new links (count + 1) down free b.takes c in
      subst (S root (Ask (Eval t.star (t.position + 1))) mid new links) (omega arith)
      (L.stands_on g x more marks root (taken_of t) (record { found = Took (t.position + 1); events = 0 }) ls new links
      ((count + 1) + t.evals) key taken (Eval t.star (t.position + 1)) mid
      (M.plus_more g x more some sound t.plus t.operand t.position (Took (t.position + 1)) well t.star
      (t.position + 1) h.at
      refl)
      w)

  module _ (root a : MatchTask) (s : Skips) (h : AreSkipped g x more marks a s) (ls : List Frame) (st : List Stored)
      (links : List Link) (count : ℕ) (t : S root (Ask a) ls st links count) (key : Bool)
      (is_key : key ≡ key_of marks a) (fresh : key ≡ true → IsIn a (tasks_of st) → ⊥) where
    -- the task, as an evaluation
    asked_eval : S root (Ask (Eval h.node h.position)) ls st links count
    asked_eval = subst (λ v. S root (Ask v) ls st links count) h.task t

    eval_key : key ≡ node_marks marks h.node
    eval_key = subst (λ v. key ≡ key_of marks v) h.task is_key

    eval_fresh : node_marks marks h.node ≡ true → IsIn (Eval h.node h.position) (tasks_of st) → ⊥
    eval_fresh marked i = fresh (cc (eval_key, marked)) (subst (λ v. IsIn v (tasks_of st)) (sym h.task) i)

    eval_well : IsWell g x (Eval h.node h.position)
    eval_well = L.asked_well g x more marks root (Eval h.node h.position) ls st links count asked_eval

    -- the tail after the alternatives that fail, from the first one on
    passed_to : (mid : List Frame) (n : ℕ) → S root (Ask (Tail h.node 0 h.position)) mid st links n
        → h.index < length h.members → S root (Ask (Tail h.node h.index h.position)) mid st links (n + s.evals)
    passed_to mid n first lt = elim h.passed [
      | inl f ↦
          skip_all h.position f.byte f.here f.last h.node h.members h.at eval_well root mid st links n f.fail lt first
      | inr z ↦
          let none = z.1 in
          subst (λ v. S root (Ask (Tail h.node v h.position)) mid st links (n + s.evals)) (sym z.0)
          (subst (S root (Ask (Tail h.node 0 h.position)) mid st links) (omega (arith, none)) first)
    ]

    -- the loop goes to the next alternative
    pub stands_skipped : (e : Entering) → s.rest ≡ Some e → (mid new : List Frame) (u : Iteration)
        → AreWaiting key 0 a ls mid → IsEntered st e mid new u → S root u new st links (count + (1 + s.evals))
    stands_skipped e is mid new u w i =
        let r = subst (IsRest marks h.node h.members h.index h.position) is h.rest in
        let same : e ≡ entering_of marks h.node h.members h.index h.position = r.1 in
        let wait = subst (λ v. AreWaiting key 0 v ls mid) h.task w in
        let first = L.stands_pass g x more marks root (Eval h.node h.position) ls st links count asked_eval
        (λ marked. eval_fresh marked) (Tail h.node 0 h.position) key mid eval_key
        (M.alternatives_led g x more some sound h.node h.position h.members eval_well
        (let lt = r.0 in omega (arith, lt))
        h.at) wait in
        let then = passed_to mid (count + 1) first r.0 in
        let led = M.choice_enters g x more some sound h.node h.index h.position h.members h.at
        (eval_well.0, eval_well.1, (node.Choice h.members, h.at, r.0)) r.0 in
        subst (S root u new st links) (omega arith)
        (L.stands_entered g x more marks root (entering_of marks h.node h.members h.index h.position) mid st links
        ((count + 1) + s.evals) then new u refl led (subst (λ v. IsEntered st v mid new u) same i))

    -- a choice without alternatives fails
    stands_no_choice : length h.members ≡ 0 → (new : List Stored)
        → IsClosed g x more marks links (Eval h.node h.position) failure st new
        → S root (Answer failure) ls new links (count + 1)
    stands_no_choice none new c =
        L.stands_leaf g x more marks root (Eval h.node h.position) ls st links count asked_eval
        (λ marked. eval_fresh marked) links failure new (grown_same links)
        (node.Choice h.members, h.at, inl (slice_get_past h.members 0 (omega (arith, none)), refl))
        (L.given_none g x more marks links (Eval h.node h.position) Failed
        (choice_empty g x more some sound h.node h.position h.members eval_well.0 h.at none)) c

    -- the loop goes to the choice's end
    pub stands_none_left : s.rest ≡ None → (new : List Stored) → IsClosed g x more marks links a failure st new
        → S root (Answer failure) ls new links (count + (1 + s.evals))
    stands_none_left is new c =
        let all : length h.members ≡ h.index = subst (IsRest marks h.node h.members h.index h.position) is h.rest in
        let closed = subst (λ v. IsClosed g x more marks links v failure st new) h.task c in
        elim h.passed [
          | inl f ↦
              let fail = subst (λ v. FailFirst (shapes_of g.nodes) g.bodies (node_marks marks) (tail_marks marks) f.byte
              h.node h.members v s.evals) (sym all) f.fail in
              stands_decided h.position f.byte f.here f.last root h.node (1 + s.evals) Fails ls st new links count
              asked_eval
              eval_fresh (all_fail fail h.at) closed
          | inr z ↦
              let none = z.0 in
              let no = z.1 in
              subst (S root (Answer failure) ls new links) (omega (arith, no))
              (stands_no_choice (omega (arith, all, none)) new closed)
        ]

module _ (g : Grammar) (x : List ℕ) (more : Bool) (marks : Marks) where
  module _ (a : MatchTask) (s : Skips) (h : AreSkipped g x more marks a s) (well : IsWell g x a) (ls : List Frame)
      (begun now : ℕ) (is : now ≡ begun + (1 + s.evals)) (le : now ≤ most_begun g x) where
    pub less_skipped : (e : Entering) → s.rest ≡ Some e → (key : Bool) (st : List Stored) (mid new : List Frame)
        (u : Iteration) → AreWaiting key 0 a ls mid → IsEntered st e mid new u
        → left g x u new now < left g x (Ask a) ls begun
    less_skipped e rest key st mid new u w i =
        let r = subst (IsRest marks h.node h.members h.index h.position) rest h.rest in
        let there = subst (IsWell g x) h.task well in
        let tail = subst (λ v. IsWell g x (tail_of v)) (sym r.1)
        (there.0, there.1, (node.Choice h.members, h.at, r.0)) in
        subst (λ v. left g x u new now < left g x (Ask v) ls begun) (sym h.task)
        (T.less_skipped g x st h.node h.position e u key ls mid new begun now (1 + s.evals) is (omega arith) le tail
        (subst (λ v. AreWaiting key 0 v ls mid) h.task w) i)

    pub less_failed : left g x (Answer failure) ls now < left g x (Ask a) ls begun
    less_failed = subst (λ v. left g x (Answer failure) ls now < left g x (Ask v) ls begun) (sym h.task)
        (T.less_ended g x h.node h.position failure ls begun now (1 + s.evals) is (omega arith) le)

  -- a task that the byte decides lowers what is left
  pub less_known : IsSoundGrammar g → (a : MatchTask) (known : Known) → IsKnown g x more marks a known → IsWell g x a
      → (given : Given) (ls : List Frame) (begun now : ℕ) → now ≡ begun + known.evals → now ≤ most_begun g x
      → left g x (Answer given) ls now < left g x (Ask a) ls begun
  less_known sound (Eval n p) known h well given ls begun now is le =
      let itself = by_byte_itself (rules_of g.rules) g.start (shapes_of g.nodes) g.bodies g.ranks x sound
      (node_marks marks) (tail_marks marks) h.byte p h.here h.decides well.0 in
      let some = itself.whole in
      T.less_ended g x n p given ls begun now known.evals is (omega (arith, some)) le
  less_known sound (Tail n i p) known h well given ls begun now is le = absurd h

  -- a repetition of one or more that goes on lowers what is left
  pub less_taken : (t : Taken) (key : Bool) (ls mid : List Frame) (begun now : ℕ) → now ≡ begun + (1 + t.evals)
      → now ≤ most_begun g x → AreWaiting key 0 (taken_of t) ls mid
      → left g x (Ask (Eval t.star (t.position + 1))) mid now < left g x (Ask (taken_of t)) ls begun
  less_taken t key ls mid begun now is le w =
      T.less_iterations g x t.plus t.position t.star (t.position + 1) ls mid begun now (1 + t.evals) is (omega arith) le
      (T.waiting_costs g x key 0 (taken_of t) ls mid w)
