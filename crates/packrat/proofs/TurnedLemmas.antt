-- Turns of a repetition over bytes that decide them, where the loop goes along them.
-- Serves: Packrat::match_unit
use Rattle.std.proofs.Common.{◌≡◌, ◌⊎◌, inl, inr, ℕ, zero, suc, ◌+◌, ◌-◌, ◌<◌, ◌≤◌, max, Bool, true, false, List, []}
use Rattle.std.proofs.Common.{◌∷◌, ◌++◌, Option, length, Some, refl, sym, subst, ap, ◌∙◌, arith}
use Rattle.std.specs.Prelude.{slice_get}
use Rattle.pegread.specs.PegViews.{rules_of}
use Rattle.packrat.specs.declared.events.link.Link.{Link}
use Rattle.pegnodes.specs.ByByte.{ByByte, AreIterations, iterations_none, iterations_more}
use Rattle.gramcheck.specs.Grammar.{Grammar, IsSoundGrammar}
use Rattle.pegnodes.specs.KeyLists.{Marks, node_marks, tail_marks}
use Rattle.pegnodes.specs.KeyMarks.{AreMarks}
use Rattle.pegnodes.specs.Nodes as node
use Rattle.pegnodes.specs.Nodes.{Shape, shapes_of}
use Rattle.gramcheck.specs.Outcome as outcome
use Rattle.gramcheck.specs.Outcome.{Event}
use Rattle.pegnodes.specs.RunTables.{IsTable, IsRun}
use Rattle.pegnodes.specs.declared.by_byte.Decided.{Decided}
use Rattle.pegnodes.specs.declared.by_byte.ByteVerdict.TheVariants.{Takes, Fails}
use Rattle.pegnodes.specs.declared.run_table.Run.{Run}
use Rattle.pegmatch.specs.KeptEvents.{SpellsSome}
use Rattle.memo.specs.KeyLog.{tasks_of, row_of, position_of, run_of, steps_of, spread, rising}
use Rattle.memo.specs.Parts.{IsIn}
use Rattle.memo.specs.Run.{total}
use Rattle.memo.specs.declared.found.Found.{Found}
use Rattle.memo.specs.declared.found.Found.TheVariants.{Failed, Took}
use Rattle.memo.specs.declared.key_log.Given.{Given}
use Rattle.memo.specs.declared.key_log.Stored.{Stored}
use Rattle.memo.specs.declared.task.MatchTask.{MatchTask}
use Rattle.memo.specs.declared.task.MatchTask.TheVariants.{Eval}
use Rattle.memo.proofs.KeyLogLemmas.{of_spread, of_rising, rising_last}
use Rattle.memo.proofs.PartsLemmas.{in_either}
use Rattle.pegmatch.proofs.GivesLemmas.{star_gives_more, star_gives_none, star_never_fails}
use Rattle.pegmatch.specs.Visits.{NodeGives}
use Rattle.packrat.specs.ByteGives.{GivesBy, iterations_on, operands_on, iterations_closed, AreFresh}
use Rattle.packrat.specs.MachineSteps.{Level, State, Asks, Works, start_at, store}
use Rattle.packrat.specs.Onward.{IsWell}
use Rattle.packrat.specs.TaskGives.{TaskYields, joined}
use Rattle.packrat.specs.MatchTasks.{Kids}
use Rattle.packrat.specs.TaskSteps.{TaskSteps}
use Rattle.packrat.specs.Stands.{AreLevels, levels_passed, levels_turned, key_of, Stands, GivenBy, AreGiven}
use Rattle.packrat.specs.Turned.{IsClosing, AreTurned, IsStopped, AreTurnedFrames}
use Rattle.packrat.specs.View.{weight}
use Rattle.packrat.specs.declared.frames.Frame.{Frame}
use Rattle.packrat.specs.declared.frames.Wait.TheVariants.{Turned}
use Rattle.packrat.specs.LoopIterations.{Iteration, Ask, Answer}
use Rattle.packrat.specs.declared.iterations.Iterations.{Iterations}
use Rattle.packrat.proofs.ByteGivesLemmas.{gives_by, star_has}
use Rattle.packrat.proofs.RunStepsLemmas.{append_other}
use Rattle.packrat.proofs.RunIterationsLemmas.{both_fronts, both_steps, iteration_kids, iterations_come, iterations_end}
use Rattle.packrat.proofs.RunIterationsLemmas.{iterations_stop}
use Rattle.packrat.proofs.StandsLemmas.{given_none, task_here, levels_above, ready_of}
use Rattle.packrat.proofs.IterationsGiveLemmas.{iterations_repeat}

-- the evaluations of a run stand as the levels of its iterations store them
pub closed_run : (s p n : ℕ) (given : Given) (stored : List Stored)
    → tasks_of (rising (λ q. record { task = Eval s q; given = given }) p n ++ stored)
    ≡ iterations_closed true s p n (tasks_of stored)
closed_run s p zero given stored = refl
closed_run s p (suc n) given stored =
    let at : ℕ → Stored = λ q. record { task = Eval s q; given = given } in
    let one : rising at p (suc n) ++ stored ≡ rising at p n ++ at (p + n) ∷ stored =
    ap (λ v. v ++ stored) (rising_last at p n) ∙ append_other (rising at p n) (at (p + n) ∷ []) stored in
    ap tasks_of one ∙ closed_run s p n given (at (p + n) ∷ stored)

pub taken_steps : (k p n : ℕ) (stored : List Stored)
    → tasks_of (spread (λ q. record { task = Eval k q; given = record { found = Took (q + 1); events = 0 } }) p n
    ++ stored) ≡ operands_on true k p n (tasks_of stored)
taken_steps k p zero stored = refl
taken_steps k p (suc n) stored = ap (λ v. Eval k (p + n) ∷ v) (taken_steps k p n stored)

pub operands_none : (k p n : ℕ) (tasks : List MatchTask) → operands_on false k p n tasks ≡ tasks
operands_none k p zero tasks = refl
operands_none k p (suc n) tasks = operands_none k p n tasks

pub closed_none : (s p n : ℕ) (tasks : List MatchTask) → iterations_closed false s p n tasks ≡ tasks
closed_none s p zero tasks = refl
closed_none s p (suc n) tasks = closed_none s p n tasks

-- each iteration is an evaluation at least
pub iterations_some : {nodes : List Shape} {bodies x : List ℕ} {m : ℕ → Bool} {tails : ℕ → ℕ → Bool} {k a n c : ℕ}
    → AreIterations nodes bodies x m tails k a n c → n ≤ c
iterations_some iterations_none = omega arith
iterations_some (iterations_more r here h) = let le = iterations_some r in omega (arith, le)

before_last : (i n : ℕ) → i < suc n → (i ≡ n) ⊎ (i < n)
before_last i n lt = grind arith

module _ (g : Grammar) (x : List ℕ) (more : Bool) (marks : Marks) where
  pub turned_to : (s k p to : ℕ) (entries : List (Option Decided)) (run : Run)
      → slice_get (shapes_of g.nodes) s ≡ Some (node.Star k)
      → SpellsSome (rules_of g.rules) (shapes_of g.nodes) s → to ≤ length x → (more ≡ true → to < length x)
      → IsTable (shapes_of g.nodes) g.bodies (node_marks marks) (tail_marks marks) k entries → IsRun entries x p to run
      → AreTurned g x more marks s k p run.end run.evals
  turned_to s k p to entries run at spelled le last table is = record {
    at = at;
    spelled = spelled;
    low = is.low;
    within = let high = is.high in omega (arith, high, le);
    last = λ t. let lt = last t in let high = is.high in omega (arith, high, lt);
    iterations = is.iterations (shapes_of g.nodes) g.bodies (node_marks marks) (tail_marks marks) k table;
  }

  pub closing_stops : (k q to evals : ℕ) (entries : List (Option Decided))
      → IsTable (shapes_of g.nodes) g.bodies (node_marks marks) (tail_marks marks) k entries
      → (more ≡ true → to < length x) → IsClosing entries x q to evals → IsStopped g x more marks k q evals
  closing_stops k q to evals entries table last c =
      record {
        byte = c.byte;
        here = c.here;
        evals = c.decided.count;
        fails = subst (λ v. ByByte (shapes_of g.nodes) g.bodies (node_marks marks) (tail_marks marks) c.byte k v
            c.decided.count) c.fails (table c.byte c.decided c.entry);
        is = c.count;
        last = λ t. let lt = last t in let before = c.before in omega (arith, before, lt);
      }

  append_given : (links : List Link) (new old : List Stored)
      → ((s : Stored) → IsIn s new → GivenBy g x more links s.task s.given) → AreGiven g x more links old
      → AreGiven g x more links (new ++ old)
  append_given links new old here h = record {
    given = λ s i. elim (in_either new old i) [ inl j ↦ here s j | inr j ↦ h.given s j ];
  }

  pub run_given : (links : List Link) (s p n : ℕ) (given : Given) (old : List Stored)
      → ((q : ℕ) → p ≤ q → q < p + n → GivenBy g x more links (Eval s q) given) → AreGiven g x more links old
      → AreGiven g x more links (rising (λ q. record { task = Eval s q; given = given }) p n ++ old)
  run_given links s p n given old each h =
      let at : ℕ → Stored = λ q. record { task = Eval s q; given = given } in
      append_given links (rising at p n) old
      (λ e i. let r = of_rising at p n e i in
      subst (λ v. GivenBy g x more links v.task v.given) (sym r.is) (each r.position r.low r.high)) h

  module _ (sound : IsSoundGrammar g) where
    abbrev SY : MatchTask → Found → List Event → Type 0
    SY a f events = TaskYields g x more a f events

    abbrev Gives : ℕ → ℕ → Type 0
    Gives k p = GivesBy (rules_of g.rules) (shapes_of g.nodes) g.bodies x k p Takes

    module _ (s k p q count : ℕ) (t : AreTurned g x more marks s k p q count) where
      operand_has : SpellsSome (rules_of g.rules) (shapes_of g.nodes) k
      operand_has = star_has (rules_of g.rules) g.start (shapes_of g.nodes) g.bodies g.ranks x sound s k t.at t.spelled

      taken_at : {n c : ℕ} → AreIterations (shapes_of g.nodes) g.bodies x (node_marks marks) (tail_marks marks) k p n c
          → (i : ℕ) → i < n → Gives k (p + i)
      taken_at iterations_none i lt = absurd (omega arith)
      taken_at (iterations_more {n = n} {b = b} r here h) i lt = elim (before_last i n lt) [
        | inl is ↦ subst (λ v. Gives k (p + v)) (sym is)
            (gives_by (rules_of g.rules) g.start (shapes_of g.nodes) g.bodies g.ranks x sound (node_marks marks)
            (tail_marks marks) b (p + n) here h operand_has)
        | inr less ↦ taken_at r i less
      ]

      operand_yields : (i : ℕ) → i < q - p → SY (Eval k (p + i)) (Took ((p + i) + 1)) []
      operand_yields i lt =
          let d = taken_at t.iterations i lt in (
            d.looked,
            d.gives,
            (λ is. let end = t.last is in let within = d.within in omega (arith, end, within, lt)),
            tt,
          )

      pub steps_given : (links : List Link) (old : List Stored) → AreGiven g x more links old
          → AreGiven g x more links (steps_of k p q ++ old)
      steps_given links old h =
          let at : ℕ → Stored = λ r. record { task = Eval k r; given = record { found = Took (r + 1); events = 0 } } in
          append_given links (steps_of k p q) old
          (λ e i. let r = of_spread at p (q - p) e i in
          let low = r.low in
          let high = r.high in
          let position : p + (r.position - p) ≡ r.position = omega (arith, low) in
          subst (λ v. GivenBy g x more links v.task v.given) (sym r.is)
          (subst (λ v. GivenBy g x more links (Eval k v) (record { found = Took (v + 1); events = 0 })) position
          (given_none g x more marks links (Eval k (p + (r.position - p))) (Took ((p + (r.position - p)) + 1))
          (operand_yields (r.position - p) (omega (arith, low, high)))))) h

      pub to_end : p + (q - p) ≡ q
      to_end = let le = t.low in omega (arith, le)

      -- what the repetition gives after its iterations, it gives before them
      yields_before : (f : Found) (events : List Event) → SY (Eval s q) f events → (i : ℕ) → i ≤ q - p
          → SY (Eval s (p + i)) f events
      yields_before Failed events d i le = absurd (star_never_fails (rules_of g.rules) g.start (shapes_of g.nodes)
          g.bodies g.ranks x sound s k t.spelled q d.0 t.at d.1)
      yields_before (Took e) events d i le =
          let r = iterations_repeat (rules_of g.rules) g.start (shapes_of g.nodes) g.bodies g.ranks x sound
          (node_marks marks) (tail_marks marks) s k t.at t.spelled t.iterations e d.0 events
          (subst (λ v. NodeGives (rules_of g.rules) (shapes_of g.nodes) g.bodies x s v (outcome.Takes e events) d.0)
          (sym to_end) d.1) i le in
          let same = to_end in (
            r.looked,
            r.gives,
            (λ is. let lt = t.last is in let before = d.2 is in let within = r.within in
                omega (arith, lt, before, within, same)),
            tt,
          )

      given_before : (links : List Link) (given : Given) → GivenBy g x more links (Eval s q) given → (r : ℕ) → p ≤ r
          → r ≤ q → GivenBy g x more links (Eval s r) given
      given_before links given h r low high =
          let position : p + (r - p) ≡ r = omega (arith, low) in
          subst (λ v. GivenBy g x more links (Eval s v) given) position (record {
            events = h.events;
            yields = yields_before given.found h.events h.yields (r - p) (omega (arith, high));
            quiet = h.quiet;
            head = h.head;
          })

      stop_gives : (d : ℕ) → (e : IsStopped g x more marks k q d)
          → GivesBy (rules_of g.rules) (shapes_of g.nodes) g.bodies x k q Fails
      stop_gives d e = gives_by (rules_of g.rules) g.start (shapes_of g.nodes) g.bodies g.ranks x sound
          (node_marks marks) (tail_marks marks) e.byte q e.here e.fails operand_has

      -- the operand fails after them
      pub stop_given : (links : List Link) (d : ℕ) → IsStopped g x more marks k q d
          → GivenBy g x more links (Eval k q) (record { found = Failed; events = 0 })
      stop_given links d e =
          let b = stop_gives d e in
          given_none g x more marks links (Eval k q) Failed (
            b.looked,
            b.gives,
            (λ is. let lt = e.last is in let within = b.within in omega (arith, lt, within)),
            refl,
          )

      pub operand_well : IsWell g x (Eval k q)
      operand_well = (operand_has, t.within)

      -- it ends after them
      pub ended_given : (links : List Link) (d : ℕ) → IsStopped g x more marks k q d → (r : ℕ) → p ≤ r → r ≤ q
          → GivenBy g x more links (Eval s r) (record { found = Took q; events = 0 })
      ended_given links d e r low high =
          let b = stop_gives d e in
          given_before links (record { found = Took q; events = 0 })
          (given_none g x more marks links (Eval s q) (Took q) (
            b.looked,
            star_gives_none (rules_of g.rules) g.start (shapes_of g.nodes) g.bodies g.ranks x sound s k t.spelled q
                b.looked t.at b.gives,
            (λ is. let lt = e.last is in let within = b.within in omega (arith, lt, within)),
            tt,
          )) r low high

      -- an iteration passes on what the next one gives
      iteration_passes : (i : ℕ) → i < q - p → (f : Found) (then : List Event) → SY (Eval s ((p + i) + 1)) f then
          → SY (Eval s (p + i)) f (joined f [] then)
      iteration_passes i lt Failed then d = absurd (star_never_fails (rules_of g.rules) g.start (shapes_of g.nodes)
          g.bodies g.ranks x sound s k t.spelled ((p + i) + 1) d.0 t.at d.1)
      iteration_passes i lt (Took e) then d =
          let b = taken_at t.iterations i lt in (
            max b.looked d.0,
            star_gives_more (rules_of g.rules) g.start (shapes_of g.nodes) g.bodies g.ranks x sound s k t.spelled
                (p + i) ((p + i) + 1) e b.looked d.0 [] then t.at b.gives d.1,
            (λ is. let end = t.last is in let before = d.2 is in let within = b.within in
                omega (arith, end, before, within, lt)),
            tt,
          )

module _ (g : Grammar) (x : List ℕ) (more : Bool) (marks : Marks) (sound : IsSoundGrammar g) (body : ℕ)
    (is_body : slice_get g.bodies g.start ≡ Some body)
    (are : AreMarks g.start (shapes_of g.nodes) g.bodies (node_marks marks) (tail_marks marks)) where
  abbrev S : MatchTask → Iteration → List Frame → List Stored → List Link → ℕ → Type 0
  S root t ls st links n = Stands g x more marks root t ls st links n

  abbrev L : List Link → MatchTask → List Frame → List (Level MatchTask) → MatchTask → Type 0
  L links root ls fs b = AreLevels g x more marks links root ls fs b

  abbrev SS : MatchTask → State MatchTask → Type 0
  SS root s = TaskSteps (rules_of g.rules) (shapes_of g.nodes) g.bodies x (node_marks marks) (tail_marks marks)
      (start_at MatchTask root) s

  abbrev T : List MatchTask → ℕ
  T tasks = total MatchTask (Kids (rules_of g.rules) (shapes_of g.nodes) g.bodies x) (key_of marks) weight tasks

  pub fronts_add : (xs ys : List MatchTask) → T (xs ++ ys) ≡ T xs + T ys
  fronts_add = both_fronts (rules_of g.rules) g.start (shapes_of g.nodes) g.bodies g.ranks x sound body is_body
      (node_marks marks) (tail_marks marks) are

  pub asks_here : (root a : MatchTask) (ls : List Frame) (st : List Stored) (links : List Link) (n : ℕ)
      (h : S root (Ask a) ls st links n)
      → SS root (Asks a (record { levels = h.levels; stored = tasks_of st; begun = h.begun }))
  asks_here root a ls st links n h =
      subst (λ v. SS root (Asks v (record { levels = h.levels; stored = tasks_of st; begun = h.begun })))
      (sym (task_here g x more marks root a ls st links n h)) h.steps

  abbrev Steps : State MatchTask → State MatchTask → Type 0
  Steps u v = TaskSteps (rules_of g.rules) (shapes_of g.nodes) g.bodies x (node_marks marks) (tail_marks marks) u v

  pub then_steps : {u v w : State MatchTask} → Steps u v → Steps v w → Steps u w
  then_steps a b = both_steps (rules_of g.rules) g.start (shapes_of g.nodes) g.bodies g.ranks x sound body is_body
      (node_marks marks) (tail_marks marks) are a b

  module _ (s k p q count : ℕ) (t : AreTurned g x more marks s k p q count) where
    start_well : IsWell g x (Eval s p)
    start_well = let low = t.low in let within = t.within in (t.spelled, omega (arith, low, within))

    passed_levels : {n c : ℕ} (links : List Link) (root : MatchTask) (ls : List Frame) (fs : List (Level MatchTask))
        → AreIterations (shapes_of g.nodes) g.bodies x (node_marks marks) (tail_marks marks) k p n c → n ≤ q - p
        → node_marks marks s ≡ false → L links root ls fs (Eval s p)
        → L links root ls (iterations_on s k p n fs) (Eval s (p + n))
    passed_levels links root ls fs iterations_none le plain r =
        let same : p ≡ p + 0 = omega arith in
        subst (λ v. L links root ls fs (Eval s v)) same r
    passed_levels links root ls fs (iterations_more {n = n} {b = b} iterations here h) le plain r =
        let next : (p + n) + 1 ≡ p + suc n = omega arith in
        let b = taken_at g x more marks sound s k p q count t (iterations_more iterations here h) n (omega arith) in
        subst (λ v. L links root ls (iterations_on s k p (suc n) fs) (Eval s v)) next
        (levels_passed {a = Eval s (p + n)} {b = Eval s ((p + n) + 1)}
        {asked = Eval k (p + n) ∷ (Eval s ((p + n) + 1) ∷ [])} plain (
          iteration_kids (rules_of g.rules) g.start (shapes_of g.nodes) g.bodies g.ranks x sound body is_body
              (node_marks marks) (tail_marks marks) are s k t.at t.spelled (p + n) b,
          λ f then d. iteration_passes g x more marks sound s k p q count t n (omega (arith, le)) f then d,
        )
        (passed_levels links root ls fs iterations (omega (arith, le)) plain r))

    turned_level : (links : List Link) (root : MatchTask) (ls : List Frame) (fs : List (Level MatchTask)) (last : ℕ)
        → last + 1 ≡ q → node_marks marks s ≡ true → L links root ls fs (Eval s p)
        → L links root (record { task = Eval s p; key = true; wait = Turned last } ∷ ls)
        (iterations_on s k p (q - p) fs)
        (Eval s q)
    turned_level links root ls fs last is key r =
        subst (λ v. L links root (record { task = Eval s p; key = true; wait = Turned last } ∷ ls)
        (iterations_on s k p (v - p) fs) (Eval s v)) is
        (levels_turned (subst (λ v. AreTurned g x more marks s k p v count) (sym is) t) key start_well r)

  module _ (t : Iterations) (count : ℕ) (d : AreTurned g x more marks t.star t.operand t.from t.end count) where
    goes_along : (key : Bool) → node_marks marks t.star ≡ key → (links : List Link) (root : MatchTask)
        (ls new : List Frame)
        (fs : List (Level MatchTask)) → AreTurnedFrames key t ls new → t.from < t.end
        → L links root ls fs (Eval t.star t.from)
        → L links root new (iterations_on t.star t.operand t.from (t.end - t.from) fs) (Eval t.star t.end)
    goes_along true key links root ls new fs is lt r =
        subst (λ v. L links root v (iterations_on t.star t.operand t.from (t.end - t.from) fs) (Eval t.star t.end))
        (sym is)
        (turned_level t.star t.operand t.from t.end count d links root ls fs (t.end - 1) (omega (arith, lt)) key r)
    goes_along false key links root ls new fs is lt r =
        subst (λ v. L links root v (iterations_on t.star t.operand t.from (t.end - t.from) fs) (Eval t.star t.end))
        (sym is)
        (subst (λ v. L links root ls (iterations_on t.star t.operand t.from (t.end - t.from) fs) (Eval t.star v))
        (to_end g x more marks sound t.star t.operand t.from t.end count d)
        (passed_levels t.star t.operand t.from t.end count d links root ls fs d.iterations (omega arith) key r))

    module _ (root : MatchTask) (ls : List Frame) (st su : List Stored) (links : List Link) (n : ℕ)
        (h : S root (Ask (Eval t.star t.from)) ls st links n)
        (fresh : (m : ℕ) → AreFresh (node_marks marks t.star) t.star t.from m (tasks_of st))
        (free : (m : ℕ) → AreFresh (node_marks marks t.operand) t.operand t.from m (tasks_of st))
        (keeps : AreGiven g x more links st → AreGiven g x more links su) where
      asks_there : SS root (Asks (Eval t.star t.from)
          (record { levels = h.levels; stored = tasks_of st; begun = h.begun }))
      asks_there = asks_here root (Eval t.star t.from) ls st links n h

      -- the loop goes along the iterations
      pub stands_along : (new : List Frame) → AreTurnedFrames (node_marks marks t.star) t ls new → t.from < t.end
          → tasks_of su ≡ operands_on (node_marks marks t.operand) t.operand t.from (t.end - t.from) (tasks_of st)
          → S root (Ask (Eval t.star t.end)) new su links (n + count)
      stands_along new frames lt tasks =
          let come = iterations_come (rules_of g.rules) g.start
          (shapes_of g.nodes) g.bodies g.ranks x sound body is_body
          (node_marks marks) (tail_marks marks) are t.star t.operand d.at d.spelled d.iterations h.levels (tasks_of st)
          h.begun (fresh (t.end - t.from)) (free (t.end - t.from)) in
          let one : T come.front ≡ count = come.is in
          let two : T h.begun ≡ n = h.is in
          let sum = fronts_add come.front h.begun in
          record {
            levels = iterations_on t.star t.operand t.from (t.end - t.from) h.levels;
            begun = come.front ++ h.begun;
            task = Eval t.star t.end;
            are = goes_along (node_marks marks t.star) refl links root ls new h.levels frames lt
                (levels_above g x more marks root (Eval t.star t.from) ls st links n h);
            iterations = (refl, (d.spelled, d.within), d.last);
            given = keeps h.given;
            near = λ m z i. elim (in_either come.front h.begun i) [
              | inl j ↦ λ t. let le = come.near m z j in let lt = d.last t in let low = d.low in
                  omega (arith, le, lt, low)
              | inr j ↦ h.near m z j
            ];
            is = omega (arith, one, two, sum);
            steps = subst (λ v. SS root (Asks (Eval t.star v) (record {
              levels = iterations_on t.star t.operand t.from (t.end - t.from) h.levels;
              stored = tasks_of su;
              begun = come.front ++ h.begun;
            }))) (to_end g x more marks sound t.star t.operand t.from t.end count d)
                (subst (λ v. SS root (Asks (Eval t.star (t.from + (t.end - t.from))) (record {
                  levels = iterations_on t.star t.operand t.from (t.end - t.from) h.levels;
                  stored = v;
                  begun = come.front ++ h.begun;
                }))) (sym tasks) (then_steps asks_there come.steps));
          }

      -- the loop goes to the repetition's end
      pub stands_ended : (c : ℕ) → IsStopped g x more marks t.operand t.end c
          → tasks_of su ≡ iterations_closed (node_marks marks t.star) t.star t.from (t.end + 1 - t.from)
          (store MatchTask (node_marks marks t.operand) (Eval t.operand t.end)
          (operands_on (node_marks marks t.operand) t.operand t.from (t.end - t.from) (tasks_of st)))
          → S root (Answer (record { found = Took t.end; events = 0 })) ls su links (n + (count + c))
      stands_ended c e tasks =
          let low = d.low in
          let same : t.end + 1 - t.from ≡ suc (t.end - t.from) = omega (arith, low) in
          let stays = subst (λ v. slice_get x v ≡ Some e.byte) (sym (to_end g x more marks sound t.star t.operand
          t.from t.end count d)) e.here in
          let come = iterations_stop (rules_of g.rules) g.start
          (shapes_of g.nodes) g.bodies g.ranks x sound body is_body
          (node_marks marks) (tail_marks marks) are t.star t.operand d.at d.spelled e.byte e.evals d.iterations stays
          e.fails
          h.levels (tasks_of st) h.begun (fresh (suc (t.end - t.from))) (free (suc (t.end - t.from))) in
          let more_evals = e.is in
          let one : T come.front ≡ count + (1 + e.evals) = come.is in
          let two : T h.begun ≡ n = h.is in
          let sum = fronts_add come.front h.begun in
          let sized = subst (λ v. tasks_of su ≡ iterations_closed (node_marks marks t.star) t.star t.from v
          (store MatchTask (node_marks marks t.operand) (Eval t.operand t.end)
          (operands_on (node_marks marks t.operand) t.operand t.from (t.end - t.from) (tasks_of st)))) same tasks in
          let now = subst (λ v. tasks_of su ≡ iterations_closed (node_marks marks t.star) t.star t.from
          (suc (t.end - t.from)) (store MatchTask (node_marks marks t.operand) (Eval t.operand v)
          (operands_on (node_marks marks t.operand) t.operand t.from (t.end - t.from) (tasks_of st))))
          (sym (to_end g x more marks sound t.star t.operand t.from t.end count d)) sized in
          record {
            levels = h.levels;
            begun = come.front ++ h.begun;
            task = Eval t.star t.from;
            are = levels_above g x more marks root (Eval t.star t.from) ls st links n h;
            iterations = ended_given g x more marks sound t.star t.operand t.from t.end count d links c e t.from
                (omega arith) d.low;
            given = keeps h.given;
            near = λ m z i. elim (in_either come.front h.begun i) [
              | inl j ↦ λ t. let le = come.near m z j in let lt = e.last t in omega (arith, le, lt, low)
              | inr j ↦ h.near m z j
            ];
            is = omega (arith, one, two, sum, more_evals);
            steps = subst (λ v. SS root (Works (record {
              levels = h.levels;
              stored = v;
              begun = come.front ++ h.begun;
            }))) (sym now) (then_steps asks_there come.steps);
          }

  -- an answer comes to the frame of iterations
  pub stands_back : (root a : MatchTask) (given : Given) (ls : List Frame) (st new : List Stored) (links : List Link)
      (n last : ℕ) (key : Bool)
      → S root (Answer given) (record { task = a; key = key; wait = Turned last } ∷ ls) st links n
      → new ≡ run_of (row_of a) (position_of a) last given ++ st → S root (Answer given) ls new links n
  stands_back root a given ls st new links n last key s is =
      let r = ready_of g x more marks s in
      let top = r.are in
      let run = subst (λ v. new ≡ run_of (row_of v) (position_of v) last given ++ st) top.is is in
      let give = subst (λ v. GivenBy g x more links v given) top.waits r.gives in
      let d = top.turned in
      let some = d.low in
      let tasks : tasks_of new ≡ iterations_closed true top.star top.from (last + 1 - top.from) (tasks_of st) =
      ap tasks_of run ∙ closed_run top.star top.from (last + 1 - top.from) given st in
      let marked : node_marks marks top.star ≡ true = top.key in
      let now = subst (λ v. tasks_of new ≡ iterations_closed v top.star top.from (last + 1 - top.from) (tasks_of st))
      (sym marked) tasks in
      let end = iterations_end (rules_of g.rules) g.start (shapes_of g.nodes) g.bodies g.ranks x sound body is_body
      (node_marks marks) (tail_marks marks) are top.star top.operand d.at d.spelled d.iterations top.rest (tasks_of st)
      s.begun in
      let at = subst (λ v. SS root (Works (record { levels = v; stored = tasks_of st; begun = s.begun }))) top.levels
      r.steps in
      record {
        levels = top.rest;
        begun = s.begun;
        task = Eval top.star top.from;
        are = top.above;
        iterations = given_before g x more marks sound top.star top.operand top.from
            (last + 1) top.count d links given give
            top.from (omega arith) some;
        given = subst (AreGiven g x more links) (sym run) (run_given g x more marks links top.star top.from
            (last + 1 - top.from) given st
            (λ q low high. given_before g x more marks sound top.star top.operand top.from (last + 1) top.count d links
            given give q low (omega (arith, some, high))) s.given);
        is = s.is;
        near = s.near;
        steps = subst (λ v. SS root (Works (record { levels = top.rest; stored = v; begun = s.begun }))) (sym now)
            (then_steps at end);
      }
