-- What an evaluation of the start rule's body from an empty log gives and leaves.
-- Serves: Packrat::match_unit
use Rattle.std.proofs.Common.{◌≡◌, ℕ, ◌+◌, ◌*◌, ◌≤◌, Bool, true, List, [], ◌∷◌, length, Option, Some, None, refl, sym}
use Rattle.std.proofs.Common.{subst, arith, ◌∙◌, ◌<◌, ◌-◌}
use Rattle.std.proofs.Math.Nat.{mul-le-mul_left}
use Rattle.std.specs.Prelude.{slice_get}
use Rattle.std.proofs.lemmas.List.{length-map}
use Rattle.pegread.specs.PegViews.{rules_of}
use Rattle.gramcheck.specs.Grammar.{Grammar, IsSoundGrammar}
use Rattle.pegread.specs.Pattern.{Rule}
use Rattle.gramcheck.proofs.SomeOutcomeLemmas as one
use Rattle.pegnodes.specs.Nodes.{Shape, Spells, shapes_of, shape_of}
use Rattle.gramcheck.specs.Outcome.{Event, Outcome}
use Rattle.memo.specs.declared.found.Found.{Found}
use Rattle.pegmatch.specs.Answers.{StartGives, IsAnswer, HoldsSuccess}
use Rattle.gramcheck.specs.Rising.{Rise}
use Rattle.gramcheck.proofs.RiseLemmas.{Rise-upper}
use Rattle.gramcheck.proofs.StartRuleLemmas.{rises_of_start, same_of_start}
use Rattle.pegmatch.proofs.CodeLemmas.{some_cell}
use Rattle.pegmatch.specs.Visits.{first}
use Rattle.packrat.specs.EventLog.{kept_at}
use Rattle.packrat.proofs.KeptAtLemmas.{none_kept}
use Rattle.pegmatch.specs.KeptEvents.{outcome_of, StandFor, no_event}
use Rattle.pegmatch.specs.declared.event.Kept.{Kept}
use Rattle.pegmatch.specs.Visits.{NodeGives}
use Rattle.pegmatch.proofs.AsksLemmas.{visited_there}
use Rattle.pegmatch.proofs.CodeLemmas.{cells_at_most}
use Rattle.pegmatch.proofs.LookedLemmas.{ends_within}
use Rattle.pegmatch.proofs.NodeGivesLemmas.{gives_as, same_node}
use Rattle.pegmatch.proofs.VisitsLemmas.{visits_within}
use Rattle.memo.specs.KeyLog.{tasks_of}
use Rattle.memo.specs.declared.key_log.Stored.{Stored}
use Rattle.memo.specs.declared.task.MatchTask.TheVariants.{Eval, Tail}
use Rattle.packrat.specs.Done.{Contents, IsDone, IsOnTheWay, Answers, IsOutcome, Holds, empty, head_of, unit_of}
use Rattle.packrat.specs.Done.{unit_of_match}
use Rattle.packrat.specs.MachineSteps.{Works, IsGood}
use Rattle.packrat.specs.Onward.{ReachesEnd}
use Rattle.packrat.specs.TaskSteps.{NextOf}
use Rattle.packrat.specs.MatchTasks.{Leads, Kids, is_key}
use Rattle.packrat.specs.Stands.{IsEnded, NeedsMore, IsEvaluated, GivenBy}
use Rattle.packrat.specs.declared.events.link.Link.{Link}
use Rattle.memo.specs.declared.key_log.Given.{Given}
use Rattle.memo.specs.declared.found.Found.TheVariants as found
use Rattle.pegmatch.specs.declared.matcher.Unit.{Unit as UnitAnswer}
use Rattle.pegmatch.specs.declared.matcher.Unit.TheVariants as unit
use Rattle.memo.specs.Parts.{Reach, in_here}
use Rattle.memo.specs.declared.task.MatchTask.{MatchTask}
use Rattle.pegnodes.specs.KeyMarks.{AreMarks}
use Rattle.packrat.specs.TaskGives.{TaskGives, TaskYields, IsQuiet}
use Rattle.pegnodes.specs.KeyLists.{node_marks, tail_marks}
use Rattle.packrat.specs.View.{Evaluates, AreStored, AreReachedKeys, weight}
use Rattle.packrat.specs.declared.frames.Frame.{Frame}
use Rattle.pegnodes.specs.KeyLists.{Marks}
use Rattle.packrat.proofs.BegunLemmas.{evals_begun, visited_few}
use Rattle.packrat.proofs.EndsLemmas.{reached_ends}
use Rattle.packrat.proofs.GoodLemmas.{steps_are_good}
use Rattle.packrat.proofs.NextOfLemmas.{is_next, forest_of}
use Rattle.packrat.proofs.TaskReachLemmas.{reached_is_visited}
use Rattle.packrat.proofs.EvaluatesLemmas.{evaluated_stores, evaluated_begins}

module _ (g : Grammar) (x : List ℕ) (sound : IsSoundGrammar g) where
  abbrev Rs : List Rule
  Rs = rules_of g.rules

  abbrev Ns : List Shape
  Ns = shapes_of g.nodes

  -- the start rule's body gives what the start rule does
  start_as : (root : ℕ) (o : Outcome) (k : ℕ) → slice_get g.bodies g.start ≡ Some root → StartGives g x o k
      → NodeGives (rules_of g.rules) (shapes_of g.nodes) g.bodies x root 0 o k
  start_as root o k at gives =
      let s = sound.spelled.spelled g.start root at in
      let same : s.0 ≡ gives.body = cc (s.1, gives.rule) in
      record {
        expr = gives.body;
        spelled = subst (Spells (rules_of g.rules) (shapes_of g.nodes) root) same s.2;
        gives = gives.gives;
      }

  module _ (more : Bool) (marks : Marks)
      (are : AreMarks g.start (shapes_of g.nodes) g.bodies (node_marks marks) (tail_marks marks)) (root : ℕ)
      (at : slice_get g.bodies g.start ≡ Some root) where
    abbrev Ev : List Stored → ℕ → Type 0
    Ev stored begun = Evaluates (rules_of g.rules) g.start (shapes_of g.nodes) g.bodies x more (node_marks marks)
        (tail_marks marks) root (tasks_of stored) begun

    pub unit_stores : (stored : List Stored) (begun : ℕ) → Ev stored begun → (other : ℕ)
        → slice_get g.bodies g.start ≡ Some other
        → AreStored (rules_of g.rules) g.start (shapes_of g.nodes) g.bodies x more (node_marks marks)
        (tail_marks marks) other (tasks_of stored)
    unit_stores stored begun run other there =
        let same : root ≡ other = cc (at, there) in
        subst (λ v. AreStored (rules_of g.rules) g.start (shapes_of g.nodes) g.bodies x more (node_marks marks)
        (tail_marks marks) v (tasks_of stored)) same
        (evaluated_stores (rules_of g.rules) g.start (shapes_of g.nodes) g.bodies g.ranks x more sound root at
        (node_marks marks) (tail_marks marks) are (tasks_of stored) begun run)

    answers_of : (f : Found) → TaskGives g x more (Eval root 0) f → Answers g x more f
    answers_of f h =
        let s = sound.spelled.spelled g.start root at in
        record {
          events = h.0;
          looked = h.1.0;
          gives = record {
            body = s.0;
            rule = s.1;
            gives = gives_as Rs Ns sound.defined g.bodies x s.2 h.1.1;
          };
          enough = h.1.2;
        }

    found_given : {links : List Link} (a : MatchTask) (given : Given) → GivenBy g x more links a given
        → TaskGives g x more a given.found
    found_given a given h = (h.events, h.yields)

    unit_done : (c : Contents) (given : Given) (links : List Link)
        → IsEnded g x more marks (Eval root 0) given c.frames c.stored links c.begun → IsDone g x more marks c
    unit_done c given links e =
        let h = e.gives in
        let y = h.yields in
        let b = evaluated_begins Rs g.start Ns g.bodies g.ranks x more sound root at
        (node_marks marks) (tail_marks marks) are (outcome_of given.found h.events) y.0 y.1 y.2 (tasks_of c.stored)
        c.begun e.runs in
        record {
          frames = e.empty;
          keys = unit_stores c.stored c.begun e.runs;
          right = record { right = λ s i. found_given s.task s.given (e.keys.given s i) };
          cells = b.cells;
          every = b.every;
          count = sym b.count;
        }

    need_good : (stored : List Stored) (begun : ℕ) → (n : NeedsMore g x more marks (Eval root 0) stored begun)
        → IsGood MatchTask (Leads Rs Ns g.bodies x) (Eval root 0) (is_key (node_marks marks) (tail_marks marks))
        (record { levels = n.levels; stored = tasks_of stored; begun = n.task ∷ n.begun })
    need_good stored begun n = steps_are_good MatchTask (Leads Rs Ns g.bodies x) (Eval root 0) (Kids Rs Ns g.bodies x)
        (NextOf Rs Ns g.bodies x) (is_key (node_marks marks) (tail_marks marks))
        (forest_of Rs g.start Ns g.bodies g.ranks x more sound root at (node_marks marks) (tail_marks marks) are)
        (is_next Rs g.start Ns g.bodies g.ranks x more sound root at (node_marks marks) (tail_marks marks) are)
        (λ a r. reached_ends Rs g.start Ns g.bodies g.ranks x sound root at r)
        (Works (record { levels = n.levels; stored = tasks_of stored; begun = n.task ∷ n.begun })) n.steps

    -- a task that needs more is reached, so the start rule looks as far
    need_given : (stored : List Stored) (begun : ℕ) → NeedsMore g x more marks (Eval root 0) stored begun
        → (more ≡ true) × ((o : Outcome) × StartGives g x o (length x))
    need_given stored begun n = by n.task refl n.reaches
      where
        by : (a : MatchTask) → n.task ≡ a → ReachesEnd g x more a → (more ≡ true)
            × ((o : Outcome) × StartGives g x o (length x))
        by (Eval m p) is h =
            let v = reached_is_visited Rs g.start Ns g.bodies x root at m p
            (subst (λ a. Reach MatchTask (Leads Rs Ns g.bodies x) (Eval root 0) a) is
            ((need_good stored begun n).reached n.task in_here)) in
            let has = one.has_of_start Rs g.start Ns g.bodies g.ranks sound x in
            let gives = start_as root has.0 has.1 at has.2 in
            let within = visits_within Rs g.start Ns g.bodies g.ranks x sound v root has.1 has.0 at gives in
            let same = same_node Rs Ns sound.defined g.bodies x h.1.1 within.gives in
            let looked = same.looked in
            let less = within.less in
            let high = ends_within Rs x has.2.gives in
            let far : has.1 ≡ length x = omega (arith, looked, less, high) in
            (h.0, (has.0, subst (λ k. StartGives g x has.0 k) far has.2))
        by (Tail m i p) is h = absurd h

    -- what needs more is an evaluation
    need_weighs : (a : MatchTask) → ReachesEnd g x more a → weight a ≡ 1
    need_weighs (Eval m p) h = refl
    need_weighs (Tail m i p) h = absurd h

    on_the_way : (c : Contents) → NeedsMore g x more marks (Eval root 0) c.stored c.begun → more ≡ true
        → c.frames ≡ [] → c.kept ≡ [] → IsOnTheWay g x more marks c
    on_the_way c n after frames kept =
        let good = need_good c.stored c.begun n in
        let h = evals_begun Rs g.start Ns g.bodies g.ranks x more sound root at (node_marks marks) (tail_marks marks)
        are (n.task ∷ n.begun) good.once good.reached in
        let is = n.is in
        let same = h.count in
        let one = need_weighs n.task n.reaches in
        record {
          frames = frames;
          kept = kept;
          keys = λ other there.
              let same_root : root ≡ other = cc (at, there) in
              subst (λ v. AreReachedKeys Rs g.start Ns g.bodies x more (node_marks marks) (tail_marks marks) v
              (tasks_of c.stored)) same_root (record {
                reached = λ a i. good.reached a (good.stored a i).0;
                keys = λ a i. (good.stored a i).1;
                once = good.stored_once;
              });
          right = n.right;
          evals = h.evals;
          visited = h.visited;
          near = λ m p i. n.near m p (h.only m p i) after;
          among = λ m p i. h.among m p (good.stored (Eval m p) i).0;
          some = omega (arith, is, one);
          count = omega (arith, is, same);
        }

    -- a failure keeps no events
    failed_keeps : (links : List Link) (a : MatchTask) (given : Given) → given.found ≡ found.Failed
        → GivenBy g x more links a given → kept_at links given.events ≡ []
    failed_keeps links a given is h =
        let none : h.events ≡ [] = subst (λ v. IsQuiet v h.events) is h.quiet in
        nothing_kept (subst (StandFor (shapes_of g.nodes) (kept_at links given.events)) none h.head.stands)
      where
        nothing_kept : {kept : List Kept} → StandFor (shapes_of g.nodes) kept [] → kept ≡ []
        nothing_kept no_event = refl

    ended_as : (f : Found) (c : Contents) (given : Given) (links : List Link) → given.found ≡ f
        → c.kept ≡ kept_at links given.events
        → IsEnded g x more marks (Eval root 0) given c.frames c.stored links c.begun
        → IsOutcome g x more marks c (unit_of f c.begun)
    ended_as found.Failed c given links is kept h = (
      unit_done c given links h,
      subst (Answers g x more) is (answers_of given.found (found_given (Eval root 0) given h.gives)),
      refl,
      kept ∙ failed_keeps links (Eval root 0) given is h.gives,
    )
    ended_as (found.Took q) c given links is kept h = (
      unit_done c given links h,
      subst (Answers g x more) is (answers_of given.found (found_given (Eval root 0) given h.gives)),
      refl,
    )

    pub outcome_of_match : (c : Contents) (v : Option Given) (links : List Link) → c.kept ≡ kept_at links (head_of v)
        → IsEvaluated g x more marks (Eval root 0) v c.frames c.stored links c.begun
        → IsOutcome g x more marks c (unit_of_match v c.begun)
    outcome_of_match c None links kept h =
        let given = need_given c.stored c.begun h.0 in
        (on_the_way c h.0 given.0 h.1 (kept ∙ none_kept links), given.0, given.1)
    outcome_of_match c (Some given) links kept h = ended_as given.found c given links refl kept h

    begun_some : (c : Contents) → IsDone g x more marks c → 1 ≤ c.begun
    begun_some c done =
        let some = some_cell done.cells root 0 (done.every.whole root 0 (first at)) in
        omega (arith, some, done.count)

    answered_as : (f : Found) (c : Contents) (given : Given) (links : List Link) → given.found ≡ f
        → c.kept ≡ kept_at links given.events
        → IsEnded g x more marks (Eval root 0) given c.frames c.stored links c.begun
        → IsAnswer g x more (Holds c g x) (unit_of f c.begun)
    answered_as found.Failed c given links is kept h =
        let a = subst (Answers g x more) is (answers_of given.found (found_given (Eval root 0) given h.gives)) in
        (a.looked, a.gives, a.enough, begun_some c (unit_done c given links h))
    answered_as (found.Took q) c given links is kept h =
        let s = sound.spelled.spelled g.start root at in
        let y : TaskYields g x more (Eval root 0) (found.Took q) h.gives.events =
        subst (λ v. TaskYields g x more (Eval root 0) v h.gives.events) is h.gives.yields in (
          h.gives.events,
          y.0,
          record { body = s.0; rule = s.1; gives = gives_as Rs Ns sound.defined g.bodies x s.2 y.1 },
          y.2,
          subst (λ v. StandFor (shapes_of g.nodes) v h.gives.events) (sym kept) h.gives.head.stands,
          begun_some c (unit_done c given links h),
        )

    pub answer_of_match : (c : Contents) (v : Option Given) (links : List Link) → c.kept ≡ kept_at links (head_of v)
        → IsEvaluated g x more marks (Eval root 0) v c.frames c.stored links c.begun
        → IsAnswer g x more (Holds c g x) (unit_of_match v c.begun)
    answer_of_match c None links kept h = need_given c.stored c.begun h.0
    answer_of_match c (Some given) links kept h = answered_as given.found c given links refl kept h

    -- no more are begun than nodes at positions up to where the start rule looked
    pub unit_bounded : (c : Contents) → IsDone g x more marks c → (o : Outcome) (k : ℕ) → StartGives g x o k
        → c.begun ≤ length g.nodes * (k + 1)
    unit_bounded c done o k gives =
        let most = cells_at_most done.cells (length (shapes_of g.nodes)) k done.every.different
        (λ m q h.
        let v = done.every.visited m q h.0 h.1 in
        let within = visits_within (rules_of g.rules) g.start (shapes_of g.nodes) g.bodies g.ranks x sound v root k o
        at (start_as root o k at gives) in (
          (visited_there (rules_of g.rules) g.start (shapes_of g.nodes) g.bodies g.ranks x sound m q v).0,
          omega (arith, within.near),
        )) in
        let count = done.count in
        let same : length (shapes_of g.nodes) ≡ length g.nodes = length-map g.nodes shape_of in
        subst (λ v. c.begun ≤ v * (k + 1)) same (omega (arith, most, count))

    begun_bounded : (c : Contents) (u : UnitAnswer) → IsOutcome g x more marks c u → (o : Outcome) (k : ℕ)
        → StartGives g x o k → c.begun ≤ length g.nodes * (k + 1)
    begun_bounded c (unit.Took end begun) h o k gives = unit_bounded c h.0 o k gives
    begun_bounded c (unit.Failed begun) h o k gives = unit_bounded c h.0 o k gives
    begun_bounded c unit.Need h o k gives =
        let way = h.0 in
        let far = (same_of_start Rs g.start x k (length x) o h.2.0 gives h.2.1).looked in
        let most = visited_few Rs g.start Ns g.bodies g.ranks x more sound root at (node_marks marks) (tail_marks marks)
        are way.evals k way.visited (λ m p i. let lt = way.near m p i in omega (arith, lt, far)) in
        let count = way.count in
        let same : length (shapes_of g.nodes) ≡ length g.nodes = length-map g.nodes shape_of in
        subst (λ v. c.begun ≤ v * (k + 1)) same (omega (arith, most, count))

    done_fits : (c : Contents) (f : Found) → IsDone g x more marks c → Answers g x more f → more ≡ true
        → c.begun ≤ length g.nodes * length x
    done_fits c f done a after =
        let most = unit_bounded c done (outcome_of f a.events) a.looked a.gives in
        let enough = a.enough after in
        let wide : length g.nodes * (a.looked + 1) ≤ length g.nodes * length x =
        mul-le-mul_left (length g.nodes) (omega (arith, enough)) in
        omega (arith, most, wide)

    -- where more bytes follow the window, no more are begun than nodes at its bytes
    begun_fits : (c : Contents) (u : UnitAnswer) → (more ≡ true → 0 < length x) → IsOutcome g x more marks c u
        → more ≡ true → c.begun ≤ length g.nodes * length x
    begun_fits c (unit.Took end begun) some h after = done_fits c (found.Took end) h.0 h.1 after
    begun_fits c (unit.Failed begun) some h after = done_fits c found.Failed h.0 h.1 after
    begun_fits c unit.Need some h after =
        let way = h.0 in
        let lt = some after in
        let last : (length x - 1) + 1 ≡ length x = omega (arith, lt) in
        let most = visited_few Rs g.start Ns g.bodies g.ranks x more sound root at (node_marks marks) (tail_marks marks)
        are way.evals (length x - 1) way.visited (λ m p i. let less = way.near m p i in omega (arith, less)) in
        let count = way.count in
        let same : length (shapes_of g.nodes) ≡ length g.nodes = length-map g.nodes shape_of in
        subst (λ v. c.begun ≤ v * length x) same
        (subst (λ v. c.begun ≤ length Ns * v) last (omega (arith, most, count)))

    pub match_bounded : (c : Contents) (v : Option Given) (links : List Link) → c.kept ≡ kept_at links (head_of v)
        → IsEvaluated g x more marks (Eval root 0) v c.frames c.stored links c.begun → (more ≡ true → 0 < length x)
        → ((o : Outcome) (k : ℕ) → StartGives g x o k → c.begun ≤ length g.nodes * (k + 1))
        × (more ≡ true → c.begun ≤ length g.nodes * length x)
    match_bounded c v links kept h some =
        let outcome = outcome_of_match c v links kept h in (
          begun_bounded c (unit_of_match v c.begun) outcome,
          begun_fits c (unit_of_match v c.begun) some outcome,
        )

-- the positions of a held success's events stand in order within the window
pub held_rise : (g : Grammar) (x : List ℕ) (Holding : List Event → Type 0) (h : HoldsSuccess g x Holding)
    → Rise 0 (length x) h.0
held_rise g x Holding h =
    let r = rises_of_start (rules_of g.rules) g.start x h.1 h.2 h.0 h.3 in
    Rise-upper 0 h.1 (length x) h.0 r.0 r.1

-- where nothing is stored, nothing is held by the head 0
pub empty_as : (stored : List Stored) (frames : List Frame) (links : List Link) (matches : ℕ) → stored ≡ []
    → frames ≡ [] → record { stored = stored; frames = frames; begun = 0; kept = kept_at links 0; matches = matches }
    ≡ empty matches
empty_as stored frames links matches a b = let none = none_kept links in cc (a, b, none)
