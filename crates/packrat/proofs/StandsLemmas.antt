-- The loop's iterations are steps of the machine.
-- Serves: Packrat::match_unit
use Rattle.std.proofs.Common.{◌≡◌, ◌⊎◌, inl, inr, ℕ, ◌+◌, Bool, true, false, List, [], ◌∷◌, ◌++◌, length, Some}
use Rattle.std.proofs.Common.{refl, sym, subst, ap, ◌∙◌, arith, ◌*◌, ◌-◌, ◌≤◌}
use Rattle.std.proofs.lemmas.List.{length-map}
use Rattle.std.specs.Prelude.{slice_get}
use Rattle.pegread.specs.PegViews.{rules_of}
use Rattle.gramcheck.specs.Grammar.{Grammar, IsSoundGrammar}
use Rattle.pegnodes.specs.Nodes.{Shape, shapes_of, shape_of}
use Rattle.gramcheck.specs.Outcome.{Event}
use Rattle.pegmatch.specs.KeptEvents.{StandFor, no_event, one_event}
use Rattle.pegmatch.specs.declared.event.Kept.{Kept}
use Rattle.packrat.specs.EventLog.{IsHead, kept_at, AreGrown}
use Rattle.packrat.specs.declared.events.link.Link.{Link}
use Rattle.packrat.proofs.KeptAtLemmas.{none_kept}
use Rattle.memo.specs.declared.found.Found.{Found}
use Rattle.memo.specs.declared.found.Found.TheVariants.{Failed, Took}
use Rattle.pegnodes.specs.KeyLists.{Marks}
use Rattle.memo.specs.declared.key_log.Given.{Given}
use Rattle.memo.specs.declared.key_log.Stored.{Stored}
use Rattle.memo.specs.declared.task.MatchTask.{MatchTask}
use Rattle.memo.specs.declared.task.MatchTask.TheVariants.{Eval, Tail}
use Rattle.packrat.specs.ByteGives.{iterations_on}
use Rattle.packrat.specs.Turned.{AreTurned}
use Rattle.packrat.specs.IterationsLeft.{most_begun}
use Rattle.pegnodes.specs.KeyMarks.{AreMarks}
use Rattle.packrat.specs.TaskGives.{TaskYields, joined, IsQuiet}
use Rattle.pegnodes.specs.KeyLists.{node_marks, tail_marks}
use Rattle.memo.specs.KeyLog.{tasks_of, position_of}
use Rattle.memo.specs.Parts.{IsIn, in_here, in_later}
use Rattle.memo.specs.Run.{Run, total}
use Rattle.packrat.specs.MatchTasks.{Kids}
use Rattle.packrat.specs.View.{weight}
use Rattle.memo.proofs.KeyLogLemmas.{task_of_stored}
use Rattle.packrat.specs.declared.frames.Frame.{Frame}
use Rattle.packrat.specs.declared.frames.Wait.{Wait}
use Rattle.packrat.specs.declared.frames.Wait.TheVariants.{First, Last, Turned}
use Rattle.packrat.specs.declared.onward.Onward.{Onward}
use Rattle.packrat.specs.declared.onward.Start.TheVariants as start
use Rattle.packrat.specs.declared.onward.Onward.TheVariants as way
use Rattle.packrat.specs.LoopIterations.{Iteration, Ask, Answer}
use Rattle.packrat.specs.MachineSteps.{Level, State, Asks, Works, held, start_at, store, step_stored, step_begin}
use Rattle.packrat.specs.MachineSteps.{step_next, step_last}
use Rattle.packrat.specs.MachineSteps.{steps_none, steps_more}
use Rattle.packrat.specs.Onward.{IsWell, IsNear, IsHere, ReachesEnd, AfterStart, AfterOne, GoesOn, PassesOn, IsLed}
use Rattle.packrat.specs.Onward.{tail_of}
use Rattle.packrat.specs.Onward.{member_of}
use Rattle.pegnodes.specs.NodeWays.{Way, Leaf, Body, Members, Alternatives, Iterations, Operand, way_of}
use Rattle.packrat.proofs.GoodLemmas.{in_front}
use Rattle.packrat.specs.TaskSteps.{FirstBy, TailFirstBy, IsFirst, NextOf, next_first, next_second, TaskSteps}
use Rattle.packrat.specs.Stands.{AreLevels, levels_none, levels_frame, levels_passed, levels_turned}
use Rattle.packrat.specs.Stands.{Waiting, state_of, key_of}
use Rattle.packrat.specs.Stands.{Stands, IsClosed, NeedsMore, HeadStands, kept_joined, IsJoined, IsWaitHead}
use Rattle.packrat.specs.Stands.{AreWaiting, GivenBy, AreGiven, AreEntered, IsEntered}
use Rattle.packrat.specs.declared.onward.Entering.{Entering}
use Rattle.packrat.proofs.BegunLemmas.{begun_at_positions}
use Rattle.packrat.proofs.MachineLemmas.{run_of_steps}

-- events of a head stay where the log grows
pub head_grown : {nodes : List Shape} {old new : List Link} {head : ℕ} {events : List Event} → AreGrown old new
    → HeadStands nodes old head events → HeadStands nodes new head events
head_grown {nodes = nodes} {head = head} {events = events} grown h =
    let stays = grown head h.is in
    record { is = stays.0; stands = subst (λ v. StandFor nodes v events) (sym stays.1) h.stands }

-- no events have the head 0
pub head_none : (nodes : List Shape) (links : List Link) → HeadStands nodes links 0 []
head_none nodes links = record {
  is = omega arith;
  stands = subst (λ v. StandFor nodes v []) (sym (none_kept links)) no_event;
}

no_events : {nodes : List Shape} {events : List Event} → StandFor nodes [] events → events ≡ []
no_events no_event = refl

none_at : {nodes : List Shape} {links : List Link} {head : ℕ} {events : List Event} → head ≡ 0
    → HeadStands nodes links head events → events ≡ []
none_at {nodes = nodes} {links = links} {events = events} is h =
    no_events (subst (λ v. StandFor nodes v events) (none_kept links)
    (subst (λ v. StandFor nodes (kept_at links v) events) is h.stands))

stand_both : {nodes : List Shape} {ks ls : List Kept} {es fs : List Event} → StandFor nodes ks es → StandFor nodes ls fs
    → StandFor nodes (ks ++ ls) (es ++ fs)
stand_both no_event h = h
stand_both (one_event k s) h = one_event k (stand_both s h)

stand_joined : {nodes : List Shape} {ks ls : List Kept} {es fs : List Event} (f : Found) → StandFor nodes ks es
    → StandFor nodes ls fs → StandFor nodes (kept_joined f ks ls) (joined f es fs)
stand_joined Failed a b = no_event
stand_joined (Took q) a b = stand_both a b

joined_quiet : (f : Found) (es fs : List Event) → IsQuiet f (joined f es fs)
joined_quiet Failed es fs = refl
joined_quiet (Took q) es fs = tt

joined_none : (f : Found) (es : List Event) → IsQuiet f es → joined f [] es ≡ es
joined_none Failed es h = sym h
joined_none (Took q) es h = refl

quiet_none : (f : Found) → IsQuiet f []
quiet_none Failed = refl
quiet_none (Took q) = tt

module _ (g : Grammar) (x : List ℕ) (more : Bool) (marks : Marks) where
  abbrev K : MatchTask → List MatchTask → Type 0
  K a ks = Kids (rules_of g.rules) (shapes_of g.nodes) g.bodies x a ks

  abbrev SY : MatchTask → Found → List Event → Type 0
  SY a f events = TaskYields g x more a f events

  abbrev G : List Link → MatchTask → Given → Type 0
  G links a given = GivenBy g x more links a given

  abbrev F : MatchTask → MatchTask → Type 0
  F a k = IsFirst (rules_of g.rules) (shapes_of g.nodes) g.bodies x a k

  abbrev S : MatchTask → Iteration → List Frame → List Stored → List Link → ℕ → Type 0
  S root t ls st ks n = Stands g x more marks root t ls st ks n

  abbrev C : List Link → MatchTask → Given → List Stored → List Stored → Type 0
  C links a given old new = IsClosed g x more marks links a given old new

  abbrev SS : MatchTask → State MatchTask → Type 0
  SS root s = TaskSteps (rules_of g.rules) (shapes_of g.nodes) g.bodies x (node_marks marks) (tail_marks marks)
      (start_at MatchTask root) s

  abbrev Key : MatchTask → Bool
  Key a = key_of marks a

  abbrev L : List Link → MatchTask → List Frame → List (Level MatchTask) → MatchTask → Type 0
  L links root ls fs b = AreLevels g x more marks links root ls fs b

  given_grown : {old new : List Link} {a : MatchTask} {given : Given} → AreGrown old new → G old a given → G new a given
  given_grown grown h =
      record { events = h.events; yields = h.yields; quiet = h.quiet; head = head_grown grown h.head }

  keys_grown : {old new : List Link} {stored : List Stored} → AreGrown old new → AreGiven g x more old stored
      → AreGiven g x more new stored
  keys_grown grown h = record { given = λ s i. given_grown grown (h.given s i) }

  waiting_grown : (old new : List Link) (w : Wait) (a : MatchTask) (asked : List MatchTask) (b : MatchTask)
      → AreGrown old new
      → Waiting g x more old w a asked b → Waiting g x more new w a asked b
  waiting_grown old new First a asked b grown h = h
  waiting_grown old new (Last head) a asked b grown h = (h.0, head_grown grown h.1, h.2)
  waiting_grown old new (Turned last) a asked b grown h = absurd h

  levels_grown : {old new : List Link} {root b : MatchTask} {ls : List Frame} {fs : List (Level MatchTask)}
      → AreGrown old new
      → L old root ls fs b → L new root ls fs b
  levels_grown grown levels_none = levels_none
  levels_grown {old = old} {new = new} grown (levels_frame {l = l} {b = b} {asked = asked} w t h r) =
      levels_frame w t (waiting_grown old new l.wait l.task asked b grown h) (levels_grown grown r)
  levels_grown grown (levels_passed t h r) = levels_passed t h (levels_grown grown r)
  levels_grown grown (levels_turned d t w r) = levels_turned d t w (levels_grown grown r)

  -- what a task gives without events
  pub given_none : (links : List Link) (a : MatchTask) (f : Found) → SY a f []
      → G links a (record { found = f; events = 0 })
  given_none links a f h =
      record { events = []; yields = h; quiet = quiet_none f; head = head_none (shapes_of g.nodes) links }

  -- what a task gives that takes nothing, and leaves an event
  pub given_marked : (links : List Link) (a : MatchTask) (p : ℕ) (kept : Kept) (head : ℕ) → p ≡ position_of a
      → AfterStart g x more a (start.Marks kept) → IsHead links head → kept_at links head ≡ kept ∷ []
      → G links a (record { found = Took p; events = head })
  given_marked links a p kept head position h is at =
      let e = h.1 in
      record {
        events = e.0 ∷ [];
        yields = subst (λ v. SY a (Took v) (e.0 ∷ [])) (sym position) e.2;
        quiet = tt;
        head = record {
          is = is;
          stands = subst (λ v. StandFor (shapes_of g.nodes) v (e.0 ∷ [])) (sym at) (one_event e.1 no_event);
        };
      }

  -- what a task gives whose last child gives this, with the events of a head before its events
  given_joined : (old new : List Link) (a b : MatchTask) (asked : List MatchTask) (first : ℕ) (es : List Event)
      (given all : Given) → HeadStands (shapes_of g.nodes) old first es → PassesOn g x more a asked b es
      → G old b given → IsJoined old new first given all → G new a all
  given_joined old new a b asked first es given all hs p h j = record {
    events = joined given.found es h.events;
    yields = subst (λ v. SY a v (joined given.found es h.events)) (sym j.found) (p.1 given.found h.events h.yields);
    quiet = subst (λ v. IsQuiet v (joined given.found es h.events)) (sym j.found)
        (joined_quiet given.found es h.events);
    head = record {
      is = j.is;
      stands = subst (λ v. StandFor (shapes_of g.nodes) v (joined given.found es h.events)) (sym j.kept)
          (stand_joined given.found hs.stands h.head.stands);
    };
  }

  given_passed : (links : List Link) (a b : MatchTask) (asked : List MatchTask) (given : Given)
      → PassesOn g x more a asked b [] → G links b given → G links a given
  given_passed links a b asked given p h = record {
    events = h.events;
    yields = subst (SY a given.found) (joined_none given.found h.events h.quiet)
        (p.1 given.found h.events h.yields);
    quiet = h.quiet;
    head = h.head;
  }

  -- the levels of iterations, of which the last one awaits task b
  pub record IsTurnedTop (links : List Link) (root a : MatchTask) (last : ℕ) (ls : List Frame)
      (fs : List (Level MatchTask))
      (b : MatchTask) : Type 0 where
    pub star : ℕ
    pub operand : ℕ
    pub from : ℕ
    pub count : ℕ
    pub rest : List (Level MatchTask)
    pub is : a ≡ Eval star from
    pub turned : AreTurned g x more marks star operand from (last + 1) count
    pub key : Key (Eval star from) ≡ true
    pub well : IsWell g x (Eval star from)
    pub above : L links root ls rest (Eval star from)
    pub levels : fs ≡ iterations_on star operand from (last + 1 - from) rest
    pub waits : b ≡ Eval star (last + 1)

  -- the levels of the frames, of which the last one so awaits task b
  abbrev TopBy : List Link → MatchTask → Wait → Frame → List Frame → List (Level MatchTask) → MatchTask → Type 0
  TopBy links root First l ls fs b = (asked : List MatchTask) × (rest : List (Level MatchTask))
      × (fs ≡ record { at = l.task; asked = asked } ∷ rest) × IsHere g x more l.task × (l.key ≡ Key l.task)
      × Waiting g x more links First l.task asked b × L links root ls rest l.task
  TopBy links root (Last head) l ls fs b = (asked : List MatchTask) × (rest : List (Level MatchTask))
      × (fs ≡ record { at = l.task; asked = asked } ∷ rest) × IsHere g x more l.task × (l.key ≡ Key l.task)
      × Waiting g x more links (Last head) l.task asked b × L links root ls rest l.task
  TopBy links root (Turned last) l ls fs b = IsTurnedTop links root l.task last ls fs b

  abbrev AreTop : List Link → MatchTask → List Frame → List (Level MatchTask) → MatchTask → Type 0
  AreTop links root [] fs b = (fs ≡ []) × (b ≡ root)
  AreTop links root (l ∷ ls) fs b = TopBy links root l.wait l ls fs b

  top_of_frame : (links : List Link) (root : MatchTask) (w : Wait) (l : Frame) (ls : List Frame)
      (asked : List MatchTask)
      (fs : List (Level MatchTask)) (b : MatchTask) → IsHere g x more l.task → l.key ≡ Key l.task
      → Waiting g x more links w l.task asked b → L links root ls fs l.task
      → TopBy links root w l ls (record { at = l.task; asked = asked } ∷ fs) b
  top_of_frame links root First l ls asked fs b w t h r = (asked, fs, refl, w, t, h, r)
  top_of_frame links root (Last head) l ls asked fs b w t h r = (asked, fs, refl, w, t, h, r)
  top_of_frame links root (Turned last) l ls asked fs b w t h r = absurd h

  top_well : (links : List Link) (root : MatchTask) (w : Wait) (l : Frame) (ls : List Frame)
      (fs : List (Level MatchTask))
      (b : MatchTask) → TopBy links root w l ls fs b → IsWell g x l.task
  top_well links root First l ls fs b h = h.3.0
  top_well links root (Last head) l ls fs b h = h.3.0
  top_well links root (Turned last) l ls fs b h = subst (IsWell g x) (sym h.is) h.well

  top_head : (links : List Link) (root : MatchTask) (w : Wait) (l : Frame) (ls : List Frame)
      (fs : List (Level MatchTask))
      (b : MatchTask) → TopBy links root w l ls fs b → IsWaitHead links w
  top_head links root First l ls fs b h = tt
  top_head links root (Last head) l ls fs b h = h.5.1.is
  top_head links root (Turned last) l ls fs b h = tt

  -- an answer for the last frame
  pub record Ready (links : List Link) (root : MatchTask) (ls : List Frame) (given : Given) (st bg : List MatchTask)
      : Type 0 where
    pub levels : List (Level MatchTask)
    pub task : MatchTask
    pub are : AreTop links root ls levels task
    pub gives : G links task given
    pub steps : SS root (Works (record { levels = levels; stored = st; begun = bg }))

  -- the levels without a frame end at once where an answer comes
  ready_when : {links : List Link} {root b : MatchTask} {ls : List Frame} {fs : List (Level MatchTask)}
      {st bg : List MatchTask}
      → L links root ls fs b
      → (given : Given) → G links b given → SS root (Works (record { levels = fs; stored = st; begun = bg }))
      → Ready links root ls given st bg
  ready_when {root = root} levels_none given d s =
      record { levels = []; task = root; are = (refl, refl); gives = d; steps = s }
  ready_when {links = links} {root = root}
      (levels_frame {l = l} {b = b} {asked = asked} {ls = ls} {fs = fs} w t h r) given d
      s = record {
        levels = record { at = l.task; asked = asked } ∷ fs;
        task = b;
        are = top_of_frame links root l.wait l ls asked fs b w t h r;
        gives = d;
        steps = s;
      }
  ready_when {links = links} {root = root} {st = st} {bg = bg}
      (levels_passed {a = a} {b = b} {asked = asked} {fs = fs} t h r) given d s =
      ready_when r given (given_passed links a b asked given h d)
      (subst (λ v. SS root (Works (record { levels = fs; stored = store MatchTask v a st; begun = bg }))) t
      (steps_more s (step_last h.0)))
  ready_when {links = links} {root = root}
      (levels_turned {s = n} {k = k} {p = p} {last = last} {count = count} {ls = ls} {fs = fs} t key w r) given d s =
      record {
        levels = iterations_on n k p (last + 1 - p) fs;
        task = Eval n (last + 1);
        are = record {
          star = n;
          operand = k;
          from = p;
          count = count;
          rest = fs;
          is = refl;
          turned = t;
          key = key;
          well = w;
          above = r;
          levels = refl;
          waits = refl;
        };
        gives = d;
        steps = s;
      }

  pub ready_of : {root : MatchTask} {given : Given} {ls : List Frame} {st : List Stored} {links : List Link} {n : ℕ}
      → (s : S root (Answer given) ls st links n) → Ready links root ls given (tasks_of st) s.begun
  ready_of {given = given} s = ready_when s.are given s.iterations s.steps

  -- the levels of a task that awaits its last child
  waiting_levels : (links : List Link) (root a b : MatchTask) (key : Bool) (head : ℕ) (es : List Event)
      (asked : List MatchTask) (ls new : List Frame) (fs : List (Level MatchTask)) → key ≡ Key a → IsHere g x more a
      → HeadStands (shapes_of g.nodes) links head es → PassesOn g x more a asked b es → AreWaiting key head a ls new
      → L links root ls fs a → L links root new (record { at = a; asked = asked } ∷ fs) b
  waiting_levels links root a b key head es asked ls new fs t w hs p (inl is) r =
      subst (λ v. L links root v (record { at = a; asked = asked } ∷ fs) b) (sym is)
      (levels_frame {l = record { task = a; key = key; wait = Last head }} w t (es, hs, p) r)
  waiting_levels links root a b key head es asked ls new fs t w hs p (inr h) r =
      subst (λ v. L links root v (record { at = a; asked = asked } ∷ fs) b) (sym h.2)
      (levels_passed (sym t ∙ h.0) (subst (PassesOn g x more a asked b) (none_at h.1 hs) p) r)

  pub stands_first : (root : MatchTask) (st : List Stored) (links : List Link) → IsHere g x more root → st ≡ []
      → S root (Ask root) [] st links 0
  stands_first root st links here none = subst (λ v. S root (Ask root) [] v links 0) (sym none) (record {
    levels = [];
    begun = [];
    task = root;
    are = levels_none;
    iterations = (refl, here.0, here.1);
    given = record { given = λ s i. elim i [ ] };
    is = refl;
    steps = steps_none;
    near = λ m q i. elim i [ ];
  })

  -- a task leads first to one at its own position
  position_by : (w : Way) (n p : ℕ) (b : MatchTask) → FirstBy (rules_of g.rules) (shapes_of g.nodes) g.bodies x w n p b
      → position_of b ≡ p
  position_by Leaf n p b h = absurd h
  position_by (Body id) n p b h = ap position_of h.2
  position_by (Members ms) n p b h = ap position_of h.2
  position_by (Alternatives ms) n p b h = ap position_of h.2
  position_by (Iterations k s) n p b h = ap position_of h
  position_by (Operand k) n p b h = ap position_of h

  tail_position_by : (w : Way) (n i p : ℕ) (b : MatchTask)
      → TailFirstBy (rules_of g.rules) (shapes_of g.nodes) g.bodies x w n i p b → position_of b ≡ p
  tail_position_by Leaf n i p b h = absurd h
  tail_position_by (Body id) n i p b h = absurd h
  tail_position_by (Members ms) n i p b h = ap position_of h.2
  tail_position_by (Alternatives ms) n i p b h = ap position_of h.2
  tail_position_by (Iterations k s) n i p b h = absurd h
  tail_position_by (Operand k) n i p b h = absurd h

  first_position : (a k : MatchTask) → F a k → position_of k ≡ position_of a
  first_position (Eval n p) k h = position_by (way_of n h.0) n p k h.2
  first_position (Tail n i p) k h = tail_position_by (way_of n h.0) n i p k h.2

  first_near : (a k : MatchTask) → F a k → IsNear x more a → IsNear x more k
  first_near a k h near is = let same = first_position a k h in let lt = near is in omega (arith, same, lt)

  module _ (root a : MatchTask) (ls : List Frame) (st : List Stored) (links : List Link) (n : ℕ)
      (s : S root (Ask a) ls st links n) where
    asked_near : IsNear x more a
    asked_near = subst (IsNear x more) (sym s.iterations.0) s.iterations.2

    begun_near : (m q : ℕ) → IsIn (Eval m q) (a ∷ s.begun) → IsNear x more (Eval m q)
    begun_near m q i = elim (in_front i) [
      | inl is ↦ subst (IsNear x more) (sym is) asked_near
      | inr j ↦ s.near m q j
    ]

    pub asked_well : IsWell g x a
    asked_well = subst (IsWell g x) (sym s.iterations.0) s.iterations.1

    pub task_here : a ≡ s.task
    task_here = s.iterations.0

    pub levels_above : L links root ls s.levels a
    levels_above = subst (L links root ls s.levels) (sym task_here) s.are

    pub stands_stored : (given : Given) → Key a ≡ true → IsIn (record { task = a; given = given }) st
        → S root (Answer given) ls st links n
    stands_stored given t i = record {
      levels = s.levels;
      begun = s.begun;
      task = a;
      are = levels_above;
      iterations = s.given.given (record { task = a; given = given }) i;
      given = s.given;
      is = s.is;
      steps = steps_more s.steps (step_stored (subst (λ v. Key v ≡ true) task_here t)
          (subst (λ v. IsIn v (tasks_of st)) task_here (task_of_stored i)));
      near = s.near;
    }

    module _ (fresh : Key a ≡ true → IsIn a (tasks_of st) → ⊥) where
      steps_begin : SS root (Works (record {
        levels = record { at = a; asked = [] } ∷ s.levels;
        stored = tasks_of st;
        begun = a ∷ s.begun;
      }))
      steps_begin = steps_more (subst (λ v. SS root (Asks v (record {
        levels = s.levels;
        stored = tasks_of st;
        begun = s.begun;
      }))) (sym task_here) s.steps) (step_begin fresh)

      begin_counts : total MatchTask K Key weight (a ∷ s.begun) ≡ n + weight a
      begin_counts = let is = s.is in omega (arith, is)

      -- a task whose own comparison reaches the end of the window
      pub stands_need : ReachesEnd g x more a → NeedsMore g x more marks root st (n + weight a)
      stands_need h = record {
        task = a;
        levels = record { at = a; asked = [] } ∷ s.levels;
        begun = s.begun;
        is = begin_counts;
        steps = steps_begin;
        reaches = h;
        near = begun_near;
        right = record { right = λ e i. let y = s.given.given e i in (y.events, y.yields) };
      }

      pub stands_leaf : (more_links : List Link) (given : Given) (new : List Stored) → AreGrown links more_links
          → K a [] → G more_links a given → C more_links a given st new
          → S root (Answer given) ls new more_links (n + weight a)
      stands_leaf more_links given new grown none h c = record {
        levels = s.levels;
        begun = a ∷ s.begun;
        task = a;
        are = levels_grown grown levels_above;
        iterations = h;
        given = c.keeps h (keys_grown grown s.given);
        is = begin_counts;
        steps = subst (λ v. SS root (Works (record { levels = s.levels; stored = v; begun = a ∷ s.begun })))
            (sym c.tasks) (steps_more steps_begin (step_last none));
        near = begun_near;
      }

      pub stands_down : (k : MatchTask) (key : Bool) → key ≡ Key a → IsLed g x more false a k
          → S root (Ask k) (record { task = a; key = key; wait = First } ∷ ls) st links (n + weight a)
      stands_down k key t h = record {
        levels = record { at = a; asked = k ∷ [] } ∷ s.levels;
        begun = a ∷ s.begun;
        task = k;
        are = levels_frame {l = record { task = a; key = key; wait = First }} (asked_well, asked_near) t (h.0, refl)
            levels_above;
        iterations = (refl, h.1, first_near a k h.0 asked_near);
        near = begun_near;
        given = s.given;
        is = begin_counts;
        steps = steps_more steps_begin (step_next (next_first h.0));
      }

      -- a task that passes on what its only child gives
      pub stands_pass : (k : MatchTask) (key : Bool) (new : List Frame) → key ≡ Key a
          → IsLed g x more true a k → AreWaiting key 0 a ls new
          → S root (Ask k) new st links (n + weight a)
      stands_pass k key new t h w = record {
        levels = record { at = a; asked = k ∷ [] } ∷ s.levels;
        begun = a ∷ s.begun;
        task = k;
        are = waiting_levels links root a k key 0 [] (k ∷ []) ls new s.levels t (asked_well, asked_near)
            (head_none (shapes_of g.nodes) links) h.2 w levels_above;
        iterations = (refl, h.1, first_near a k h.0 asked_near);
        near = begun_near;
        given = s.given;
        is = begin_counts;
        steps = steps_more steps_begin (step_next (next_first h.0));
      }

  -- a tail that is entered
  module _ (root : MatchTask) (e : Entering) (ls : List Frame) (st : List Stored) (links : List Link) (n : ℕ)
      (s : S root (Ask (tail_of e)) ls st links n) where
    member_asked : (only : Bool) (new : List Frame) → e.key ≡ Key (tail_of e)
        → (Key (tail_of e) ≡ true → IsIn (tail_of e) (tasks_of st) → ⊥)
        → IsLed g x more only (tail_of e) (member_of e) → AreEntered only e.key (tail_of e) ls new
        → S root (Ask (member_of e)) new st links (n + 0)
    member_asked true new key fresh h w =
        stands_pass root (tail_of e) ls st links n s fresh (member_of e) e.key new key h w
    member_asked false new key fresh h is =
        subst (λ v. S root (Ask (member_of e)) v st links (n + 0)) (sym is)
        (stands_down root (tail_of e) ls st links n s fresh (member_of e) e.key key h)

    pub stands_entered : (new : List Frame) (t : Iteration) → e.key ≡ Key (tail_of e)
        → IsLed g x more e.only (tail_of e) (member_of e) → IsEntered st e ls new t → S root t new st links n
    stands_entered new t key h (inl i) = subst (λ v. S root v new st links n) (sym i.3)
        (subst (λ v. S root (Answer i.0) v st links n) (sym i.4)
        (stands_stored root (tail_of e) ls st links n s i.0 (sym key ∙ i.1) i.2))
    stands_entered new t key h (inr i) = subst (λ v. S root v new st links n) (sym i.1)
        (subst (S root (Ask (member_of e)) new st links) (omega arith)
        (member_asked e.only new key (λ k. i.0 (key ∙ k)) h i.2))

  module _ (root a : MatchTask) (given : Given) (ls : List Frame) (st : List Stored) (links : List Link) (n : ℕ)
      (key : Bool) where
    at_levels : (bg : List MatchTask) (levels now : List (Level MatchTask)) → levels ≡ now
        → SS root (Works (record { levels = levels; stored = tasks_of st; begun = bg }))
        → SS root (Works (record { levels = now; stored = tasks_of st; begun = bg }))
    at_levels bg levels now is s =
        subst (λ v. SS root (Works (record { levels = v; stored = tasks_of st; begun = bg }))) is s

    module _ (s : S root (Answer given) (record { task = a; key = key; wait = First } ∷ ls) st links n) where
      is_ready : Ready links root (record { task = a; key = key; wait = First } ∷ ls) given (tasks_of st) s.begun
      is_ready = ready_of s

      as_first : SS root (Works (record {
        levels = record { at = a; asked = is_ready.task ∷ [] } ∷ is_ready.are.1;
        stored = tasks_of st;
        begun = s.begun;
      }))
      as_first = subst (λ v. SS root (Works (record {
        levels = record { at = a; asked = v } ∷ is_ready.are.1;
        stored = tasks_of st;
        begun = s.begun;
      })))
          is_ready.are.5.1
          (at_levels s.begun is_ready.levels (record { at = a; asked = is_ready.are.0 } ∷ is_ready.are.1)
          is_ready.are.2 is_ready.steps)

      -- what is known after the first child that the frame awaited
      abbrev After : Onward → Type 0
      After o = (j : MatchTask) → F a j → (es : List Event) → SY j given.found es
          → AfterOne g x more a j given.found es o

      after_here : (o : Onward) → After o → AfterOne g x more a is_ready.task given.found is_ready.gives.events o
      after_here o after = after is_ready.task is_ready.are.5.0 is_ready.gives.events is_ready.gives.yields

      pub first_kid : MatchTask
      first_kid = is_ready.task

      -- it asks for this one then
      abbrev Then : MatchTask → Type 0
      Then k = (j : MatchTask) → F a j → (es : List Event) → SY j given.found es → GoesOn g x more a j es k

      then_here : (k : MatchTask) → Then k → GoesOn g x more a is_ready.task is_ready.gives.events k
      then_here k then = then is_ready.task is_ready.are.5.0 is_ready.gives.events is_ready.gives.yields

      pub second_kid : (k : MatchTask) → Then k → K a (first_kid ∷ (k ∷ []))
      unfolding first_kid
      second_kid k then = (then_here k then).0.0

      pub second_tail : (e : Entering) → After (way.Enters e) → K a (first_kid ∷ (tail_of e ∷ []))
      unfolding first_kid
      second_tail e after = (after_here (way.Enters e) after).0.0.0

      pub stands_on : (k : MatchTask) (new : List Frame) → Then k → AreWaiting key given.events a ls new
          → S root (Ask k) new st links n
      stands_on k new then w =
          let h = then_here k then in
          record {
            levels = record { at = a; asked = is_ready.task ∷ (k ∷ []) } ∷ is_ready.are.1;
            begun = s.begun;
            task = k;
            are = waiting_levels links root a k key given.events is_ready.gives.events
                (is_ready.task ∷ (k ∷ [])) ls new is_ready.are.1
                is_ready.are.4 is_ready.are.3 is_ready.gives.head h.0 w is_ready.are.6;
            iterations = (refl, h.1, h.2 is_ready.are.3.1);
            near = s.near;
            given = s.given;
            is = s.is;
            steps = steps_more as_first (step_next (next_second h.0.0));
          }

      pub tail_well : (e : Entering) → After (way.Enters e) → IsWell g x (tail_of e)
      tail_well e after = (after_here (way.Enters e) after).0.1

      pub stands_into : (e : Entering) (mid new : List Frame) (t : Iteration) → e.key ≡ Key (tail_of e)
          → After (way.Enters e) → AreWaiting key given.events a ls mid → IsEntered st e mid new t
          → S root t new st links n
      stands_into e mid new t own after w i =
          stands_entered root e mid st links n (stands_on (tail_of e) mid
          (λ j f es y. (after j f es y).0) w) new t own (after_here (way.Enters e) after).1 i

      pub tail_marked : (e : Entering) → After (way.Enters e) → e.key ≡ tail_marks g.keys e.node e.index
      tail_marked e after = (after_here (way.Enters e) after).2

      task_ends : (own : Given) (new : List Stored) → K a (is_ready.task ∷ []) → G links a own → C links a own st new
          → S root (Answer own) ls new links n
      task_ends own new kids h c = record {
        levels = is_ready.are.1;
        begun = s.begun;
        task = a;
        are = is_ready.are.6;
        iterations = h;
        given = c.keeps h s.given;
        is = s.is;
        steps = subst (λ v. SS root (Works (record { levels = is_ready.are.1; stored = v; begun = s.begun })))
            (sym c.tasks)
            (steps_more as_first (step_last kids));
        near = s.near;
      }

      pub stands_up : (f : Found) (new : List Stored) → After (way.Gives f)
          → (key ≡ Key a → C links a (record { found = f; events = 0 }) st new)
          → S root (Answer (record { found = f; events = 0 })) ls new links n
      stands_up f new after closed =
          let h = after_here (way.Gives f) after in
          task_ends (record { found = f; events = 0 }) new h.0 (given_none links a f h.1) (closed is_ready.are.4)

      pub stands_same : (new : List Stored) → After way.Same → (key ≡ Key a → C links a given st new)
          → S root (Answer given) ls new links n
      stands_same new after closed =
          let h = after_here way.Same after in
          task_ends given new h.0
          (record {
            events = is_ready.gives.events;
            yields = h.1;
            quiet = is_ready.gives.quiet;
            head = is_ready.gives.head;
          })
          (closed is_ready.are.4)

    pub stands_last : (head : ℕ) → S root (Answer given) (record { task = a; key = key; wait = Last head } ∷ ls) st
        links n → (more_links : List Link) (all : Given) (new : List Stored) → AreGrown links more_links
        → IsJoined links more_links head given all → (key ≡ Key a → C more_links a all st new)
        → S root (Answer all) ls new more_links n
    stands_last head s more_links all new grown j closed =
        let r = ready_of s in
        let c = closed r.are.4 in
        let w = r.are.5 in
        let h = given_joined links more_links a r.task r.are.0 head w.0 given all w.1 w.2 r.gives j in
        record {
          levels = r.are.1;
          begun = s.begun;
          task = a;
          are = levels_grown grown r.are.6;
          iterations = h;
          given = c.keeps h (keys_grown grown s.given);
          is = s.is;
          steps = subst (λ v. SS root (Works (record { levels = r.are.1; stored = v; begun = s.begun }))) (sym c.tasks)
              (steps_more (at_levels s.begun r.levels (record { at = a; asked = r.are.0 } ∷ r.are.1) r.are.2 r.steps)
              (step_last w.2.0));
          near = s.near;
        }

  module _ (root : MatchTask) (l : Frame) (given : Given) (ls : List Frame) (st : List Stored) (links : List Link)
      (n : ℕ)
      (s : S root (Answer given) (l ∷ ls) st links n) where
    pub level_well : IsWell g x l.task
    level_well = let r = ready_of s in top_well links root l.wait l ls r.levels r.task r.are

    pub level_head : IsWaitHead links l.wait
    level_head = let r = ready_of s in top_head links root l.wait l ls r.levels r.task r.are

  pub given_head : (root : MatchTask) (given : Given) (ls : List Frame) (st : List Stored) (links : List Link) (n : ℕ)
      → S root (Answer given) ls st links n → IsHead links given.events
  given_head root given ls st links n s = s.iterations.head.is

  module _ (root : MatchTask) (given : Given) (st : List Stored) (links : List Link) (n : ℕ)
      (s : S root (Answer given) [] st links n) where
    pub end_gives : G links root given
    end_gives = let r = ready_of s in subst (λ v. G links v given) r.are.1 r.gives

    pub end_runs : Run MatchTask K Key weight [] root (tasks_of st) n
    end_runs =
        let r = ready_of s in
        subst (Run MatchTask K Key weight [] root (tasks_of st)) s.is
        (run_of_steps MatchTask K (NextOf (rules_of g.rules) (shapes_of g.nodes) g.bodies x) Key weight root
        (tasks_of st)
        s.begun
        (subst (λ v. SS root (Works (record { levels = v; stored = tasks_of st; begun = s.begun }))) r.are.0 r.steps))

  pub closed_key : (links : List Link) (a : MatchTask) (given : Given) (old new : List Stored) → Key a ≡ true
      → new ≡ record { task = a; given = given } ∷ old
      → C links a given old new
  closed_key links a given old new t grown = subst (C links a given old) (sym grown) (record {
    tasks = subst (λ v. a ∷ tasks_of old ≡ store MatchTask v a (tasks_of old)) (sym t) refl;
    keeps = λ h r. record { given = λ s i. by s h r (first i) };
  })
    where
      first : {s : Stored} → IsIn s (record { task = a; given = given } ∷ old)
          → (s ≡ record { task = a; given = given }) ⊎ IsIn s old
      first in_here = inl refl
      first (in_later i) = inr i

      by : (s : Stored) → G links a given → AreGiven g x more links old
          → (s ≡ record { task = a; given = given }) ⊎ IsIn s old → G links s.task s.given
      by s h r (inl is) = subst (λ v. G links v.task v.given) (sym is) h
      by s h r (inr i) = r.given s i

  pub closed_plain : (links : List Link) (a : MatchTask) (given : Given) (old : List Stored) → Key a ≡ false
      → C links a given old old
  closed_plain links a given old t = record {
    tasks = subst (λ v. tasks_of old ≡ store MatchTask v a (tasks_of old)) (sym t) refl;
    keeps = λ h r. r;
  }

  pub stands_as : {root : MatchTask} {t u : Iteration} {ls ms : List Frame} {st su : List Stored} {ks kl : List Link}
      {n m : ℕ}
      → t ≡ u → ls ≡ ms → st ≡ su → ks ≡ kl → n ≡ m → S root t ls st ks n → S root u ms su kl m
  stands_as {root = root} {t = t} {u = u} {ls = ls} {ms = ms} {st = st} {su = su} {ks = ks} {kl = kl} {m = m} a b c e d
      s =
      subst (λ v. S root v ms su kl m) a (subst (λ v. S root t v su kl m) b (subst (λ v. S root t ls v kl m) c
      (subst (λ v. S root t ls st v m) e (subst (S root t ls st ks) d s))))

  -- no more are begun than nodes at positions
  pub stands_few : (root : ℕ) (t : Iteration) (ls : List Frame) (st : List Stored) (links : List Link) (n : ℕ)
      → IsSoundGrammar g → slice_get g.bodies g.start ≡ Some root
      → AreMarks g.start (shapes_of g.nodes) g.bodies (node_marks marks) (tail_marks marks)
      → S (Eval root 0) t ls st links n → n ≤ most_begun g x
  stands_few root t ls st links n sound at are s =
      let most = begun_at_positions (rules_of g.rules) g.start
      (shapes_of g.nodes) g.bodies g.ranks x false sound root at
      (node_marks marks) (tail_marks marks) are (state_of t s.task s.levels (tasks_of st) s.begun) s.steps in
      let same : length (shapes_of g.nodes) ≡ length g.nodes = length-map g.nodes shape_of in
      subst (λ v. n ≤ v * (length x + 1)) same (by t (state_of t s.task s.levels (tasks_of st) s.begun) refl most)
    where
      by : (u : Iteration) (w : State MatchTask) → w ≡ state_of u s.task s.levels (tasks_of st) s.begun
          → total MatchTask K Key weight (held MatchTask w).begun ≤ length (shapes_of g.nodes) * (length x + 1)
          → n ≤ length (shapes_of g.nodes) * (length x + 1)
      by (Ask a) w is le =
          let count = s.is in
          let same : total MatchTask K Key weight (held MatchTask w).begun ≡ total MatchTask K Key weight s.begun =
          subst (λ v. total MatchTask K Key weight (held MatchTask v).begun ≡ total MatchTask K Key weight s.begun)
          (sym is) refl in
          omega (arith, count, same, le)
      by (Answer f) w is le =
          let count = s.is in
          let same : total MatchTask K Key weight (held MatchTask w).begun ≡ total MatchTask K Key weight s.begun =
          subst (λ v. total MatchTask K Key weight (held MatchTask v).begun ≡ total MatchTask K Key weight s.begun)
          (sym is) refl in
          omega (arith, count, same, le)
