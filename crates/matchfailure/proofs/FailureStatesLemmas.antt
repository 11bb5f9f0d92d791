-- What a failure machine holds on its way.
-- Serves: FailureMachine::evaluate.
use Rattle.std.proofs.lemmas.List.{length-map}
use Rattle.std.proofs.Common.{◌≡◌, ◌⊎◌, inl, inr, ℕ, ◌<◌, length, Bool, true, false, List, [], ◌∷◌, Option}
use Rattle.std.proofs.Common.{Some, None}
use Rattle.std.proofs.Common.{refl, ◌∙◌, ap, subst, arith}
use Rattle.std.specs.Prelude.{slice_get}
use Rattle.gramcheck.specs.Grammar.{Grammar, IsSoundGrammar}
use Rattle.memo.specs.KeyLog.{LogView, row_of}
use Rattle.memo.specs.Parts.{IsIn, in_here, in_later}
use Rattle.memo.specs.declared.found.Found.{Found}
use Rattle.memo.specs.declared.key_log.Given.{Given}
use Rattle.memo.specs.declared.key_log.Stored.{Stored}
use Rattle.memo.specs.declared.task.MatchTask.{MatchTask}
use Rattle.memo.specs.declared.task.MatchTask.TheVariants.{Eval, Tail}
use Rattle.pegnodes.proofs.NodeSpellsLemmas.{is_there}
use Rattle.pegnodes.specs.Nodes.{shape_of, shapes_of}
use Rattle.pegread.specs.PegViews.{rules_of}
use Rattle.matchfailure.specs.FailureStates.{AreFailures, Awaits, AwaitsFirst, IsCovered, IsOn, IsOwnRecorded}
use Rattle.matchfailure.specs.FailureStates.{IsReady, IsResult, IsStack, stack_root, stack_on, IsStored, LeadsOn}
use Rattle.matchfailure.specs.FailureStates.{leads_here, leads_later, PassesOn, side_under, Stands, TaskLeads}
use Rattle.matchfailure.specs.FailureTasks.{IsFirst, IsOutside, IsWell, NodeFinds, TaskAsks, TaskFinds, TaskHas}
use Rattle.matchfailure.specs.Farthest.{LeafStops, Outside, first_outside, asked_outside}
use Rattle.matchfailure.specs.KeptFailures.{IsRecorded, StaysRecorded}
use Rattle.matchfailure.specs.FailureSteps.{IsBegun, IsStepAfter, BecomesTask, WasAsked}
use Rattle.matchfailure.specs.declared.farthest.visit.Visit.{Visit}
use Rattle.matchfailure.specs.declared.tasks.frames.TaskFrame.{TaskFrame}
use Rattle.matchfailure.specs.declared.tasks.kept.KeptFailures.{KeptFailures}
use Rattle.matchfailure.specs.declared.tasks.machine.NextTask.TheVariants.{Ask, Answer}
use Rattle.matchfailure.specs.declared.tasks.steps.TaskStep.{TaskStep}
use Rattle.matchfailure.specs.declared.tasks.steps.TaskStep.TheVariants as step
use Rattle.matchfailure.proofs.FailureStepsLemmas.{denied_asks, first_asks, first_well}

module _ (g : Grammar) (x : List ℕ) where
  abbrev Stops : ℕ → ℕ → ℕ → Type 0
  Stops k r f = LeafStops (shapes_of g.nodes) x k r f

  pub row_within : (a : MatchTask) → IsWell g x a → row_of a < length g.nodes
  row_within (Eval n p) well = rw (← length-map g.nodes shape_of)
      (is_there (rules_of g.rules) (shapes_of g.nodes) well.0.1)
  row_within (Tail n i p) well = rw (← length-map g.nodes shape_of)
      (is_there (rules_of g.rules) (shapes_of g.nodes) well.0.1)

  -- what holds of failures that are recorded holds while more are recorded
  module _ (old new : KeptFailures) (stays : StaysRecorded old new) where
    pub covered_stays : {a : MatchTask} → IsCovered g x old a → IsCovered g x new a
    covered_stays c = λ k r f l s. stays k r f (c k r f l s)

    pub own_stays : (a : MatchTask) → IsOwnRecorded g x old a → IsOwnRecorded g x new a
    own_stays (Eval n p) own = λ f s. stays n p f (own f s)
    own_stays (Tail n i p) own = tt

    passes_stay : {outside : Bool} {a b : MatchTask} → PassesOn g x old outside a b → PassesOn g x new outside a b
    passes_stay p = record {
      finds = p.finds;
      covers = λ is k r f l s. elim (p.covers is k r f l s) [
        | inl recorded ↦ inl (stays k r f recorded)
        | inr later ↦ inr later
      ];
    }

    awaits_stay : (stores : Bool) (a : MatchTask) (outside : Bool) (b : MatchTask) (inner : Bool)
        → Awaits g x old stores a outside b inner → Awaits g x new stores a outside b inner
    awaits_stay true a outside b inner w = (passes_stay w.0, w.1)
    awaits_stay false a outside b inner w = record {
      node = w.node;
      position = w.position;
      denied = w.denied;
      first = w.first;
      passes = passes_stay w.passes;
      side = w.side;
      own = λ is. own_stays a (w.own is);
    }

    pub stack_stays : {fs : List TaskFrame} {a : MatchTask} {outside : Bool} → IsStack g x old fs a outside
        → IsStack g x new fs a outside
    stack_stays (stack_root at p) = stack_root at (passes_stay p)
    stack_stays (stack_on {frame = frame} {b = b} {inner = inner} on below) = stack_on (record {
      well = on.well;
      outside = on.outside;
      awaits = awaits_stay frame.stores frame.task frame.outside b inner on.awaits;
    }) (stack_stays below)

    pub stored_stays : (log : LogView) → IsStored g x old log → IsStored g x new log
    stored_stays log s = record {
      rows = s.rows;
      right = λ t there. let is = s.right t there in (is.0, λ marked. covered_stays (is.1 marked));
    }

  module _ (kept : KeptFailures) where
    passes_self : (outside : Bool) (a : MatchTask) → PassesOn g x kept outside a a
    passes_self outside a = record { finds = λ f t. t; covers = λ is k r f l s. inr l }

    passes_further : {outside : Bool} {a b c : MatchTask} → PassesOn g x kept outside a b
        → PassesOn g x kept outside b c → PassesOn g x kept outside a c
    passes_further p q = record {
      finds = λ f t. p.finds f (q.finds f t);
      covers = λ is k r f l s. elim (p.covers is k r f l s) [
        | inl recorded ↦ inl recorded
        | inr later ↦ q.covers is k r f later s
      ];
    }

    passes_result : (f : Found) {outside : Bool} {a b : MatchTask} → PassesOn g x kept outside a b
        → IsResult g x kept b outside f → IsResult g x kept a outside f
    passes_result f p result = (
      p.finds f result.0,
      λ is k r h l s. elim (p.covers is k r h l s) [
        | inl recorded ↦ recorded
        | inr later ↦ result.1 is k r h later s
      ],
    )

    awaits_becoming : (stores : Bool) (a : MatchTask) (outside : Bool) (b c : MatchTask) (inner : Bool)
        → Awaits g x kept stores a outside b inner → PassesOn g x kept inner b c
        → Awaits g x kept stores a outside c inner
    awaits_becoming true a outside b c inner w p =
        (passes_further w.0 (subst (λ v. PassesOn g x kept v b c) w.1 p), w.1)
    awaits_becoming false a outside b c inner w p = record {
      node = w.node;
      position = w.position;
      denied = w.denied;
      first = w.first;
      passes = passes_further w.passes p;
      side = w.side;
      own = w.own;
    }

    stack_becomes : {fs : List TaskFrame} {b c : MatchTask} {outside : Bool} → IsStack g x kept fs b outside
        → PassesOn g x kept outside b c → IsStack g x kept fs c outside
    stack_becomes (stack_root at p) q = stack_root at (passes_further p q)
    stack_becomes {c = c} (stack_on {frame = frame} {b = b} {inner = inner} on below) q = stack_on (record {
      well = on.well;
      outside = on.outside;
      awaits = awaits_becoming frame.stores frame.task frame.outside b c inner on.awaits q;
    }) below

    -- what an evaluation leads to: itself, or what one leads to that it asks for
    record LeadsBy (a : MatchTask) (k r : ℕ) : Type 0 where
      pub node : ℕ
      pub position : ℕ
      pub asks : TaskAsks g x a node position
      pub leads : LeadsOn g x node position k r

    from_node : {n p k r : ℕ} → LeadsOn g x n p k r → (f : ℕ) → Stops k r f
        → ((h : ℕ) → Stops n p h → IsRecorded kept n p h) → IsRecorded kept k r f ⊎ LeadsBy (Eval n p) k r
    from_node leads_here f s own = inl (own f s)
    from_node (leads_later {m = m} {q = q} a l) f s own =
        inr (record { node = m; position = q; asks = a; leads = l })

    leads_split : (a : MatchTask) (k r f : ℕ) → TaskLeads g x a k r → Stops k r f → IsOwnRecorded g x kept a
        → IsRecorded kept k r f ⊎ LeadsBy a k r
    leads_split (Eval n p) k r f l s own = from_node (subst (λ v. LeadsOn g x n v k r) l.has.1
        (subst (λ v. LeadsOn g x v l.position k r) l.has.0 l.leads)) f s own
    leads_split (Tail n i p) k r f l s own =
        inr (record { node = l.node; position = l.position; asks = l.has; leads = l.leads })

    module _ (asked : Option Visit) (a : MatchTask) (own : IsOwnRecorded g x kept a)
        (covered : (m q : ℕ) → WasAsked asked m q → TaskAsks g x a m q → IsCovered g x kept (Eval m q)) where
      pub becoming_covers : (b : MatchTask) → BecomesTask g x asked a b → (k r f : ℕ) → TaskLeads g x a k r → Stops k r
          f
          → IsRecorded kept k r f ⊎ TaskLeads g x b k r
      becoming_covers b t k r f l s = elim (leads_split a k r f l s own) [
        | inl recorded ↦ inl recorded
        | inr by ↦ elim (t.whole by.node by.position by.asks) [
          | inl was ↦ inl (covered by.node by.position was by.asks k r f
              (record { node = by.node; position = by.position; has = (refl, refl); leads = by.leads }) s)
          | inr has ↦ inr (record { node = by.node; position = by.position; has = has; leads = by.leads })
        ]
      ]

      pub gives_covers : ((m q : ℕ) → TaskAsks g x a m q → WasAsked asked m q) → IsCovered g x kept a
      gives_covers was k r f l s = elim (leads_split a k r f l s own) [
        | inl recorded ↦ recorded
        | inr by ↦ covered by.node by.position (was by.node by.position by.asks) by.asks k r f
            (record { node = by.node; position = by.position; has = (refl, refl); leads = by.leads }) s
      ]

  -- what a task outside of `!` asks for is outside
  pub asks_outside : (a : MatchTask) → IsOutside g x a → (m q : ℕ) → TaskAsks g x a m q
      → Outside (rules_of g.rules) (shapes_of g.nodes) g.bodies x g.start m q
  asks_outside (Eval n p) out m q a = asked_outside (out n p (refl, refl)) a
  asks_outside (Tail n i p) out m q a = out m q a

  module _ (log : LogView) (frames : List TaskFrame) (kept : KeptFailures) where
    pub ready_gives : (asked : Option Visit) (a : MatchTask) (outside : Bool) (f : Found)
        → IsReady g x log frames kept asked a outside (step.Gives f) → Stands g x log frames kept (Answer f)
    ready_gives asked a outside f r = record {
      stored = r.stored;
      failures = r.failures;
      next = (
        a,
        outside,
        r.stack,
        (r.step.0, λ is. gives_covers kept asked a (r.own is) (r.covered is) r.step.1),
      );
    }

    pub ready_becomes : (asked : Option Visit) (a : MatchTask) (outside : Bool) (b : MatchTask)
        → IsReady g x log frames kept asked a outside (step.Becomes b) → Stands g x log frames kept (Ask b outside)
    ready_becomes asked a outside b r = record {
      stored = r.stored;
      failures = r.failures;
      next = (
        r.step.well,
        λ is m q h. asks_outside a (r.outer is) m q (r.step.only m q h),
        stack_becomes kept r.stack (record {
          finds = r.step.finds;
          covers = λ is. becoming_covers kept asked a (r.own is) (r.covered is) b r.step;
        }),
      );
    }

    pub ready_asks : IsSoundGrammar g → (asked : Option Visit) (a : MatchTask) (outside : Bool) (k q : ℕ)
        (denied : Bool) → IsReady g x log frames kept asked a outside (step.Asks k q denied)
        → Stands g x log (record { task = a; outside = outside; stores = false; cost = 0 } ∷ frames) kept
        (Ask (Eval k q) (side_under denied outside))
    ready_asks sound asked a outside k q denied r = record {
      stored = r.stored;
      failures = r.failures;
      next = (
        first_well g x sound a k q denied r.well r.step,
        λ is m h at. by denied outside is r.step r.outer m h at,
        stack_on (record {
          well = r.well;
          outside = r.outer;
          awaits = record {
            node = k;
            position = q;
            denied = denied;
            first = r.step;
            passes = passes_self kept (side_under denied outside) (Eval k q);
            side = refl;
            own = r.own;
          };
        }) r.stack,
      );
    }
      where
        by : (denied outside : Bool) → side_under denied outside ≡ true → IsFirst g a k q denied
            → (outside ≡ true → IsOutside g x a) → (m h : ℕ) → TaskHas g x (Eval k q) m h
            → Outside (rules_of g.rules) (shapes_of g.nodes) g.bodies x g.start m h
        by true outside is first out m h at = absurd (cc is)
        by false outside is first out m h at =
            rw (at.0, at.1) (asks_outside a (out is) k q (first_asks g x sound a k q first))

    pub enters_stored : (a : MatchTask) (outside : Bool) (given : Given) (f : Found)
        → Stands g x log frames kept (Ask a outside) → given.found ≡ f
        → IsIn (record { task = a; given = given }) log.stored → (outside ≡ true → given.events ≡ 1)
        → Stands g x log frames kept (Answer f)
    enters_stored a outside given f s is there marked =
        let right = s.stored.right (record { task = a; given = given }) there in
        record {
          stored = s.stored;
          failures = s.failures;
          next = (
            a,
            outside,
            s.next.2,
            (subst (TaskFinds g x a) is right.0, λ out. right.1 (marked out)),
          );
        }

    pub enters_pushed : (a : MatchTask) (outside : Bool) (cost : ℕ) → Stands g x log frames kept (Ask a outside)
        → Stands g x log (record { task = a; outside = outside; stores = true; cost = cost } ∷ frames) kept
        (Ask a outside)
    enters_pushed a outside cost s = record {
      stored = s.stored;
      failures = s.failures;
      next = (
        s.next.0,
        s.next.1,
        stack_on (record {
          well = s.next.0;
          outside = s.next.1;
          awaits = (passes_self kept outside a, refl);
        }) s.next.2,
      );
    }

    pub ready_begins : (old : KeptFailures) (a : MatchTask) (outside : Bool) (t : TaskStep)
        → Stands g x log frames old (Ask a outside) → StaysRecorded old kept
        → (outside ≡ true → IsOwnRecorded g x kept a)
        → ((outside ≡ true → IsOutside g x a) → AreFailures g x old → AreFailures g x kept)
        → IsBegun g x a t → IsReady g x log frames kept None a outside t
    ready_begins old a outside t s stays own failures begun = record {
      stored = stored_stays old kept stays log s.stored;
      failures = failures s.next.1 s.failures;
      well = s.next.0;
      outer = s.next.1;
      stack = stack_stays old kept stays s.next.2;
      own = own;
      step = begun;
      covered = λ is m q h. absurd h;
    }

    stack_top : {frame : TaskFrame} {b : MatchTask} {inner : Bool} → IsStack g x kept (frame ∷ frames) b inner
        → IsOn g x kept frame b inner × IsStack g x kept frames frame.task frame.outside
    stack_top (stack_on on below) = (on, below)

    -- the frame that was the last one
    module _ (frame : TaskFrame) (f : Found) (s : Stands g x log (frame ∷ frames) kept (Answer f)) where
      pub top_well : IsWell g x frame.task
      top_well = (stack_top s.next.2).0.well

      ends_key : frame.stores ≡ true → IsResult g x kept frame.task frame.outside f
      ends_key stores =
          let top = stack_top s.next.2 in
          let w = subst (λ v. Awaits g x kept v frame.task frame.outside s.next.0 s.next.1) stores top.0.awaits in
          passes_result kept f w.0 (subst (λ v. IsResult g x kept s.next.0 v f) w.1 s.next.3)

      pub resumes_unstored : frame.stores ≡ true → Stands g x log frames kept (Answer f)
      resumes_unstored stores = record {
        stored = s.stored;
        failures = s.failures;
        next = (frame.task, frame.outside, (stack_top s.next.2).1, ends_key stores);
      }

      pub resumes_stored : frame.stores ≡ true → (mark : ℕ) → (mark ≡ 1 → frame.outside ≡ true) → (new : LogView)
          → new.stored ≡ record { task = frame.task; given = record { found = f; events = mark } } ∷ log.stored
          → new.rows ≡ log.rows → Stands g x new frames kept (Answer f)
      resumes_stored stores mark marks new is rows =
          let result = ends_key stores in
          record {
            stored = record {
              rows = rows ∙ s.stored.rows;
              right = λ t there. by result t (subst (IsIn t) is there);
            };
            failures = s.failures;
            next = (frame.task, frame.outside, (stack_top s.next.2).1, result);
          }
        where
          by : IsResult g x kept frame.task frame.outside f → (t : Stored)
              → IsIn t (record { task = frame.task; given = record { found = f; events = mark } } ∷ log.stored)
              → TaskFinds g x t.task t.given.found × (t.given.events ≡ 1 → IsCovered g x kept t.task)
          by result t in_here = (result.0, λ marked. result.1 (marks marked))
          by result t (in_later there) = s.stored.right t there

      -- the child that it awaits
      pub record IsResumed : Type 0 where
        pub node : ℕ
        pub position : ℕ
        pub denied : Bool
        pub first : IsFirst g frame.task node position denied
        pub finds : NodeFinds g x node position f
        pub ready : (t : TaskStep)
            → IsStepAfter g x (Some (record { node = node; position = position })) frame.task t
            → IsReady g x log frames kept (Some (record { node = node; position = position })) frame.task frame.outside
            t

      pub is_resumed : IsSoundGrammar g → frame.stores ≡ false → IsResumed
      is_resumed sound stores =
          let top = stack_top s.next.2 in
          let w : AwaitsFirst g x kept frame.task frame.outside s.next.0 s.next.1 =
          subst (λ v. Awaits g x kept v frame.task frame.outside s.next.0 s.next.1) stores top.0.awaits in
          let result = passes_result kept f w.passes s.next.3 in
          record {
            node = w.node;
            position = w.position;
            denied = w.denied;
            first = w.first;
            finds = result.0;
            ready = λ t is. record {
              stored = s.stored;
              failures = s.failures;
              well = top.0.well;
              outer = top.0.outside;
              stack = top.1;
              own = w.own;
              step = is;
              covered = λ out m q was asks. by w.denied w.node w.position w.first
                  (λ in_side. result.1 (w.side ∙ in_side)) out m q was asks;
            };
          }
        where
          by : (denied : Bool) (k q : ℕ) → IsFirst g frame.task k q denied
              → (side_under denied frame.outside ≡ true → IsCovered g x kept (Eval k q)) → frame.outside ≡ true
              → (m r : ℕ) → (m ≡ k) × (r ≡ q) → TaskAsks g x frame.task m r → IsCovered g x kept (Eval m r)
          by true k q first covered out m r was asks =
              absurd (denied_asks g x sound frame.task k q m r first asks)
          by false k q first covered out m r was asks = rw (was.0, was.1) (covered out)

  -- the beginning and the end
  module _ (root : ℕ) (at : slice_get g.bodies g.start ≡ Some root) where
    pub stands_first : IsSoundGrammar g → (log : LogView) (kept : KeptFailures)
        → log ≡ record { stored = []; rows = length g.nodes } → kept.position ≡ None → kept.visits.items ≡ []
        → (frames : List TaskFrame) → frames ≡ [] → Stands g x log frames kept (Ask (Eval root 0) true)
    stands_first sound log kept is none empty frames bare = record {
      stored = record {
        rows = ap (λ v. v.rows) is;
        right = λ t there. absurd (nothing t (subst (IsIn t) (ap (λ v. v.stored) is) there));
      };
      failures = record {
        fail = λ v h. absurd (let none_there : slice_get [] h.0 ≡ Some v = subst (λ w. slice_get w h.0 ≡ Some v) empty
            h.1 in cc none_there);
        some = λ f h. absurd (cc (none, h));
      };
      next = (
        (let there = sound.spelled.spelled g.start root at in (there.0, there.2), omega arith),
        λ out m q h. rw (h.0, h.1) (first_outside at),
        rw bare (stack_root at (passes_self kept true (Eval root 0))),
      );
    }
      where
        nothing : (t : Stored) → IsIn t [] → ⊥
        nothing t there = elim there [ ]

    pub stands_last : (log : LogView) (kept : KeptFailures) (f : Found) → Stands g x log [] kept (Answer f)
        → NodeFinds g x root 0 f × IsCovered g x kept (Eval root 0)
    stands_last log kept f s = by s.next.0 s.next.1 s.next.2 s.next.3
      where
        by : (a : MatchTask) (outside : Bool) → IsStack g x kept [] a outside → IsResult g x kept a outside f
            → NodeFinds g x root 0 f × IsCovered g x kept (Eval root 0)
        by a outside (stack_root {n = n} here p) result =
            let same : n ≡ root = cc (here, at) in
            let all = passes_result kept f p result in (
              subst (λ v. NodeFinds g x v 0 f) same all.0,
              subst (λ v. IsCovered g x kept (Eval v 0)) same (all.1 refl),
            )
