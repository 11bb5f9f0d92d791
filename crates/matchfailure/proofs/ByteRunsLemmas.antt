-- Repetitions of a set of bytes, which are passed at once.
-- Serves: FailureMachine::begin.
use Rattle.std.proofs.Common.{◌≡◌, ◌⊎◌, inl, inr, ℕ, zero, suc, ◌+◌, ◌-◌, ◌<◌, ◌≤◌, Bool, true, List, [], ◌∷◌}
use Rattle.std.proofs.Common.{◌++◌, Option, Some, None, refl, sym, ◌∙◌, subst, arith}
use Rattle.std.specs.Prelude.{slice_get}
use Rattle.gramcheck.specs.Grammar.{Grammar, IsSoundGrammar}
use Rattle.gramcheck.specs.Outcome.{set_takes, set_fails, set_at_end}
use Rattle.memo.specs.KeyLog.{LogView, rising, run_of}
use Rattle.memo.specs.Parts.{IsIn, in_here, in_later}
use Rattle.memo.specs.declared.found.Found.TheVariants.{Failed, Took}
use Rattle.memo.specs.declared.key_log.Given.{Given}
use Rattle.memo.specs.declared.key_log.Stored.{Stored}
use Rattle.memo.specs.declared.task.MatchTask.{MatchTask}
use Rattle.memo.specs.declared.task.MatchTask.TheVariants.{Eval}
use Rattle.pegmatch.specs.KeptEvents.{SpellsSome}
use Rattle.pegmatch.specs.Visits.{AsksBy}
use Rattle.pegnodes.proofs.HasShapeLemmas.{has_shape}
use Rattle.pegnodes.specs.Nodes as node
use Rattle.pegnodes.specs.Nodes.{Spells, shapes_of}
use Rattle.pegread.specs.Pattern as expr
use Rattle.pegread.specs.PegViews.{rules_of}
use Rattle.matchfailure.specs.ByteRuns.{IsByteRun, IsRunPassed}
use Rattle.matchfailure.specs.FailureStates.{AreFailures, IsCovered, IsOwnRecorded, IsResult, Stands}
use Rattle.matchfailure.specs.FailureTasks.{IsOutside, IsWell, NodeFinds, TaskAsks, TaskFinds}
use Rattle.matchfailure.specs.Farthest.{LeafStops, StopsBy}
use Rattle.matchfailure.specs.KeptFailures.{StaysRecorded}
use Rattle.matchfailure.specs.FailureSteps.{BecomesTask}
use Rattle.matchfailure.specs.declared.tasks.frames.TaskFrame.{TaskFrame}
use Rattle.matchfailure.specs.declared.tasks.kept.KeptFailures.{KeptFailures}
use Rattle.matchfailure.specs.declared.tasks.machine.NextTask.TheVariants.{Ask, Answer}
use Rattle.matchfailure.specs.declared.tasks.runs.ByteRun.{ByteRun}
use Rattle.matchfailure.proofs.FailureStatesLemmas.{asks_outside, gives_covers, stack_stays, stored_stays}
use Rattle.matchfailure.proofs.FailureStatesLemmas.{becoming_covers}
use Rattle.matchfailure.proofs.FailureStepsLemmas.{by_gives, first_asks, star_fails, star_takes}

-- one of a run, or one that was stored before
record IsOfRun (node from to : ℕ) (given : Given) (t : Stored) : Type 0 where
  pub position : ℕ
  pub low : from ≤ position
  pub high : position < to
  pub is : t ≡ record { task = Eval node position; given = given }

of_run : (node : ℕ) (given : Given) (n from : ℕ) (t : Stored) (old : List Stored)
    → IsIn t (rising (λ p. record { task = Eval node p; given = given }) from n ++ old)
    → IsOfRun node from (from + n) given t ⊎ IsIn t old
of_run node given zero from t old there = inr there
of_run node given (suc n) from t old there = by t there (λ u later. of_run node given n (suc from) u old later)
  where
    by : (t : Stored) → IsIn t (record { task = Eval node from; given = given }
        ∷ (rising (λ p. record { task = Eval node p; given = given }) (suc from) n ++ old))
        → ((u : Stored) → IsIn u (rising (λ p. record { task = Eval node p; given = given }) (suc from) n ++ old)
        → IsOfRun node (suc from) (suc from + n) given u ⊎ IsIn u old)
        → IsOfRun node from (from + suc n) given t ⊎ IsIn t old
    by t in_here rec = inl (record { position = from; low = omega arith; high = omega arith; is = refl })
    by t (in_later later) rec = elim (rec t later) [
      | inl o ↦
          let low = o.low in
          let high = o.high in
          inl (record { position = o.position; low = omega (arith, low); high = omega (arith, high); is = o.is })
      | inr before ↦ inr before
    ]

module _ (g : Grammar) (x : List ℕ) where
  module _ (sound : IsSoundGrammar g) (a : MatchTask) (run : ByteRun) (is : IsByteRun g x a run)
      (s : SpellsSome (rules_of g.rules) (shapes_of g.nodes) run.star) where
    operand_spelled : Spells (rules_of g.rules) (shapes_of g.nodes) run.operand (expr.Set is.members)
    operand_spelled =
        let like = has_shape (rules_of g.rules) (shapes_of g.nodes) s.1 (node.Star run.operand) is.star_at in
        subst (Spells (rules_of g.rules) (shapes_of g.nodes) run.operand)
        (has_shape (rules_of g.rules) (shapes_of g.nodes) like.2 (node.Set is.members) is.set_at) like.2

    operand_takes : (r : ℕ) → run.from ≤ r → r < run.end → NodeFinds g x run.operand r (Took (r + 1))
    operand_takes r low high = let byte = is.taken r low high in
        by_gives g x sound (Took (r + 1)) [] operand_spelled (set_takes byte.1 byte.2)

    operand_fails : NodeFinds g x run.operand run.end Failed
    operand_fails = by (slice_get x run.end) refl
      where
        by : (o : Option ℕ) → slice_get x run.end ≡ o → NodeFinds g x run.operand run.end Failed
        by None at = by_gives g x sound Failed [] operand_spelled (set_at_end at)
        by (Some b) at = by_gives g x sound Failed [] operand_spelled (set_fails at (is.stops b at))

    -- from each position on to the next
    goes_further : (r : ℕ) → run.from ≤ r → r < run.end
        → BecomesTask g x (Some (record { node = run.operand; position = r })) (Eval run.star r) (Eval run.star (r + 1))
    goes_further r low high = let within = is.within in
        star_takes g x sound run.star r s (omega (arith, within, high)) run.operand (r + 1) is.star_at
        (operand_takes r low high)

    star_ends : (k r : ℕ) → run.from ≤ r → r + k ≡ run.end → NodeFinds g x run.star r (Took run.end)
    star_ends zero r low there =
        let same : run.end ≡ r = omega (arith, there) in
        let within = is.within in
        subst (λ v. NodeFinds g x run.star r (Took v)) (sym same)
        (star_fails g x sound run.star r s (omega (arith, within, there)) run.operand is.star_at
        (subst (λ v. NodeFinds g x run.operand v Failed) same operand_fails)).0
    star_ends (suc k) r low there = (goes_further r low (omega (arith, there))).finds (Took run.end)
        (star_ends k (r + 1) (omega (arith, low)) (omega (arith, there)))

    no_star_stops : (r f : ℕ) → LeafStops (shapes_of g.nodes) x run.star r f → ⊥
    no_star_stops r f l = let same : l.shape ≡ node.Star run.operand = cc (l.at, is.star_at) in
        subst (λ v. StopsBy x v r f) same l.by

    -- the set fails at the end alone
    operand_recorded : (kept : KeptFailures) (r : ℕ) → run.from ≤ r → r < run.end
        → IsOwnRecorded g x kept (Eval run.operand r)
    operand_recorded kept r low high = λ f l.
        let same : l.shape ≡ node.Set is.members = cc (l.at, is.set_at) in
        let stops = subst (λ v. StopsBy x v r f) same l.by in
        let byte = is.taken r low high in
        absurd (let none = stops.0 byte.0 byte.1 in let all = byte.2 in cc (none, all))

    operand_asks : (r m q : ℕ) → TaskAsks g x (Eval run.operand r) m q → ⊥
    operand_asks r m q asks = let same : asks.1.shape ≡ node.Set is.members = cc (asks.1.at, is.set_at) in
        subst (λ v. AsksBy (rules_of g.rules) (shapes_of g.nodes) g.bodies x v run.operand r m q) same asks.1.by

    module _ (kept : KeptFailures) (own : IsOwnRecorded g x kept (Eval run.operand run.end)) where
      operand_covered : (r : ℕ) → IsOwnRecorded g x kept (Eval run.operand r) → IsCovered g x kept (Eval run.operand r)
      operand_covered r recorded = gives_covers g x kept None (Eval run.operand r) recorded (λ m q was asks. absurd was)
          (λ m q asks. absurd (operand_asks r m q asks))

      no_star_recorded : (r : ℕ) → IsOwnRecorded g x kept (Eval run.star r)
      no_star_recorded r = λ f l. absurd (no_star_stops r f l)

      as_operand : (r : ℕ) → IsCovered g x kept (Eval run.operand r) → (m q : ℕ)
          → (m ≡ run.operand) × (q ≡ r) → TaskAsks g x (Eval run.star r) m q → IsCovered g x kept (Eval m q)
      as_operand r covered m q was asks = rw (was.0, was.1) covered

      star_covered : (k r : ℕ) → run.from ≤ r → r + k ≡ run.end → IsCovered g x kept (Eval run.star r)
      star_covered zero r low there =
          let same : run.end ≡ r = omega (arith, there) in
          let within = is.within in
          gives_covers g x kept (Some (record { node = run.operand; position = r })) (Eval run.star r)
          (no_star_recorded r)
          (as_operand r (subst (λ v. IsCovered g x kept (Eval run.operand v)) same (operand_covered run.end own)))
          (star_fails g x sound run.star r s (omega (arith, within, there)) run.operand is.star_at
          (subst (λ v. NodeFinds g x run.operand v Failed) same operand_fails)).1
      star_covered (suc k) r low there =
          let high : r < run.end = omega (arith, there) in
          let covers = becoming_covers g x kept (Some (record { node = run.operand; position = r })) (Eval run.star r)
          (no_star_recorded r) (as_operand r (operand_covered r (operand_recorded kept r low high))) (Eval run.star (r
          + 1))
          (goes_further r low high) in
          let rest = star_covered k (r + 1) (omega (arith, low)) (omega (arith, there)) in
          λ m q f l stops. elim (covers m q f l stops) [
            | inl recorded ↦ recorded
            | inr later ↦ rest m q f later stops
          ]

    -- the set is asked for at the end, outside of `!` where the repetition is
    star_outside : IsOutside g x (Eval run.star run.from) → (k r : ℕ) → run.from + k ≡ r → r ≤ run.end
        → IsOutside g x (Eval run.star r)
    star_outside out zero r there high = let same : run.from ≡ r = omega (arith, there) in
        subst (λ v. IsOutside g x (Eval run.star v)) same out
    star_outside out (suc k) r there high =
        let before : run.from + k < run.end = omega (arith, there, high) in
        let from : run.from ≤ run.from + k = omega arith in
        let rest = star_outside out k (run.from + k) refl (omega (arith, before)) in
        let next : run.from + k + 1 ≡ r = omega (arith, there) in
        subst (λ v. IsOutside g x (Eval run.star v)) next
        (λ m q h. asks_outside g x (Eval run.star (run.from + k)) rest m q ((goes_further (run.from + k) from
        before).only
        m q h))

    last_outside : IsOutside g x (Eval run.star run.from) → IsOutside g x (Eval run.operand run.end)
    last_outside out m q h =
        let low = is.low in
        rw (h.0, h.1) (asks_outside g x (Eval run.star run.end)
        (star_outside out (run.end - run.from) run.end (omega (arith, low)) (omega arith)) run.operand run.end
        (first_asks g x sound (Eval run.star run.end) run.operand run.end
        (refl, (node.Star run.operand, is.star_at, (refl, refl)))))

  module _ (a : MatchTask) (run : ByteRun) where
    pub last_well : IsSoundGrammar g → IsByteRun g x a run → IsWell g x a → IsWell g x (Eval run.operand run.end)
    last_well sound is well =
        let here = subst (IsWell g x) is.task well in
        ((expr.Set is.members, operand_spelled sound a run is here.0), is.within)

  module _ (log : LogView) (frames : List TaskFrame) (kept : KeptFailures) (a : MatchTask) (outside : Bool)
      (run : ByteRun) where
    pub passes_run : (old : KeptFailures) → IsSoundGrammar g → IsByteRun g x a run → Stands g x log frames old (Ask a
        outside)
        → StaysRecorded old kept → (outside ≡ true → IsOwnRecorded g x kept (Eval run.operand run.end))
        → ((outside ≡ true → IsOutside g x (Eval run.operand run.end)) → AreFailures g x old → AreFailures g x kept)
        → IsRunPassed g x log frames kept a outside run
    passes_run old sound is s stays own failures =
        let here = subst (IsWell g x) is.task s.next.0 in
        record {
          stored = stored_stays g x old kept stays log s.stored;
          failures = failures (λ out. last_outside sound a run is here.0 (subst (IsOutside g x) is.task (s.next.1 out)))
              s.failures;
          task = is.task;
          low = is.low;
          stack = stack_stays g x old kept stays s.next.2;
          results = λ r low high. (
            star_ends sound a run is here.0 (run.end - r) r low (omega (arith, high)),
            λ out. star_covered sound a run is here.0 kept (own out) (run.end - r) r low (omega (arith, high)),
          );
        }

    pub run_ends : IsRunPassed g x log frames kept a outside run → Stands g x log frames kept (Answer (Took run.end))
    run_ends passed =
        let low = passed.low in
        record {
          stored = passed.stored;
          failures = passed.failures;
          next = (
            a,
            outside,
            passed.stack,
            subst (λ v. IsResult g x kept v outside (Took run.end)) (sym passed.task)
                (passed.results run.from (omega arith) low),
          );
        }

    pub run_stored : IsRunPassed g x log frames kept a outside run → (mark : ℕ) → (mark ≡ 1 → outside ≡ true)
        → (new : LogView)
        → new.stored ≡ run_of run.star run.from run.end (record { found = Took run.end; events = mark }) ++ log.stored
        → new.rows ≡ log.rows → Stands g x new frames kept (Answer (Took run.end))
    run_stored passed mark marks new is rows =
        let ended = run_ends passed in
        record {
          stored = record {
            rows = rows ∙ passed.stored.rows;
            right = λ t there. elim (of_run run.star (record { found = Took run.end; events = mark })
                (run.end + 1 - run.from) run.from t log.stored (subst (IsIn t) is there)) [
                  | inl o ↦ own o.position o.low (let high = o.high in let low = passed.low in omega (
                    arith,
                    high,
                    low,
                  )) t o.is
                  | inr before ↦ passed.stored.right t before
                ];
          };
          failures = ended.failures;
          next = ended.next;
        }
      where
        own : (r : ℕ) → run.from ≤ r → r ≤ run.end → (t : Stored)
            → t ≡ record { task = Eval run.star r; given = record { found = Took run.end; events = mark } }
            → TaskFinds g x t.task t.given.found × (t.given.events ≡ 1 → IsCovered g x kept t.task)
        own r low high t same =
            let result = passed.results r low high in
            subst (λ v. TaskFinds g x v.task v.given.found × (v.given.events ≡ 1 → IsCovered g x kept v.task))
            (sym same) (result.0, λ marked. result.1 (marks marked))
