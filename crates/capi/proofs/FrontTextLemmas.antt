-- The messages that stand once for all windows, and the runs after them.
-- Serves: peg_windows
use Rattle.std.proofs.Common.{ℕ, List, [], ◌++◌, refl, sym, ap, append-nil, inr}
use Rattle.std.specs.Prelude.{Result, Err}
use Rattle.capi.proofs.WindowRunsLemmas.{after_as, planned_is_after}
use Rattle.capi.specs.FrontText.{IsFrontOf, StandsFirst, not_reported, refused_once, reported_once}
use Rattle.capi.specs.WindowRuns.{WindowRun}
use Rattle.capi.specs.WindowsRun.{IsRunAfter, stops_early}
use Rattle.memoryrun.specs.PlannedRun.{IsPlannedRun}
use Rattle.ruletable.proofs.AppendsLemmas.{IsPrefixOf-nil, IsPrefixOf-same}
use Rattle.ruletable.specs.Faults.{fault_text}
use Rattle.ruletable.specs.Writing.{IsPrefixOf}
use Rattle.ruletable.specs.declared.fault.ReadFault.{ReadFault}
use Rattle.toolrun.specs.Input.{Input, bounded}
use Rattle.toolrun.proofs.IsRightLemmas.{plan_some, plan_stated}
use Rattle.toolrun.specs.Plan.{Follows, IsPlanned, after_notes, does_of, in_reply, stopped, reported_after}
use Rattle.toolrun.specs.Reply.{Reply}
use Rattle.toolrun.specs.declared.status.Status.TheVariants as status
use Rattle.toolrun.specs.declared.stop.Stop.{Stop}
use Rattle.toolrun.specs.declared.stop.Stop.TheVariants.{Quiet, Refused}

module _ {T : Type 0} (States : Input → List ℕ → Reply → Type 0) (Does : T → Input → Reply → Type 0)
    (first : List ℕ) where
  -- the fault is reported once, and the run of a window stops after it
  after_fault : (fault : ReadFault) → IsPlanned States first Does (Err (Refused fault))
      → (bytes : List ℕ) (run : WindowRun)
      → IsPlannedRun (does_of Does (Err (Quiet status.Refused))) bytes run.out run.err run.code
      → IsRunAfter States (first ++ fault_text fault) bytes run
  after_fault fault plan bytes run p = by (plan (bounded bytes))
    where
      by : Follows States (bounded bytes) first (stopped (Refused fault))
          → IsRunAfter States (first ++ fault_text fault) bytes run
      by (after_notes s) =
          after_as States (first ++ fault_text fault) first bytes run (stopped (Quiet status.Refused))
          (stopped (Refused fault)) _ p refl refl (append-nil (first ++ fault_text fault))
          (inr ((fault_text fault, refl), refl)) p.states.1 s
      by (in_reply empty s) =
          after_as States (first ++ fault_text fault) [] bytes run (stopped (Quiet status.Refused))
          (reported_after first (stopped (Refused fault))) _ p refl refl (append-nil (first ++ fault_text fault))
          (inr (IsPrefixOf-nil (first ++ fault_text fault), refl)) p.states.1 s

  -- the run of a window, after the messages that stand once
  pub front_is_after : (task rest : Result T Stop) (reported : List ℕ) → IsFrontOf first task reported rest
      → IsPlanned States first Does task → (bytes : List ℕ) (run : WindowRun)
      → IsPlannedRun (does_of Does rest) bytes run.out run.err run.code
      → IsRunAfter States reported bytes run
  front_is_after task rest reported (reported_once other is) = λ plan bytes run p.
      rw is (planned_is_after States first (does_of Does task) (plan_stated States first Does task plan) bytes run p)
  front_is_after task rest reported (refused_once fault refused is) = λ plan bytes run p.
      rw is (after_fault fault (rw refused at plan) bytes run p)
  front_is_after task rest reported (not_reported is) = λ plan bytes run p. stops_early is p

  stands_before : (reported : List ℕ) (input : Input) (reply : Reply) → Follows States input first reply
      → IsPrefixOf reported (first ++ reply.err)
      → (notes : List ℕ) × (stated : Reply) × States input notes stated × IsPrefixOf reported (notes ++ stated.err)
  stands_before reported input reply (after_notes s) b = (first, reply, s, b)
  stands_before reported input reply (in_reply empty s) b = ([], reported_after first reply, s, b)

  -- the messages that stand once are a prefix of those on each input
  pub front_stands_first : (task rest : Result T Stop) (reported : List ℕ) → IsFrontOf first task reported rest
      → IsPlanned States first Does task → StandsFirst States reported
  front_stands_first task rest reported (reported_once other is) plan = λ input.
      let some = plan_some States first Does task plan input in
      stands_before reported input some.0 (plan_stated States first Does task plan input some.0 some.1)
      (some.0.err, ap (λ (w : List ℕ). w ++ some.0.err) (sym is))
  front_stands_first task rest reported (refused_once fault refused is) plan = λ input.
      stands_before reported input (stopped (Refused fault)) ((rw refused at plan) input)
      (rw is (IsPrefixOf-same (first ++ fault_text fault)))
  front_stands_first task rest reported (not_reported is) plan = λ input.
      let some = plan_some States first Does task plan input in
      stands_before reported input some.0 (plan_stated States first Does task plan input some.0 some.1)
      (rw is (IsPrefixOf-nil (first ++ some.0.err)))
