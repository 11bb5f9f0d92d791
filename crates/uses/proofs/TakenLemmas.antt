-- What is stated of an input that its run takes whole.
-- Serves: is_all_taken, are_all_derived, are_both_taken
use Rattle.std.proofs.Common.{◌≡◌, ℕ, List, [], sym, ◌∙◌, arith}
use Rattle.std.specs.Prelude.{Result}
use Rattle.memoryrun.specs.MemoryRun.{IsMemoryRun}
use Rattle.memoryrun.specs.PlannedRun.{IsPlannedRun}
use Rattle.uses.specs.Taken.{IsTaken}
use Rattle.toolrun.specs.Delivery.{Delivers, Observed}
use Rattle.toolrun.specs.Input.{Input, bounded}
use Rattle.toolrun.specs.Plan.{Follows, IsPlanned, after_notes, does_of, in_reply, reported_after}
use Rattle.toolrun.specs.Reply.{Reply}
use Rattle.toolrun.specs.declared.stop.Stop.{Stop}
use Rattle.toolrun.proofs.DeliversLemmas.{delivers_whole}
use Rattle.toolrun.proofs.IsRightLemmas.{plan_stated}

-- a run of status 0 states that status
done_stated : (notes : List ℕ) (stated : Reply) (run : Observed) → Delivers notes stated run → run.status ≡ 0
    → stated.status ≡ 0
done_stated notes stated run d zero =
    let all = delivers_whole notes stated run d (omega (arith, zero)) in sym all.2 ∙ zero

pub memory_is_taken : (States : Input → List ℕ → Reply → Type 0) (input out err : List ℕ) (code : ℕ)
    → IsMemoryRun States input out err code → code ≡ 0 → IsTaken States input
memory_is_taken States input out err code run zero = record {
  notes = run.notes;
  stated = run.stated;
  states = run.states;
  done = done_stated run.notes run.stated _ run.delivers zero;
}

pub planned_is_taken : {T : Type 0} (States : Input → List ℕ → Reply → Type 0) (first : List ℕ)
    (Does : T → Input → Reply → Type 0) (task : Result T Stop) (input out err : List ℕ) (code : ℕ)
    → IsPlanned States first Does task → IsPlannedRun (does_of Does task) input out err code
    → code ≡ 0 → IsTaken States input
planned_is_taken States first Does task input out err code plan run zero =
    by (plan_stated States first Does task plan (bounded input) run.stated run.states.1)
  where
    is_done : run.stated.status ≡ 0
    is_done = done_stated run.notes run.stated _ run.delivers zero

    by : Follows States (bounded input) first run.stated → IsTaken States input
    by (after_notes s) = record { notes = first; stated = run.stated; states = s; done = is_done }
    by (in_reply none s) = record { notes = []; stated = reported_after first run.stated; states = s; done = is_done }
