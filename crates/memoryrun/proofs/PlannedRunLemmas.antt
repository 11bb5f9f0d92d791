-- A task and the end of its run give what the plan states.
-- Serves: run_plan, run_plan_into, run_opened, run_opened_into
use Rattle.std.proofs.Common.{◌≡◌, ℕ, Bool, true, false, Option, Some, List, [], refl}
use Rattle.std.specs.Prelude.{Result}
use Rattle.std.specs.Io.KnownBytes.{Appends, Keeps}
use Rattle.memoryrun.proofs.MemoryRunLemmas.{run_held, run_of_sinks}
use Rattle.memoryrun.specs.PlannedRun.{IsPlannedRun, WithoutNotes}
use Rattle.ruletable.specs.declared.sink.WriteFault.{WriteFault}
use Rattle.ruletable.proofs.AppendsLemmas.{Appends-same}
use Rattle.toolrun.proofs.IsRightLemmas.{run_is_right}
use Rattle.toolrun.specs.Finish.{Concludes}
use Rattle.toolrun.specs.Input.{Input}
use Rattle.toolrun.specs.Plan.{after_notes}
use Rattle.toolrun.specs.Reply.{Reply}
use Rattle.toolrun.specs.Stopped.{Fulfils}
use Rattle.toolrun.specs.declared.ending.Ending.{Ending}

-- a reader over the input before; what both writers took
pub plan_of_sinks : (Does : Input → Reply → Type 0) (input : List ℕ) (r0 r1 o0 o1 o2 e0 e1 : Option (List ℕ))
    (fresh was out_failed err_failed : Bool) (end : Result Ending WriteFault) (code : ℕ) → r0 ≡ Some input
    → fresh ≡ false → Fulfils Does (record { old = r0; new = r1; was = false; failed = false })
    (record { old = o0; new = o1; was = fresh; failed = was }) end →
    Keeps o1 o2 → (was ≡ true → out_failed ≡ true) →
    ((reported : List ℕ) × Appends e0 e1 reported × Concludes end out_failed err_failed reported code)
    → (printed : List ℕ) × (reported : List ℕ) × IsPlannedRun Does input printed reported code × Appends o0 o2 printed
    × Appends e0 e1 reported
plan_of_sinks Does input r0 r1 o0 o1 o2 e0 e1 fresh was out_failed err_failed end code r is_fresh p kept stays f =
    run_of_sinks (WithoutNotes Does) r0 r1 o0 o2 e0 e1 input out_failed err_failed code r
    (run_is_right (WithoutNotes Does) [] Does (λ given reply does. after_notes (refl, does))
    (record { old = r0; new = r1; was = false; failed = false })
    (record { old = o0; new = o1; was = fresh; failed = was })
    (record { old = o0; new = o2; was = fresh; failed = out_failed })
    (record { old = e0; new = e1; was = false; failed = err_failed }) e0 end code p is_fresh refl (Appends-same e0)
    kept stays f)

-- a reader over the input and empty writers before; the same after the task, and after the end
pub planned_run : (Does : Input → Reply → Type 0) (input : List ℕ) (r0 r1 o0 o1 o2 e0 e1 : Option (List ℕ))
    (out err : List ℕ) (fresh was out_failed err_failed : Bool) (end : Result Ending WriteFault) (code : ℕ) →
    r0 ≡ Some input → o0 ≡ Some [] → e0 ≡ Some [] → fresh ≡ false → Some out ≡ o2 → Some err ≡ e1 →
    Fulfils Does (record { old = r0; new = r1; was = false; failed = false })
    (record { old = o0; new = o1; was = fresh; failed = was }) end →
    Keeps o1 o2 → (was ≡ true → out_failed ≡ true) →
    ((reported : List ℕ) × Appends e0 e1 reported × Concludes end out_failed err_failed reported code)
    → IsPlannedRun Does input out err code
planned_run Does input r0 r1 o0 o1 o2 e0 e1 out err fresh was out_failed err_failed end code r o e is_fresh printed
    reported p kept stays f =
    run_held (WithoutNotes Does) o0 o2 e0 e1 input out err code o e printed reported
    (plan_of_sinks Does input r0 r1 o0 o1 o2 e0 e1 fresh was out_failed err_failed end code r is_fresh p kept stays f)
