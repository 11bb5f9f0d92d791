-- A run that is right, over memory.
-- Serves: peg_in_memory, abnf_in_memory, peg_into_buffers, abnf_into_buffers
use Rattle.std.proofs.Common.{◌≡◌, ℕ, Bool, false, Option, Some, List, [], refl, sym}
use Rattle.std.specs.Prelude.{IfSome}
use Rattle.std.specs.Io.KnownBytes.{Appends, Consumes}
use Rattle.memoryrun.specs.MemoryRun.{IsMemoryRun}
use Rattle.toolrun.specs.Input.{Input}
use Rattle.toolrun.specs.Reply.{Reply}
use Rattle.toolrun.specs.Right.{IsRight}

module _ (States : Input → List ℕ → Reply → Type 0) where
  right_in_memory : (input taken out err : List ℕ) (out_failed err_failed : Bool) (code : ℕ) →
      IsRight States input (record {
        taken = taken;
        read_failed = false;
        out = out;
        out_failed = out_failed;
        err = err;
        err_failed = err_failed;
        status = code;
      }) → IsMemoryRun States input out err code
  right_in_memory input taken out err out_failed err_failed code r = record {
    notes = r.notes;
    stated = r.stated;
    states = r.states;
    out_failed = out_failed;
    err_failed = err_failed;
    delivers = let d = r.delivers in record {
      part = d.part;
      out = d.out;
      silent = d.silent;
      unread = λ isnt. refl;
      reported = d.reported;
      broken = d.broken;
      unflushed = d.unflushed;
      status = d.status;
      cut = d.cut;
      unnoted = d.unnoted;
    };
  }

  -- a reader over the input before; what both writers took
  pub run_of_sinks : (r0 r1 o0 o1 e0 e1 : Option (List ℕ)) (input : List ℕ) (out_failed err_failed : Bool) (code : ℕ)
      → r0 ≡ Some input → IfSome r0 (λ given. (taken wrote reported : List ℕ) × Consumes r0 r1 taken
      × Appends o0 o1 wrote × Appends e0 e1 reported × IsRight States given (record {
        taken = taken;
        read_failed = false;
        out = wrote;
        out_failed = out_failed;
        err = reported;
        err_failed = err_failed;
        status = code;
      })) → (printed : List ℕ) × (reported : List ℕ) × IsMemoryRun States input printed reported code
      × Appends o0 o1 printed × Appends e0 e1 reported
  run_of_sinks r0 r1 o0 o1 e0 e1 input out_failed err_failed code r p =
      let w = rw r at p in
      (w.1, w.2, right_in_memory input w.0 w.1 w.2 out_failed err_failed code w.6, w.4, w.5)

  -- what writers took that were empty before and hold these texts after the run
  pub run_held : (o0 o1 e0 e1 : Option (List ℕ)) (input out err : List ℕ) (code : ℕ) → o0 ≡ Some [] → e0 ≡ Some []
      → Some out ≡ o1 → Some err ≡ e1 → (printed : List ℕ) × (reported : List ℕ)
      × IsMemoryRun States input printed reported code × Appends o0 o1 printed × Appends e0 e1 reported
      → IsMemoryRun States input out err code
  run_held o0 o1 e0 e1 input out err code o e printed reported w =
      let held = rw (sym reported) at (rw (sym printed) at (rw e at (rw o at w))) in rw (held.3, held.4) held.2

  -- a reader over the input and empty writers before; the same after the run
  pub memory_run : (r0 r1 o0 o1 e0 e1 : Option (List ℕ)) (input out err : List ℕ) (out_failed err_failed : Bool)
      (code : ℕ) → r0 ≡ Some input → o0 ≡ Some [] → e0 ≡ Some [] → Some out ≡ o1 → Some err ≡ e1 →
      IfSome r0 (λ given. (taken wrote reported : List ℕ) × Consumes r0 r1 taken × Appends o0 o1 wrote
      × Appends e0 e1 reported × IsRight States given (record {
        taken = taken;
        read_failed = false;
        out = wrote;
        out_failed = out_failed;
        err = reported;
        err_failed = err_failed;
        status = code;
      })) → IsMemoryRun States input out err code
  memory_run r0 r1 o0 o1 e0 e1 input out err out_failed err_failed code r o e printed reported p =
      run_held o0 o1 e0 e1 input out err code o e printed reported
      (run_of_sinks r0 r1 o0 o1 e0 e1 input out_failed err_failed code r p)
