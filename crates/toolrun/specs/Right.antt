-- When a run was right.
use Rattle.std.specs.Prelude.{◌≡◌, ◌≢◌, ℕ, ◌≤◌, false, List, length, IfSome}
use Rattle.std.specs.Io.KnownBytes.{Appends, Consumes}
use Rattle.toolrun.specs.Delivery.{Observed, Delivers}
use Rattle.toolrun.specs.Input.{Input, input_from}
use Rattle.toolrun.specs.Reply.{Reply}
use Rattle.toolrun.specs.Stream.{Stream}

-- The run was right: both outputs and the status are what is stated, and the bytes taken are the input's, or a
-- prefix where a writer failed or an allocation failed.
pub record IsRight (States : Input → List ℕ → Reply → Type 0) (given : List ℕ) (run : Observed) : Type 0 where
  pub notes : List ℕ
  pub stated : Reply
  pub states : States (input_from given run.taken run.read_failed) notes stated
  pub delivers : Delivers notes stated run
  pub within : length run.taken ≤ stated.taken
  pub exact : run.out_failed ≡ false → run.err_failed ≡ false → run.status ≢ 5 → length run.taken ≡ stated.taken

-- where the reader states its bytes, the run was right
abbrev pub RunIsRight : (Input → List ℕ → Reply → Type 0) → Stream → Stream → Stream → ℕ → Type 0
RunIsRight States reader out err code =
    IfSome reader.old (λ given. (taken wrote reported : List ℕ) × Consumes reader.old reader.new taken
    × Appends out.old out.new wrote × Appends err.old err.new reported ×
    IsRight States given (record {
      taken = taken;
      read_failed = reader.failed;
      out = wrote;
      out_failed = out.failed;
      err = reported;
      err_failed = err.failed;
      status = code;
    }))
