-- What a run states, and how much of it reaches writers that may fail.
use Rattle.std.specs.Prelude.{◌≡◌, ◌≢◌, ℕ, max, Bool, true, false, ◌||◌, if◌then◌else◌, List, [], ◌++◌, ◌⊎◌}
use Rattle.ruletable.specs.Writing.{IsPrefixOf}
use Rattle.toolrun.specs.Plan.{stopped}
use Rattle.toolrun.specs.Reply.{Reply}
use Rattle.toolrun.specs.Status.{code_of}
use Rattle.toolrun.specs.Stop.{write_error}
use Rattle.toolrun.specs.declared.status.Status.TheVariants.{Fault}
use Rattle.toolrun.specs.declared.stop.Stop.{Stop}

-- what a run took from its reader and gave to its writers, which of them failed, and its status
pub record Observed : Type 0 where
  pub taken : List ℕ
  pub read_failed : Bool
  pub out : List ℕ
  pub out_failed : Bool
  pub err : List ℕ
  pub err_failed : Bool
  pub status : ℕ

-- all of the text was reported, or a prefix of it where the error output failed
abbrev pub IsReported : Bool → List ℕ → List ℕ → Type 0
IsReported err_failed err text = IsPrefixOf err text × (err_failed ≡ false → err ≡ text)

-- the greatest status met: the stated one, or that of a fault where a writer failed and that is greater
abbrev pub greatest_met : ℕ → Bool → Bool → ℕ
greatest_met stated out_failed err_failed = if out_failed || err_failed then max stated (code_of Fault) else stated

-- What the end of a run writes on the error output: a text, and after it `write error` where the output failed. The
-- status is the greatest one met.
pub record Reports (text : List ℕ) (stated : ℕ) (out_failed err_failed : Bool) (err : List ℕ) (code : ℕ) : Type 0 where
  pub reported : out_failed ≡ false → IsReported err_failed err text
  pub fault : out_failed ≡ true → IsReported err_failed err (text ++ write_error)
  pub status : code ≡ greatest_met stated out_failed err_failed

-- Both outputs hold what is stated, but for what a writer that failed did not take. Nothing is written on the output
-- and nothing is taken before all notes are written. Where the output failed before it held all, `write error` stands
-- right after the notes; where its flush failed, after all that is written on the error output.
pub record Delivers (notes : List ℕ) (stated : Reply) (run : Observed) : Type 0 where
  pub part : IsPrefixOf run.out stated.out
  pub out : run.out_failed ≡ false → IsPrefixOf notes run.err → run.out ≡ stated.out
  pub silent : ¬ IsPrefixOf notes run.err → run.out ≡ []
  pub unread : ¬ IsPrefixOf notes run.err → run.taken ≡ []
  pub reported : run.out_failed ≡ false → IsReported run.err_failed run.err (notes ++ stated.err)
  pub broken : run.out_failed ≡ true → run.out ≢ stated.out → IsReported run.err_failed run.err (notes ++ write_error)
  pub unflushed : run.out_failed ≡ true → run.out ≡ stated.out →
      IsReported run.err_failed run.err (notes ++ stated.err ++ write_error)
  -- where all notes and all of the output are written, the status is the greatest one met
  pub status : IsPrefixOf notes run.err → run.out ≡ stated.out
      → run.status ≡ greatest_met stated.status run.out_failed run.err_failed
  -- where the output failed before it held all, the run ends there
  pub cut : run.out ≢ stated.out → run.status ≡ code_of Fault
  -- where the error output failed in the notes, the run ends there; one that stops after them has met its status before
  pub unnoted : ¬ IsPrefixOf notes run.err → (run.status ≡ code_of Fault)
      ⊎ ((stop : Stop) × (stated ≡ stopped stop) × (run.status ≡ max stated.status (code_of Fault)))
