-- The messages that stand once for all windows of an input, and what is left to do on each window.
use Rattle.std.specs.Prelude.{◌≡◌, ◌≢◌, ℕ, List, [], ◌++◌, Result, Err}
use Rattle.ruletable.specs.Faults.{fault_text}
use Rattle.ruletable.specs.Writing.{IsPrefixOf}
use Rattle.ruletable.specs.declared.fault.ReadFault.{ReadFault}
use Rattle.toolrun.specs.Input.{Input}
use Rattle.toolrun.specs.Reply.{Reply}
use Rattle.toolrun.specs.declared.status.Status.TheVariants as status
use Rattle.toolrun.specs.declared.stop.Stop.{Stop}
use Rattle.toolrun.specs.declared.stop.Stop.TheVariants.{NoMemory, Quiet, Refused}

-- The messages of a plan that depend on no window stand once, with the fault of the text that stops a run; or an
-- allocation failed, and there are none. It serves private helpers alone.
pub data IsFrontOf {T : Type 0} (first : List ℕ) (task : Result T Stop) (reported : List ℕ) : Result T Stop
    → Type 0 where
  reported_once : ((fault : ReadFault) → task ≢ Err (Refused fault)) → reported ≡ first
      → IsFrontOf first task reported task
  refused_once : (fault : ReadFault) → task ≡ Err (Refused fault) → reported ≡ first ++ fault_text fault
      → IsFrontOf first task reported (Err (Quiet status.Refused))
  not_reported : reported ≡ [] → IsFrontOf first task reported (Err NoMemory)

-- The text is a prefix of the messages on each input.
abbrev pub StandsFirst : (Input → List ℕ → Reply → Type 0) → List ℕ → Type 0
StandsFirst States first = (input : Input) → (notes : List ℕ) × (stated : Reply) × States input notes stated
    × IsPrefixOf first (notes ++ stated.err)
