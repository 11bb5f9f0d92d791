-- What a run over memory gives whose grammar was read and checked before.
use Rattle.std.specs.Prelude.{◌≡◌, ℕ, List, []}
use Rattle.memoryrun.specs.MemoryRun.{IsMemoryRun}
use Rattle.toolrun.specs.Input.{Input}
use Rattle.toolrun.specs.Reply.{Reply}

-- what a plan states, without its notes
abbrev pub WithoutNotes : (Input → Reply → Type 0) → Input → List ℕ → Reply → Type 0
WithoutNotes Does input notes reply = (notes ≡ []) × Does input reply

-- the run gives what the plan states after its notes
abbrev pub IsPlannedRun : (Input → Reply → Type 0) → List ℕ → List ℕ → List ℕ → ℕ → Type 0
IsPlannedRun Does input out err code = IsMemoryRun (WithoutNotes Does) input out err code
