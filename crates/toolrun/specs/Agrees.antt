-- The inputs of which so much has been seen.
use Rattle.std.specs.Prelude.{◌≡◌, ℕ, ◌++◌, true, false, List, []}
use Rattle.feed.specs.declared.held.Flow.{Flow}
use Rattle.feed.specs.declared.held.Flow.TheVariants.{Ended, Broken}
use Rattle.toolrun.specs.Input.{Input}

-- The input begins with these bytes; where its reader ended or broke it is these bytes.
pub record Agrees (seen : List ℕ) (flow : Flow) (input : Input) : Type 0 where
  pub more : List ℕ
  pub bytes : input.bytes ≡ seen ++ more
  pub ended : flow ≡ Ended → (more ≡ []) × (input.fault ≡ false)
  pub broken : flow ≡ Broken → (more ≡ []) × (input.fault ≡ true)
