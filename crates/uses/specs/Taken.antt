-- Inputs that runs take whole.
use Rattle.std.specs.Prelude.{◌≡◌, ℕ, List}
use Rattle.toolrun.specs.Input.{Input, bounded}
use Rattle.toolrun.specs.Reply.{Reply}

-- what is stated for the input has status 0
pub record IsTaken (States : Input → List ℕ → Reply → Type 0) (input : List ℕ) : Type 0 where
  pub notes : List ℕ
  pub stated : Reply
  pub states : States (bounded input) notes stated
  pub done : stated.status ≡ 0
