-- What flushing an output does to the error output.
use Rattle.std.specs.Prelude.{◌≡◌, ℕ, Bool, true, false, List, []}
use Rattle.ruletable.specs.Writing.{IsPrefixOf}
use Rattle.toolrun.specs.Stop.{write_error}

-- a flush that fails is reported on the error output, and nothing else is
pub record Flushes (out_was out_now err_was err_now : Bool) (more : List ℕ) : Type 0 where
  pub quiet : out_now ≡ out_was → more ≡ []
  pub silent : err_was ≡ true → more ≡ []
  pub part : IsPrefixOf more write_error
  pub whole : out_was ≡ false → out_now ≡ true → err_now ≡ false → more ≡ write_error
  pub out_stays : out_was ≡ true → out_now ≡ true
  pub err_stays : err_was ≡ true → err_now ≡ true
