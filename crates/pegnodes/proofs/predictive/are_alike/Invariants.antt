use Rattle.std.proofs.Common.{◌≡◌, ℕ, suc, ◌<◌, List, Option, Some}
use Rattle.std.specs.Prelude.{slice_get}
use Rattle.pegnodes.specs.Nodes.{Shape, shapes_of}
use Rattle.pegnodes.specs.Predictive.{of_shape}
use Rattle.pegnodes.specs.declared.by_byte.ByteVerdict.{ByteVerdict}
use Rattle.pegnodes.proofs.predictive.are_alike.Given as goal

abbrev pub invariant-loop-n : goal.invariant-loop-n
invariant-loop-n l = (n : ℕ) → n < l.n → (k : ℕ) → l.byte ≡ suc k → (bodies : List ℕ) (of : ℕ → Option ByteVerdict)
    (shape : Shape) → slice_get (shapes_of l.nodes) n ≡ Some shape
    → of_shape bodies l.byte of shape ≡ of_shape bodies k of shape
