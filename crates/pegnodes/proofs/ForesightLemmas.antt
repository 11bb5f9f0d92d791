-- What one byte decides of each node.
-- Serves: verdicts
use Rattle.std.proofs.Common.{◌⊎◌, inl, inr, zero, suc}
use Rattle.std.proofs.Common.{◌≡◌, ℕ, ◌<◌, ◌≤◌, List, Option, Some, None, get_or, sym}
use Rattle.std.proofs.Common.{◌+◌, ◌++◌, take, below_more, length, subst, arith}
use Rattle.std.specs.Prelude.{slice_get}
use Rattle.std.proofs.Math.Seq.{take-append_seam}
use Rattle.std.proofs.lemmas.Option.{slice_get_within}
use Rattle.pegnodes.specs.Nodes.{Shape, shapes_of}
use Rattle.pegnodes.specs.Predictive.{of_shape, AreVerdicts}
use Rattle.pegnodes.specs.declared.by_byte.ByteVerdict.{ByteVerdict}
use Rattle.pegnodes.proofs.HasShapeLemmas.{length-shapes}
use Rattle.pegnodes.specs.declared.node.Node.{Node}

pub below_or_from : (k n : ℕ) → (n < k) ⊎ (k ≤ n)
below_or_from zero n = inr (omega arith)
below_or_from (suc k) zero = inl (omega arith)
below_or_from (suc k) (suc n) = elim (below_or_from k n) [
  | inl lt ↦ inl (omega (arith, lt))
  | inr le ↦ inr (omega (arith, le))
]

-- the row decides the nodes before n
abbrev pub DecidedTo : List Shape → List ℕ → ℕ → List (Option ByteVerdict) → ℕ → Type 0
DecidedTo nodes bodies c row n = (k : ℕ) → k < n → (shape : Shape) → slice_get nodes k ≡ Some shape
    → get_or row k None ≡ of_shape bodies c (λ m. get_or row m None) shape

pub decided_more : (nodes : List Shape) (bodies : List ℕ) (c n : ℕ) (row next : List (Option ByteVerdict))
    (shape : Shape) → next ≡ row → slice_get nodes n ≡ Some shape
    → get_or row n None ≡ of_shape bodies c (λ m. get_or row m None) shape → DecidedTo nodes bodies c row n
    → DecidedTo nodes bodies c next (n + 1)
decided_more nodes bodies c n row next shape kept at here before =
    subst (λ r. DecidedTo nodes bodies c r (n + 1)) (sym kept)
    (below_more (λ k. (other : Shape) → slice_get nodes k ≡ Some other
    → get_or row k None ≡ of_shape bodies c (λ m. get_or row m None) other) n before
    (λ other there. let same : shape ≡ other = cc (at, there) in
    subst (λ s. get_or row n None ≡ of_shape bodies c (λ m. get_or row m None) s) same here))

-- a row that decides all nodes holds their verdicts
pub decided_all : (nodes : List Node) (bodies : List ℕ) (c n : ℕ) (row : List (Option ByteVerdict)) → length nodes ≤ n
    → DecidedTo (shapes_of nodes) bodies c row n
    → AreVerdicts (shapes_of nodes) bodies c (λ m. get_or row m None)
decided_all nodes bodies c n row long done k shape at =
    let low = slice_get_within (shapes_of nodes) k shape at in
    let count = length-shapes nodes in
    done k (omega (arith, low, count, long)) shape at

-- a row before a rest is what stands at the front
pub row_written : (count : ℕ) (new rest : List (Option ByteVerdict)) → length new ≡ count
    → take count (new ++ rest) ≡ new
row_written count new rest is = subst (λ n. take n (new ++ rest) ≡ new) is (take-append_seam new rest)
