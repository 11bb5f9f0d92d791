use Rattle.std.proofs.Common.{ℕ, take, Contains}
use Rattle.fixpoint.specs.NumberMarks.{IsMarked}
use Rattle.fixpoint.proofs.marks.some_marked.Given as goal

abbrev pub invariant-loop-m : goal.invariant-loop-m
invariant-loop-m l = (k : ℕ) → Contains (take l.m-index l.these) k → IsMarked l.marks k → ⊥
