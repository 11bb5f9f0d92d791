use Rattle.std.proofs.Common.{ℕ, List, vec_len}
use Rattle.lazydfa.specs.Memos.{IsMemo, RunsOver}
use Rattle.lazydfa.proofs.run.settle.Given as goal

abbrev pub invariant-suffixes : goal.invariant-suffixes
invariant-suffixes l = IsMemo l.tables l.samples l.memo
    × ((x : List ℕ) (j : ℕ) → RunsOver l.tables l.initial.memo l.fn.state x j → RunsOver l.tables l.memo l.now x j)

abbrev pub decreases-suffixes : goal.decreases-suffixes
decreases-suffixes l = vec_len l.memo.suffixes
