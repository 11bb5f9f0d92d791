use Rattle.std.proofs.Common.{List, ℕ, length}
use Rattle.abnfread.specs.ByteClasses.{test_of}
use Rattle.abnfread.specs.AbnfSlices.{Run}
use Rattle.abnfread.proofs.scan.after_run.Given as goal

-- whatever ends the rest ends the whole
abbrev pub invariant-loop-first : goal.invariant-loop-first
invariant-loop-first l = (r : List ℕ) → Run (test_of l.class) l.rest r → Run (test_of l.class) l.text r

abbrev pub decreases-loop-first : goal.decreases-loop-first
decreases-loop-first l = length l.rest
