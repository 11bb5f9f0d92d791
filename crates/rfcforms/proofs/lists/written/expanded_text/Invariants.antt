use Rattle.std.proofs.Common.{List, ℕ, ◌++◌, length}
use Rattle.rfcforms.specs.Lists.{Expands}
use Rattle.rfcforms.proofs.lists.written.expanded_text.Given as goal

-- what is written for the rest completes what is written for the text
abbrev pub invariant-loop-rest : goal.invariant-loop-rest
invariant-loop-rest l = (more : List ℕ) → Expands l.form l.rest more → Expands l.form l.text (l.new.items ++ more)

abbrev pub decreases-loop-rest : goal.decreases-loop-rest
decreases-loop-rest l = length l.rest
