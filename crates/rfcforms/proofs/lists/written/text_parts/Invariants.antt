use Rattle.std.proofs.Common.{List, ℕ, ◌++◌, length, map}
use Rattle.rfcforms.specs.Lists.{CutsLines}
use Rattle.rfcforms.proofs.lists.written.text_parts.Given as goal

-- the lines to come complete those of the text
abbrev pub invariant-loop-rest : goal.invariant-loop-rest
invariant-loop-rest l = (more : List (List ℕ)) → CutsLines l.rest more
    → CutsLines l.text (map (λ p. p.now) l.parts.items ++ more)

abbrev pub decreases-loop-rest : goal.decreases-loop-rest
decreases-loop-rest l = length l.rest
