use Rattle.std.proofs.Common.{◌≡◌, ℕ, Some, slice_get}
use Rattle.pegnodes.specs.ChoiceTables.{FailFirst}
use Rattle.pegnodes.specs.Decides.{mark_in, tail_in}
use Rattle.pegnodes.specs.Nodes.{Choice, shapes_of}
use Rattle.pegnodes.proofs.choice_table.skip_by.Given as goal

-- of the alternatives so far
abbrev pub invariant-loop-i : goal.invariant-loop-i
invariant-loop-i l = (n : ℕ) → slice_get (shapes_of l.grammar.nodes.now) n ≡ Some (Choice l.alternatives)
    → FailFirst (shapes_of l.grammar.nodes.now) l.grammar.bodies.now (mark_in l.grammar) (tail_in l.grammar) l.b n
    l.alternatives l.i l.evals
