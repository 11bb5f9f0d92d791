use Rattle.std.proofs.Common.{◌≡◌, length}
use Rattle.diagnostics.specs.UseForms.{are_pairs}
use Rattle.diagnostics.proofs.noteplaces.forms.are_pairs.Given as goal

abbrev pub invariant-loop-rest : goal.invariant-loop-rest
invariant-loop-rest l = are_pairs l.rest ≡ are_pairs l.name

abbrev pub decreases-loop-rest : goal.decreases-loop-rest
decreases-loop-rest l = length l.rest
