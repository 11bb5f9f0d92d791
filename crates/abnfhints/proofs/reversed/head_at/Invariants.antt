-- No head so far.
use Rattle.std.proofs.Common.{◌≡◌, map, drop}
use Rattle.std.specs.Prelude.{◌==◌}
use Rattle.std.specs.List.{find}
use Rattle.diagnostics.specs.DefinitionHeads.{defined_at}
use Rattle.abnfhints.proofs.reversed.head_at.Given as goal

abbrev pub invariant-loop-head : goal.invariant-loop-head
invariant-loop-head l = find (λ d. d.start == l.position) (map defined_at (drop l.head-index l.heads))
    ≡ find (λ d. d.start == l.position) (map defined_at l.heads)
