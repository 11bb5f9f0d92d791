use Rattle.std.proofs.Common.{◌≡◌, map, take}
use Rattle.diagnostics.specs.DefinitionHeads.{defined_at}
use Rattle.diagnostics.specs.NoteLines.{not_adding}
use Rattle.diagnostics.proofs.noteplaces.lines.not_adding_heads.Given as goal

abbrev pub invariant-loop-head : goal.invariant-loop-head
invariant-loop-head l = map (λ h. defined_at h.now) l.found.items
    ≡ not_adding (map (λ h. defined_at h.now) (take l.head-index l.heads))
