use Rattle.std.proofs.Common.{◌≡◌, ◌++◌, take}
use Rattle.std.specs.List.{flat_map}
use Rattle.diagnostics.specs.DefinitionHeads.{defined_at}
use Rattle.diagnostics.specs.NoteLines.{name_line}
use Rattle.diagnostics.proofs.noteplaces.lines.push_name_lines.Given as goal

abbrev pub invariant-loop-head : goal.invariant-loop-head
invariant-loop-head l = l.out.items ≡ l.fn.out.items
    ++ flat_map (λ h. name_line l.reported (defined_at h.now)) (take l.head-index l.heads)
