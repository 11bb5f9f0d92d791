use Rattle.std.proofs.Common.{◌≡◌, ◌++◌, take}
use Rattle.std.specs.List.{flat_map}
use Rattle.diagnostics.specs.FirstBytes.{fact_line}
use Rattle.ruletable.specs.Rules.{names_of}
use Rattle.refusedlines.proofs.part_lines.push_first.Given as goal

abbrev pub invariant-loop-id : goal.invariant-loop-id
invariant-loop-id l = l.out.items ≡ l.fn.out.items ++ flat_map fact_line (take l.id (names_of l.parts))
