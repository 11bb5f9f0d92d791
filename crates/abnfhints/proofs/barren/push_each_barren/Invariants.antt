-- What is reported of the rules so far.
use Rattle.std.proofs.Common.{◌≡◌, ◌++◌, map, take}
use Rattle.std.specs.List.{flat_map}
use Rattle.abnfhints.specs.AbnfHints.{barren_reported}
use Rattle.diagnostics.specs.DefinitionHeads.{defined_at}
use Rattle.abnfhints.proofs.barren.push_each_barren.Given as goal

abbrev pub invariant-loop-name : goal.invariant-loop-name
invariant-loop-name l = l.out.items ≡ l.fn.out.items ++ flat_map
    (barren_reported (map defined_at l.positions.heads.items))
    (map (λ name. name.now) (take l.name-index l.names))
