-- None of the names so far is near.
use Rattle.std.proofs.Common.{take}
use Rattle.ruletable.specs.Rules.{names_of}
use Rattle.diagnostics.proofs.NearNamesLemmas.{NoneNear}
use Rattle.diagnostics.proofs.near.meant_rule.Given as goal

abbrev pub invariant-loop-id : goal.invariant-loop-id
invariant-loop-id g l = NoneNear l.name (take l.count (names_of l.rules)) l.id
