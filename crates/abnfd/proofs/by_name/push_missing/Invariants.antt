-- The names so far.
use Rattle.std.proofs.Common.{◌≡◌, ◌++◌, take}
use Rattle.abnfd.specs.RulesByName.{missing_in, names_text}
use Rattle.ruletable.specs.Rules.{names_of}
use Rattle.abnfd.proofs.by_name.push_missing.Given as goal

abbrev pub invariant-loop-id : goal.invariant-loop-id
invariant-loop-id l =
    l.out.items ≡ l.fn.out.items ++ names_text l.mark (missing_in (names_of l.others) (take l.id (names_of l.names)))
