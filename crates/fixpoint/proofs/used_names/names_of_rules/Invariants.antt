-- The names of the rules so far.
use Rattle.std.proofs.Common.{◌≡◌, take}
use Rattle.ruletable.specs.Rules.{names_of}
use Rattle.fixpoint.proofs.used_names.names_of_rules.Given as goal

abbrev pub invariant-loop-id : goal.invariant-loop-id
invariant-loop-id g l = record {
  compares : l.names.names ≡ l.fn.case;
  names : names_of l.names ≡ take l.id (names_of l.rules);
}
