use Rattle.ruletable.specs.Letters.{has}
use Rattle.lowering.proofs.PruneRulesLemmas.{IsPruning}
use Rattle.lowering.proofs.pruned.prune_rules.Given as goal

abbrev pub invariant-loop-id : goal.invariant-loop-id
invariant-loop-id l = IsPruning (has l.alphabet) l.rules l.left l.id
