use Rattle.std.proofs.Common.{arith}
use Rattle.ruletable.specs.Letters.{has}
use Rattle.lowering.proofs.PruneRulesLemmas.{next_pruned, all_pruned}
use Rattle.lowering.proofs.pruned.prune_rules.Goals as goal

pub loop-id-preserved : goal.loop-id-preserved
loop-id-preserved c =
    next_pruned (has c.args.alphabet) c.args.rules.now _ _ _ _ _ _ c.len-id-end.ensures.unique c.requires.folds
    c.loop-id.invariant c.name.ensures c.body.ensures c.span.ensures c.in_ok-body.ensures c.in_ok-define.ensures.defines

pub returns-clause-pruned : goal.returns-clause-pruned
returns-clause-pruned c = all_pruned (has c.args.alphabet) c.args.rules.now _ _ c.loop-id.invariant
    (let le = c.loop-id.auto.id-end in let n = c.len-id-end.ensures.len in let over = c.loop-id-test.false in
    omega (arith, le, n, over))
