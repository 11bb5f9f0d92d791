use Rattle.memo.specs.declared.task.MatchTask.TheVariants.{Eval}
use Rattle.packrat.proofs.RunIterationsLemmas.{not_beyond}
use Rattle.packrat.proofs.machine.stored_node.Goals as goal

pub returns-then-is_new-clause-none : goal.returns-then-is_new-clause-none
returns-then-is_new-clause-none c = λ key.
    not_beyond c.args.log.now.stored (Eval c.args.node c.args.position) (c.is_new.ensures c.if-is_new.true)
