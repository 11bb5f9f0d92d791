use Rattle.pegnodes.specs.ChoiceTables.{fail_none}
use Rattle.pegnodes.proofs.ChoiceTablesLemmas.{fails_next}
use Rattle.pegnodes.proofs.choice_table.skip_by.Goals as goal

pub loop-i-init : goal.loop-i-init
loop-i-init c = λ n at. fail_none

pub loop-i-preserved : goal.loop-i-preserved
loop-i-preserved c = λ n at.
    fails_next c.args.grammar.now c.args.b n c.args.alternatives.now c.loop-i.i c.loop-i.evals c.in-Some.sum
    c.in-Some.ensures.0 c.loop-i-test.true at c.in-Some.ensures.1 c.in-Some.ensures.2 (c.loop-i.invariant n at)
