-- What the plan states of each input.
use Rattle.pegrun.specs.Answers.{States}
use Rattle.toolrun.specs.Plan.{first_text}
use Rattle.uses.proofs.TakenLemmas.{planned_is_taken}
use Rattle.uses.proofs.run_caller.are_both_taken.Goals as goal

pub returns-clause-first : goal.returns-clause-first
returns-clause-first c = λ is.
    planned_is_taken (States c.args.grammar.now c.args.settings.now) (first_text c.plan_of-plan.result.first) _
    c.plan_of-plan.result.task c.args.first.now _ _ _ c.plan_of-plan.ensures c.run_plan.ensures
    (c.is_done-one.ensures is)

pub returns-clause-second : goal.returns-clause-second
returns-clause-second c = λ is.
    planned_is_taken (States c.args.grammar.now c.args.settings.now) (first_text c.plan_of-plan.result.first) _
    c.plan_of-plan.result.task c.args.second.now _ _ _ c.plan_of-plan.ensures c.run_plan-2.ensures
    (c.is_done-other.ensures is)
