use Rattle.std.proofs.Common.{◌∙◌, false, get_or, Some, ap}
use Rattle.pegmatch.proofs.NodeShapeLemmas.{shape_at}
use Rattle.matchfailure.proofs.tasks.runs.run_at.Goals as goal

pub returns-in-Set : goal.returns-in-Set
returns-in-Set c = record {
  task = c.in-Eval.is;
  star_at = shape_at c.args.peg.now.nodes c.in-Eval.node _ (c.node.ensures ∙ ap Some c.in-Star.is);
  members = λ b. get_or c.in-Set.set b false;
  set_at = shape_at c.args.peg.now.nodes c.in-Star.operand _ (c.node-in-Star.ensures ∙ ap Some c.in-Set.is);
  low = c.end_of_run.ensures.low;
  within = c.end_of_run.ensures.within;
  taken = c.end_of_run.ensures.taken;
  stops = c.end_of_run.ensures.stops;
}
