-- The rows are those of the graph of names.
use Rattle.std.proofs.Common.{refl}
use Rattle.fixpoint.specs.StepRows.{rows_of}
use Rattle.abnfread.specs.AbnfViews.{rules_of}
use Rattle.abnfcheck.proofs.GraphLemmas.{steps_within}
use Rattle.abnfcheck.proofs.reached_names.name_chains.Goals as goal

pub judged_chains-requires : goal.judged_chains-requires
judged_chains-requires c = rw c.deref.ensures.value (steps_within (rules_of c.args.rules.now) _ _ _ _
    c.in_ok-ids.ensures.graph)

pub returns : goal.returns
returns c = record {
  rows = rows_of c.in_ok-ids.ids.rows.items;
  judged = c.in_ok-ids.ids.judged;
  is_judged = refl;
  folds = c.in_ok-ids.ensures.folds;
  graph = c.in_ok-ids.ensures.graph;
  chains = rw c.deref.ensures.value at c.in_ok-chains.ensures;
}
