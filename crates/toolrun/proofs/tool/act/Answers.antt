-- The run stops at once, or the canonical text was printed, or the grammar was run.
use Rattle.std.proofs.Common.{◌≡◌, rules}
use Rattle.std.specs.Prelude.{Ok}
use Rattle.toolrun.proofs.IsRightLemmas.{stops_at_once}
use Rattle.toolrun.proofs.PrintsLemmas.{was_printed}
use Rattle.toolrun.proofs.tool.act.Goals as goal
use Rattle.toolrun.specs.declared.plan.Task.TheVariants.{Prints, Runs}

pub returns-in-Err : goal.returns-in-Err
returns-in-Err g c = rw c.in-Err.is (stops_at_once c.in-Err.stop _ _ _ _ _)

pub returns-in-Prints : goal.returns-in-Prints
returns-in-Prints g c =
    let is : c.args.task.now ≡ Ok (Prints c.in-Prints.grammar) = search rules in
    rw (is, c.plain_ending.ensures) (was_printed (g.L.Language.canonical c.in-Prints.grammar) _ _ _ _ _ _ _
    c.print_grammar.result c.print_grammar.ensures.prints c.print_grammar.ensures.flag)

pub returns-in-Runs : goal.returns-in-Runs
returns-in-Runs g c =
    let is : c.args.task.now ≡ Ok (Runs c.in-Runs.grammar) = search rules in
    rw is c.run.ensures
