use Rattle.std.proofs.Common.{arith}
use Rattle.pegnodes.specs.ByteTables.{IsRunTableOf}
use Rattle.pegnodes.specs.Decides.{marks_in}
use Rattle.pegnodes.specs.Nodes.{shapes_of}
use Rattle.pegnodes.proofs.ByteTablesLemmas.{table_added}
use Rattle.pegnodes.proofs.byte_tables.add_run.Goals as goal

pub returns-clause-added : goal.returns-clause-added
returns-clause-added c =
    table_added (IsRunTableOf (shapes_of c.args.grammar.now.nodes.now) c.args.grammar.now.bodies.now
    (marks_in c.args.grammar.now) c.args.n) c.args.runs.now.items c.push.new.self.items c.in_ok-table.table
    c.len-position.result (omega arith) c.in_ok-push.ensures.items c.in_ok-table.ensures
