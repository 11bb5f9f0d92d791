use Rattle.std.proofs.Common.{arith}
use Rattle.pegnodes.specs.ByteTables.{IsChoiceTableOf}
use Rattle.pegnodes.specs.Decides.{marks_in}
use Rattle.pegnodes.specs.Nodes.{shapes_of}
use Rattle.pegnodes.proofs.ByteTablesLemmas.{table_added}
use Rattle.pegnodes.proofs.byte_tables.add_choice.Goals as goal

pub returns-clause-added : goal.returns-clause-added
returns-clause-added c = λ n at.
    table_added (IsChoiceTableOf (shapes_of c.args.grammar.now.nodes.now) c.args.grammar.now.bodies.now
    (marks_in c.args.grammar.now) n c.args.alternatives.now) c.args.choices.now.items c.push.new.self.items
    c.in_ok-table.table c.len-position.result (omega arith) c.in_ok-push.ensures.items (c.in_ok-table.ensures n at)
