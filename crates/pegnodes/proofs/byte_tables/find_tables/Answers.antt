use Rattle.std.proofs.Common.{rules}
use Rattle.pegnodes.specs.Decides.{marks_in}
use Rattle.pegnodes.specs.Nodes.{shapes_of}
use Rattle.pegnodes.proofs.ByteTablesLemmas.{tables_next}
use Rattle.pegnodes.proofs.byte_tables.find_tables.Goals as goal

pub loop-n-preserved : goal.loop-n-preserved
loop-n-preserved c = record {
  long = search rules;
  are = tables_next (shapes_of c.args.grammar.now.nodes.now) c.args.grammar.now.bodies.now
      (marks_in c.args.grammar.now) c.loop-n.tables.positions.items c.push.new.self.items c.loop-n.tables.runs.items
      c.add_table.new.tables.runs.items c.in_ok-position.ensures.runs.0 c.loop-n.tables.choices.items
      c.add_table.new.tables.choices.items c.in_ok-position.ensures.choices.0 c.loop-n.n c.in_ok-position.position
      c.loop-n.invariant.long (cc (c.in_ok-push.ensures.items, c.in_ok-position.ensures.positions))
      c.in_ok-position.ensures.runs.1 c.in_ok-position.ensures.choices.1 c.loop-n.invariant.are
      c.in_ok-position.ensures.added;
}
