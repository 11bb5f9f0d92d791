use Rattle.std.proofs.Common.{arith}
use Rattle.pegnodes.specs.KeyLists.{node_marks}
use Rattle.packrat.proofs.RunIterationsLemmas.{fresh_above}
use Rattle.packrat.proofs.iterations.is_fresh.Goals as goal

pub returns-then-is_key_node : goal.returns-then-is_key_node
returns-then-is_key_node c = λ is n.
    fresh_above (node_marks c.args.peg.now.keys c.args.node) c.args.node c.args.from n c.args.from
    c.args.log.now.stored (c.is_new.ensures is) (omega arith)
