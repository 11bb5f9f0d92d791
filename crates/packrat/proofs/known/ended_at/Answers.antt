use Rattle.std.proofs.Common.{◌∙◌, refl, sym, subst}
use Rattle.pegnodes.specs.ByByte.{ByByte, by_shape, below, by_no_iteration}
use Rattle.pegnodes.specs.KeyLists.{node_marks, tail_marks}
use Rattle.pegnodes.specs.Nodes.{shapes_of}
use Rattle.pegnodes.specs.declared.by_byte.ByteVerdict.TheVariants.{Stays}
use Rattle.packrat.proofs.known.ended_at.Goals as goal

pub returns-in-Fails : goal.returns-in-Fails
returns-in-Fails c = λ window more star at d. record {
  byte = d.byte;
  here = d.here;
  last = d.last;
  verdict = Stays;
  decides = rw c.from.ensures (by_shape at (by_no_iteration (below
      (sym c.is_key_node.ensures ∙ c.if-is_key_node.false)
      (subst (λ v. ByByte (shapes_of c.args.peg.now.nodes) c.args.peg.now.bodies
      (node_marks c.args.peg.now.keys) (tail_marks c.args.peg.now.keys) d.byte c.args.operand v
      c.args.decided.count) c.in-Fails.is d.decides))));
  found = refl;
}
