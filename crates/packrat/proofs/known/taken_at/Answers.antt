use Rattle.std.proofs.Common.{refl, subst}
use Rattle.pegnodes.specs.ByByte.{ByByte}
use Rattle.pegnodes.specs.KeyLists.{node_marks, tail_marks}
use Rattle.pegnodes.specs.Nodes.{Star, shapes_of}
use Rattle.packrat.proofs.known.taken_at.Goals as goal

pub returns-in-Takes : goal.returns-in-Takes
returns-in-Takes c = λ k at.
    let d = c.in_ok-decided.ensures.decided (Star k) k at refl in
    record {
      byte = d.byte;
      here = d.here;
      last = d.last;
      takes = subst (λ v. ByByte (shapes_of c.args.peg.now.nodes) c.args.peg.now.bodies
          (node_marks c.args.peg.now.keys) (tail_marks c.args.peg.now.keys) d.byte k v
          c.in_ok-decided.decided.count) c.in-Takes.is d.decides;
    }
