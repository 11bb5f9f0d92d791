use Rattle.std.proofs.Common.{rules}
use Rattle.pegread.specs.Escapes.{escaped}
use Rattle.ruletable.proofs.LeavesLemmas.{leaves-all, leaves-rest, leaves-part, leaves-none, leaves-at}
use Rattle.pegprint.proofs.LeftOfLemmas.{map-left, map-end}
use Rattle.pegprint.proofs.print_bytes.print_bytes.Goals as goal

pub loop-b-init : goal.loop-b-init
loop-b-init g c = record { left = leaves-all _ _; flag = search rules }

pub loop-b-preserved : goal.loop-b-preserved
loop-b-preserved g c = record {
  left = leaves-rest _ _ (leaves-at (map-left escaped c.args.bytes.now c.loop-b.b-index 0 c.loop-b-test.true)
      c.loop-b.invariant.left) c.in-Ok.ensures.bytes;
  flag = search rules;
}

pub returns-in-Err-clause-bytes : goal.returns-in-Err-clause-bytes
returns-in-Err-clause-bytes g c = leaves-part _ _ _
    (leaves-at (map-left escaped c.args.bytes.now c.loop-b.b-index 0 c.loop-b-test.true) c.loop-b.invariant.left)
    c.in-Err.ensures.bytes

pub returns : goal.returns
returns g c = record {
  bytes = leaves-none (leaves-at
      (map-end escaped c.args.bytes.now c.loop-b.b-index c.loop-b-test.false) c.loop-b.invariant.left);
  flag =
      search rules;
}
