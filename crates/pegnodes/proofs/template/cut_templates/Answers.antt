use Rattle.std.proofs.Common.{◌≡◌, arith, ◌+◌, length, length-append, refl, slice_get, Some}
use Rattle.std.proofs.lemmas.Option.{slice_get_read}
use Rattle.pegnodes.proofs.AreCutsLemmas.{AreCutsBelow-other, AreCutsBelow-act, AreCuts-all}
use Rattle.pegnodes.proofs.template.cut_templates.Goals as goal
use Rattle.pegnodes.proofs.template.cut_templates.Goals.{in-Act+in_ok-cut_template+in_ok-push-2, in_default}

module _ (c : goal.Joined-node) where
  here : slice_get c.args.nodes.now c.loop-node.node-index ≡ Some c.node-item.result
  here = slice_get_read _ _ _ _ refl c.loop-node-test.true c.node-item.is

  long : length c.push.new.self.items ≡ c.loop-node.node-index + 1
  long = rw (c.in_ok-push.ensures.items, length-append) (omega (arith, c.loop-node.invariant.long))

  count : c.len.result ≡ length c.loop-node.cuts.items
  count = omega arith

pub loop-node-preserved : goal.loop-node-preserved
loop-node-preserved c =
    elim c.match-node.branch [
      | in-Act+in_ok-cut_template+in_ok-push-2 w ↦ record {
        long = long c;
        cuts = rw (c.in_ok-push.ensures.items, w.cuts-is, w.in_ok-push-2.ensures.items)
            (AreCutsBelow-act _ _ _ _ c.loop-node.invariant.long c.loop-node.invariant.cuts _ (here c) _
            (count c) _ w.in-Act.is _ (rw w.deref.ensures.value at w.in_ok-cut_template.ensures));
      }
      | in_default w ↦ record {
        long = long c;
        cuts = rw (c.in_ok-push.ensures.items, w.cuts-is)
            (AreCutsBelow-other _ _ _ _ c.loop-node.invariant.long c.loop-node.invariant.cuts _ (here c) _
            (count c) w.in_default.not-Act);
      }
    ]

pub returns : goal.returns
returns c = AreCuts-all _ _ _ _ c.loop-node-test.false c.loop-node.invariant.cuts
