use Rattle.std.proofs.Common.{◌≡◌, ℕ, Bool, true, false, rules}
use Rattle.pegnodes.specs.KeyMarks.{AskedOnce}
use Rattle.pegnodes.specs.Nodes.{shapes_of}
use Rattle.pegnodes.proofs.PushedMarksLemmas.{all_pushed, not_false}
use Rattle.pegnodes.proofs.keys.node_keys.Goals as goal

pub loop-m-preserved : goal.loop-m-preserved
loop-m-preserved c = record {
  count = search rules;
  free = λ start bodies known single. rw (c.in_ok-push.ensures).items (all_pushed
      (λ (m : ℕ) (b : Bool). b ≡ false → AskedOnce start (shapes_of c.args.nodes.now) bodies m)
      c.loop-m.keys.items _ true c.loop-m.m c.loop-m.invariant.count (c.loop-m.invariant.free start bodies known single)
      (λ is. c.is_asked_once.ensures start bodies known single (not_false c.is_asked_once.result is)));
}
