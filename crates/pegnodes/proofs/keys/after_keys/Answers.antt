use Rattle.std.proofs.Common.{◌≡◌, ℕ, Bool, true, false, rules}
use Rattle.pegnodes.specs.KeyNeeds.{IsPassed}
use Rattle.pegnodes.proofs.PushedMarksLemmas.{all_pushed}
use Rattle.pegnodes.proofs.keys.after_keys.Goals as goal

pub loop-m-preserved : goal.loop-m-preserved
loop-m-preserved c = record {
  count = search rules;
  passed = rw (c.in_ok-push.ensures).items (all_pushed
      (λ (m : ℕ) (b : Bool). b ≡ false → IsPassed c.args.namers.now c.args.singles.now c.args.widths.now m)
      c.loop-m.after.items _ true c.loop-m.m c.loop-m.invariant.count c.loop-m.invariant.passed
      c.is_key_after.ensures);
}
