use Rattle.std.proofs.Common.{◌≡◌, drop, length}
use Rattle.abnfread.specs.AbnfViews.{elements_of}
use Rattle.abnftexts.specs.SameElements.{all_same}
use Rattle.abnftexts.proofs.join.same.+comparing.Given as goal

-- Whether all are the same is decided by those that are left.
abbrev pub invariant-are_same-loop-i : goal.invariant-are_same-loop-i
invariant-are_same-loop-i l = record {
  size : length l.a ≡ length l.b;
  left : all_same l.named (elements_of l.a) (elements_of l.b)
      ≡ all_same l.named (elements_of (drop l.i l.a)) (elements_of (drop l.i l.b));
}
