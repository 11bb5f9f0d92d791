use Rattle.std.proofs.Common.{◌≡◌, ◌+◌, length}
use Rattle.rfcvalues.specs.RuleSketches.{sign_position}
use Rattle.rfcvalues.proofs.sketch.sign_position.Given as goal

abbrev pub invariant-loop-first : goal.invariant-loop-first
invariant-loop-first l = record {
  size : l.size + length l.rest ≡ length l.text;
  same : l.size + sign_position l.rest ≡ sign_position l.text;
}

abbrev pub decreases-loop-first : goal.decreases-loop-first
decreases-loop-first l = length l.rest
