use Rattle.std.proofs.Common.{◌≡◌, ◌≤◌, length}
use Rattle.rfcforms.specs.Lists.{number_spelled}
use Rattle.rfcforms.proofs.lists.number.number_in.Given as goal

abbrev pub invariant-loop-first : goal.invariant-loop-first
invariant-loop-first l = record {
  low : l.value ≤ 4294967297;
  same : number_spelled l.value l.rest ≡ number_spelled 0 l.digits;
}

abbrev pub decreases-loop-first : goal.decreases-loop-first
decreases-loop-first l = length l.rest
