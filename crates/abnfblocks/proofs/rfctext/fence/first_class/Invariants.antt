use Rattle.std.proofs.Common.{◌≡◌, length}
use Rattle.abnfblocks.specs.Fences.{class_of}
use Rattle.abnfblocks.proofs.rfctext.fence.first_class.Given as goal

abbrev pub invariant-loop-first : goal.invariant-loop-first
invariant-loop-first l = class_of l.before l.rest ≡ class_of 32 l.text

abbrev pub decreases-loop-first : goal.decreases-loop-first
decreases-loop-first l = length l.rest
