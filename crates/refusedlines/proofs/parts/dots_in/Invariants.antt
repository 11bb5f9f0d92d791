use Rattle.std.proofs.Common.{take}
use Rattle.refusedlines.specs.SoughtParts.{AreDotsIn}
use Rattle.refusedlines.proofs.parts.dots_in.Given as goal

-- the dotted rules so far
abbrev pub invariant-loop-dot : goal.invariant-loop-dot
invariant-loop-dot l = AreDotsIn (take l.dot-index l.dots) l.set
