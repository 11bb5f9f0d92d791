use Rattle.std.proofs.Common.{take}
use Rattle.std.specs.List.{All}
use Rattle.abnfg.proofs.RefusalsFromLemmas.{IsBelow}
use Rattle.abnfg.proofs.refusals.above_lengths.Given as goal

abbrev pub invariant-loop-line : goal.invariant-loop-line
invariant-loop-line l = All (IsBelow l.above) (take l.line-index l.lines)
