use Rattle.std.proofs.Common.{List, map}
use Rattle.abnfblocks.specs.TextLines.{numbered}
use Rattle.rfcvalues.specs.RuleSketches.{SketchedRule}
use Rattle.abnftexts.proofs.ValueRunsLemmas.{IsRunSoFar}
use Rattle.abnftexts.proofs.values.run_size.Given as goal

abbrev pub invariant-loop-size : goal.invariant-loop-size
invariant-loop-size l = (sketches : List SketchedRule)
    → IsRunSoFar (map numbered l.lines) l.found sketches l.values l.size
