use Rattle.std.proofs.Common.{◌≡◌, ◌++◌, map, drop, flat_map}
use Rattle.findings.specs.Findings.{further_at}
use Rattle.findings.specs.GccLines.{gcc_further}
use Rattle.findings.proofs.gcc.push_further.Given as goal

abbrev pub invariant-loop-one : goal.invariant-loop-one
invariant-loop-one l = l.out.items ++ flat_map (gcc_further l.file l.code) (map further_at (drop l.one-index l.further))
    ≡ l.fn.out.items ++ flat_map (gcc_further l.file l.code) (map further_at l.further)
