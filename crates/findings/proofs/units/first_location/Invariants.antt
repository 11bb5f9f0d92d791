use Rattle.std.proofs.Common.{◌≡◌, map, drop}
use Rattle.findings.specs.UnitFindings.{first_location}
use Rattle.findings.proofs.units.first_location.Given as goal

abbrev pub invariant-loop-line : goal.invariant-loop-line
invariant-loop-line l = first_location (map (λ x. x.now) (drop l.line-index l.more))
    ≡ first_location (map (λ x. x.now) l.more)
