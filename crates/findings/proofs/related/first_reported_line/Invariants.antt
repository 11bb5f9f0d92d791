use Rattle.std.proofs.Common.{◌≡◌, map, drop}
use Rattle.findings.specs.ExplainingLines.{first_report}
use Rattle.findings.proofs.related.first_reported_line.Given as goal

abbrev pub invariant-loop-line : goal.invariant-loop-line
invariant-loop-line l = first_report (map (λ x. x.now) (drop l.line-index l.more))
    ≡ first_report (map (λ x. x.now) l.more)
