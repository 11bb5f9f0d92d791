use Rattle.std.proofs.Common.{◌≡◌, map, drop}
use Rattle.findings.specs.FirstRules.{first_rule_name}
use Rattle.findings.proofs.judged.first_rule_name.Given as goal

abbrev pub invariant-loop-line : goal.invariant-loop-line
invariant-loop-line l = first_rule_name (map (λ x. x.now) (drop l.line-index l.lines))
    ≡ first_rule_name (map (λ x. x.now) l.lines)
