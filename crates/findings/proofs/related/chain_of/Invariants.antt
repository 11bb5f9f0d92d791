use Rattle.std.proofs.Common.{◌≡◌, map, drop}
use Rattle.findings.specs.ExplainingLines.{chain_in}
use Rattle.findings.proofs.related.chain_of.Given as goal

abbrev pub invariant-loop-line : goal.invariant-loop-line
invariant-loop-line l = chain_in (map (λ x. x.now) (drop l.line-index l.more)) ≡ chain_in (map (λ x. x.now) l.more)
