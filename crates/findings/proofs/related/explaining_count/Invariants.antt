use Rattle.std.proofs.Common.{◌≡◌, ◌+◌, map, drop}
use Rattle.findings.specs.ExplainingLines.{count_explaining}
use Rattle.findings.proofs.related.explaining_count.Given as goal

abbrev pub invariant-loop-line : goal.invariant-loop-line
invariant-loop-line l = record {
  size : l.count ≡ l.line-index;
  same : l.count + count_explaining (map (λ x. x.now) (drop l.line-index l.lines))
      ≡ count_explaining (map (λ x. x.now) l.lines);
}
