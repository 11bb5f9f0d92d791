use Rattle.std.proofs.Common.{◌≡◌, ◌++◌, map, drop, flat_map}
use Rattle.findings.specs.Findings.{further_at}
use Rattle.findings.specs.JsonLines.{further_tokens}
use Rattle.findings.proofs.json_lines.write_all_further.Given as goal

abbrev pub invariant-loop-one : goal.invariant-loop-one
invariant-loop-one l = record {
  before : l.json.before ≡ l.fn.json.before;
  tokens : l.json.tokens ++ flat_map further_tokens (map further_at (drop l.one-index l.further))
      ≡ l.fn.json.tokens ++ flat_map further_tokens (map further_at l.further);
}
