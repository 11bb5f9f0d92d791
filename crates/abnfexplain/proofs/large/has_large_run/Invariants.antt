use Rattle.std.proofs.Common.{◌≡◌, ◌≤◌, drop}
use Rattle.abnfread.specs.declared.number.TheConstants.{MAX_VALUE}
use Rattle.abnfexplain.specs.LargeRuns.{runs_over}
use Rattle.abnfexplain.proofs.large.has_large_run.Given as goal

abbrev pub invariant-loop-b : goal.invariant-loop-b
invariant-loop-b l = record {
  same : runs_over l.base l.number (drop l.b-index l.text) ≡ runs_over l.base 0 l.text;
  small : l.number ≤ MAX_VALUE;
}
