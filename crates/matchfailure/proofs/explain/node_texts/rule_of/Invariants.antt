use Rattle.std.proofs.Common.{◌-◌, ◌≤◌, length}
use Rattle.matchfailure.proofs.RuleOfNodeLemmas.{AreBefore, AreFrom}
use Rattle.matchfailure.proofs.explain.node_texts.rule_of.Given as goal

abbrev pub invariant-halves : goal.invariant-halves
invariant-halves l = record {
  order : l.low ≤ l.high;
  within : l.high ≤ length l.peg.bodies;
  before : AreBefore l.peg.bodies l.low l.fn.n;
  from : AreFrom l.peg.bodies l.high l.fn.n;
}

abbrev pub decreases-halves : goal.decreases-halves
decreases-halves l = l.high - l.low
