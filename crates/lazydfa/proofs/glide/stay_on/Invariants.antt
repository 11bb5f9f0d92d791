use Rattle.std.proofs.Common.{◌≡◌, ◌≤◌, ◌-◌, length, map}
use Rattle.lazydfa.specs.Transitions.{StaysOver}
use Rattle.lazydfa.proofs.glide.stay_on.Given as goal

abbrev pub invariant-fours : goal.invariant-fours
invariant-fours g l = record {
  within : l.at ≤ length l.line;
  further : l.fn.from.at ≤ l.at;
  row : l.row ≡ l.fn.from.row;
  stays : StaysOver l.low l.samples l.transitions (map g.L.Letter.number l.line) l.fn.from.row l.fn.from.at l.at;
}

abbrev pub decreases-fours : goal.decreases-fours
decreases-fours g l = length l.line - l.at
