use Rattle.std.proofs.Common.{◌≡◌, ◌≤◌, length, take, reverse}
use Rattle.pegnodes.specs.Templates.{cut_front}
use Rattle.pegnodes.proofs.template.back_blanks.Given as goal

abbrev pub invariant-loop-end : goal.invariant-loop-end
invariant-loop-end l = record {
  within : l.end ≤ length l.text;
  value : cut_front (reverse (take l.end l.text)) ≡ cut_front (reverse l.text);
}

abbrev pub decreases-loop-end : goal.decreases-loop-end
decreases-loop-end l = l.end
