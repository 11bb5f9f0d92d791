use Rattle.std.proofs.Common.{◌≡◌, drop}
use Rattle.pegnodes.specs.Templates.{cut_front}
use Rattle.pegnodes.proofs.template.front_blanks.Given as goal

abbrev pub invariant-loop-i : goal.invariant-loop-i
invariant-loop-i l = cut_front (drop l.i l.text) ≡ cut_front l.text
