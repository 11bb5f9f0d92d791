use Rattle.std.proofs.Common.{◌∙◌, map, drop, sym}
use Rattle.pegexplain.specs.FoundUses.{use_found}
use Rattle.pegexplain.specs.LeftLines.{is_left_use}
use Rattle.pegexplain.proofs.LeftStepLineLemmas.{no-line-left}
use Rattle.pegexplain.proofs.left_lines.first_left.Goals as goal

pub returns-in_default : goal.returns-in_default
returns-in_default c = sym (no-line-left (is_left_use c.args.name.now)
    (map use_found (drop c.loop-found.found-index c.args.uses.now)) c.loop-found.left.now c.in_default.ensures.cases)
    ∙ c.loop-found.invariant
