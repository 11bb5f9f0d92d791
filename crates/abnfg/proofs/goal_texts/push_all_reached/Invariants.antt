use Rattle.std.proofs.Common.{◌≡◌, ◌++◌, take}
use Rattle.abnfg.specs.CoverGoals.{reached_lines}
use Rattle.abnfread.specs.AbnfViews.{rules_of}
use Rattle.abnfg.proofs.goal_texts.push_all_reached.Given as goal

abbrev pub invariant-loop-index : goal.invariant-loop-index
invariant-loop-index l =
    l.out.items ≡ l.fn.out.items ++ reached_lines l.unit (rules_of l.rules) 1 (take l.index l.lines)
