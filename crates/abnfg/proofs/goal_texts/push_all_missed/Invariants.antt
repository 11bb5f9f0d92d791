use Rattle.std.proofs.Common.{◌≡◌, ◌++◌, take}
use Rattle.abnfg.specs.CoverGoals.{missed_lines}
use Rattle.abnfread.specs.AbnfViews.{rules_of}
use Rattle.abnfg.proofs.goal_texts.push_all_missed.Given as goal

abbrev pub invariant-loop-goal : goal.invariant-loop-goal
invariant-loop-goal l =
    l.out.items ≡ l.fn.out.items ++ missed_lines (rules_of l.rules) (take l.goal-index l.missed)
