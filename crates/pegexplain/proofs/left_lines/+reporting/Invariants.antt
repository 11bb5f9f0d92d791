use Rattle.pegexplain.proofs.left_lines.+reporting.Given as goal

abbrev pub decreases-push_steps : goal.decreases-push_steps
decreases-push_steps l = l.budget
