use Rattle.pegnodes.proofs.settled.late_need.Goals as goal

pub returns-in-Choice : goal.returns-in-Choice
returns-in-Choice c = rw c.in-Choice.is (rw c.deref.ensures.value at c.before_fails.ensures)
