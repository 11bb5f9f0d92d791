use Rattle.pegnodes.proofs.settled.over_need.Goals as goal

pub returns-in-Seq : goal.returns-in-Seq
returns-in-Seq c = rw c.in-Seq.is (rw c.deref.ensures.value at c.before_stays.ensures)

pub returns-in-Choice : goal.returns-in-Choice
returns-in-Choice c = rw c.in-Choice.is (rw c.deref-in-Choice.ensures.value at c.choice_need.ensures)
