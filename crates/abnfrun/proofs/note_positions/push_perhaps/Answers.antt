use Rattle.abnfrun.proofs.note_positions.push_perhaps.Goals as goal

pub returns-in-Plain : goal.returns-in-Plain
returns-in-Plain c = rw c.in-Plain.is c.push_near.ensures
