use Rattle.ruletable.proofs.SpellsLemmas as w
use Rattle.ruletable.proofs.utf8.utf8_len.Goals as goal

pub returns-in-Ok : goal.returns-in-Ok
returns-in-Ok c = w.longest_all _ c.in-Ok.ensures.cases.1

pub returns-in-Err : goal.returns-in-Err
returns-in-Err c = rw c.valid_up_to.ensures (w.longest_front _ _ (rw c.in-Err.fault-is c.in-Err.ensures.cases.1))
