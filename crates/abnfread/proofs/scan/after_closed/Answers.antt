use Rattle.abnfread.proofs.ByteRunLemmas.{closed-not, closed-is}
use Rattle.abnfread.proofs.scan.after_closed.Goals as goal

pub returns-in-Some : goal.returns-in-Some
returns-in-Some c = closed-is c.after_run-end.ensures.run c.in-Some.ensures

pub returns-in-None : goal.returns-in-None
returns-in-None c = closed-not c.requires c.after_run-end.ensures.run c.after_run-end.ensures.all c.in-None.ensures
