-- The line that says that a stop is not explained is a constant.
use Rattle.toolrun.proofs.ending.write_ending.Goals as goal

pub returns-in-Unexplained-clause-bytes : goal.returns-in-Unexplained-clause-bytes
returns-in-Unexplained-clause-bytes g c = rw c.in-Unexplained.is c.write_reported-in-Unexplained.ensures.bytes
