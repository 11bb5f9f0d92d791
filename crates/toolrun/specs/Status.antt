-- The exit status of what a run comes to.
use Rattle.std.specs.Prelude.{ℕ}
use Rattle.toolrun.specs.declared.status.Status.{Status}
use Rattle.toolrun.specs.declared.status.Status.TheVariants.{Done, NoMatch, Refused, Overlong, Fault, NoMemory}

abbrev pub code_of : Status → ℕ
code_of Done = 0
code_of NoMatch = 1
code_of Refused = 2
code_of Overlong = 3
code_of Fault = 4
code_of NoMemory = 5
