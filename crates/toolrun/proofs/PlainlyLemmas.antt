-- An ending that is not explained is the stop.
-- Serves: finish, run_tool, run_lines, run_peg, run_abnf (right)
use Rattle.std.proofs.Common.{Bool}
use Rattle.std.specs.Prelude.{Result, Ok, Err}
use Rattle.ruletable.specs.Writing.{Flags}
use Rattle.ruletable.specs.declared.sink.WriteFault.{WriteFault}
use Rattle.toolrun.specs.RunEnd.{plainly}
use Rattle.toolrun.specs.declared.stop.Stop.{Stop}

-- it has the same flag
pub flags-plainly : (old new : Bool) (stop : Result Stop WriteFault) → Flags old new stop → Flags old new (plainly stop)
flags-plainly old new (Ok stop) flag = flag
flags-plainly old new (Err fault) flag = flag
