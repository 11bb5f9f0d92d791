-- Each parameter has its rule.
use Rattle.abnfx.proofs.command.abnfx_command.Goals as goal

pub returns : goal.returns
returns c = record { app = rw c.as_slice.ensures at c.program_command.ensures }
