-- The command of both tools has ten more options.
use Rattle.std.proofs.Common.{refl}
use Rattle.abnfi.proofs.AbnfiWordsLemmas.{app_made}
use Rattle.abnfi.proofs.command.AbnfiProgram.command.Goals as goal

pub returns : goal.returns
returns c =
    let made = rw c.as_slice.ensures at c.tool_command.ensures in
    record { app = app_made c.tool_command.result made.0 _ _ _ made.1 made.2 refl refl refl }
