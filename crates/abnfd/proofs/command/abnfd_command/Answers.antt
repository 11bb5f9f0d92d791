-- Each parameter has its rule.
use Rattle.std.proofs.Common.{refl}
use Rattle.abnfd.proofs.CompareWordsLemmas.{app_made}
use Rattle.abnfd.proofs.command.abnfd_command.Goals as goal

pub returns : goal.returns
returns c = app_made c.program_command.result _ (rw c.as_slice.ensures at c.program_command.ensures) refl
