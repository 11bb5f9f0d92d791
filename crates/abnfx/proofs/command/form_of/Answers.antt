-- Each flag is read as it stands.
use Rattle.std.proofs.Common.{ap₂}
use Rattle.abnfx.specs.JoinWords.{form_flagged}
use Rattle.abnfx.proofs.command.form_of.Goals as goal

pub returns-then-is_canonical : goal.returns-then-is_canonical
returns-then-is_canonical c = ap₂ form_flagged c.if-is_canonical.ensures c.if-is_given.ensures

pub returns-else-is_canonical : goal.returns-else-is_canonical
returns-else-is_canonical c = ap₂ form_flagged c.if-is_canonical.ensures c.if-is_given.ensures

pub returns-then-is_canonical-2 : goal.returns-then-is_canonical-2
returns-then-is_canonical-2 c = ap₂ form_flagged c.if-is_canonical-2.ensures c.if-is_given.ensures

pub returns-else-is_canonical-2 : goal.returns-else-is_canonical-2
returns-else-is_canonical-2 c = ap₂ form_flagged c.if-is_canonical-2.ensures c.if-is_given.ensures
