-- Each flag is read as it stands.
use Rattle.std.proofs.Common.{ap₂}
use Rattle.abnfx.specs.JoinWords.{lists_flagged}
use Rattle.abnfx.proofs.command.lists_of.Goals as goal

pub returns-then-receives : goal.returns-then-receives
returns-then-receives c = ap₂ lists_flagged c.if-receives.ensures c.if-is_given.ensures

pub returns-else-receives : goal.returns-else-receives
returns-else-receives c = ap₂ lists_flagged c.if-receives.ensures c.if-is_given.ensures

pub returns-then-receives-2 : goal.returns-then-receives-2
returns-then-receives-2 c = ap₂ lists_flagged c.if-receives-2.ensures c.if-is_given.ensures

pub returns-else-receives-2 : goal.returns-else-receives-2
returns-else-receives-2 c = ap₂ lists_flagged c.if-receives-2.ensures c.if-is_given.ensures
