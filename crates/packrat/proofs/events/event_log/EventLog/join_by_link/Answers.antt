use Rattle.std.proofs.Common.{refl}
use Rattle.packrat.specs.declared.events.link.Link.TheVariants.{Join}
use Rattle.packrat.proofs.KeptAtLemmas.{added_grows, added_keeps}
use Rattle.packrat.proofs.events.event_log.EventLog.join_by_link.Goals as goal

pub returns-clause-kept : goal.returns-clause-kept
returns-clause-kept c = added_keeps (Join c.in_ok-narrow.field-0 c.in_ok-narrow-2.field-0) _ _ _ _
    c.add.ensures.links c.add.ensures.head (rw (c.in_ok-narrow.ensures, c.in_ok-narrow-2.ensures) refl)

pub returns-clause-grown : goal.returns-clause-grown
returns-clause-grown c = added_grows (Join c.in_ok-narrow.field-0 c.in_ok-narrow-2.field-0) _ _ _
    c.add.ensures.links c.add.ensures.unchanged
