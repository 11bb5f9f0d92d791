use Rattle.std.proofs.Common.{length, ◌+◌}
use Rattle.packrat.specs.EventLog.{kept_at}
use Rattle.packrat.proofs.KeptAtLemmas.{added_grows, added_keeps}
use Rattle.packrat.proofs.events.event_log.EventLog.mark.Goals as goal

pub add-requires : goal.add-requires
add-requires c = c.in_ok-link.ensures.before (length c.args.self.now + 1)

pub returns-clause-kept : goal.returns-clause-kept
returns-clause-kept c = added_keeps c.in_ok-link.link _ _ _ _ c.add.ensures.links c.add.ensures.head
    (c.in_ok-link.ensures.event (kept_at c.args.self.now))

pub returns-clause-grown : goal.returns-clause-grown
returns-clause-grown c = added_grows c.in_ok-link.link _ _ _ c.add.ensures.links c.add.ensures.unchanged
