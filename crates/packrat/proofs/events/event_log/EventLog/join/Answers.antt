use Rattle.std.proofs.Common.{append-nil, refl}
use Rattle.packrat.proofs.KeptAtLemmas.{none_kept}
use Rattle.packrat.proofs.events.event_log.EventLog.join.Goals as goal

pub returns-then-first-eq0-clause-kept : goal.returns-then-first-eq0-clause-kept
returns-then-first-eq0-clause-kept c = rw (c.if-first-eq0.true, none_kept c.args.self.now) refl

pub returns-then-second-eq0-clause-kept : goal.returns-then-second-eq0-clause-kept
returns-then-second-eq0-clause-kept c = rw (c.if-second-eq0.true, none_kept c.args.self.now, append-nil) refl
