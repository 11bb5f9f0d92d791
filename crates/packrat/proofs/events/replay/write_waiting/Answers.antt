use Rattle.std.proofs.Common.{◌∙◌, ap, reverse, arith}
use Rattle.packrat.specs.WaitingHeads.{kept_at_all}
use Rattle.packrat.proofs.NextWrittenLemmas.{none_next, first_next, next_written, next_part}
use Rattle.packrat.proofs.events.replay.write_waiting.Goals as goal

pub write_event-requires-clause-stands : goal.write_event-requires-clause-stands
write_event-requires-clause-stands g c =
    let h = c.events.invariant.written c.requires.stands.0 c.requires.stands.1 c.requires.stands.2 in
    let n = first_next _ _ _ c.requires.stands.0 _ _ _ _ c.in-Some.ensures.kept _ _ h in
    (n.event, n.stands)

pub events-preserved : goal.events-preserved
events-preserved g c = record {
  written = λ all s r.
      let h = c.events.invariant.written all s r in
      let n = first_next _ _ _ all _ _ _ _ c.in-Some.ensures.kept _ _ h in
      rw c.capture_after-capture.ensures (next_written _ _ _ all _ _ _ _ c.in-Some.ensures.kept _ _ h _
      (c.in-Ok.ensures.bytes n.event n.stands));
  flag = c.in-Ok.ensures.flag ∙ c.events.invariant.flag;
  waits = c.take_event.ensures.waits;
  room = let room = c.events.invariant.room in let same = c.take_event.ensures.room in omega (arith, room, same);
}

pub returns-in-Err-clause-bytes : goal.returns-in-Err-clause-bytes
returns-in-Err-clause-bytes g c = λ all s r.
    let h = c.events.invariant.written all s r in
    let n = first_next _ _ _ all _ _ _ _ c.in-Some.ensures.kept _ _ h in
    next_part _ _ _ all _ _ _ _ c.in-Some.ensures.kept _ _ h _ (c.in-Err.ensures.bytes n.event n.stands)

pub returns-clause-bytes : goal.returns-clause-bytes
returns-clause-bytes g c = λ all s r. none_next _ _ _ all _ _ _ _
    (c.in_default.ensures.kept ∙ ap (kept_at_all (reverse c.args.links.now)) c.in_default.ensures.none)
    (c.events.invariant.written all s r)

pub write_shared-requires-clause-stands : goal.write_shared-requires-clause-stands
write_shared-requires-clause-stands g c =
    let s = c.requires.stands in
    let h = c.events.invariant.written s.0 s.1 s.2 in
    let n = first_next _ _ _ s.0 _ _ _ _ c.in-Some.ensures.kept _ _ h in
    let w = next_written _ _ _ s.0 _ _ _ _ c.in-Some.ensures.kept _ _ h _ (c.in-Ok.ensures.bytes n.event n.stands) in
    (s.0, w.later, w.written.done, w.left, rw c.capture_after-capture.ensures w.written.printed)

pub returns-then-left-eq0-clause-bytes : goal.returns-then-left-eq0-clause-bytes
returns-then-left-eq0-clause-bytes g c = λ all s r.
    let h = c.events.invariant.written all s r in
    let n = first_next _ _ _ all _ _ _ _ c.in-Some.ensures.kept _ _ h in
    let w = next_written _ _ _ all _ _ _ _ c.in-Some.ensures.kept _ _ h _ (c.in-Ok.ensures.bytes n.event n.stands) in
    c.write_shared.ensures.bytes _ all w.later w.written.done w.written.appends w.left
    (rw c.capture_after-capture.ensures w.written.printed)
