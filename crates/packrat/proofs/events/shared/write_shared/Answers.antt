use Rattle.std.proofs.Common.{◌∙◌, None, arith, refl}
use Rattle.packrat.proofs.NextWrittenLemmas.{none_next, first_next, next_written, next_part}
use Rattle.packrat.proofs.NextWrittenLemmas.{event_fewer, event_written, end_written}
use Rattle.packrat.proofs.RecallsLemmas.{recalls_fresh, recalls_passed}
use Rattle.packrat.proofs.events.shared.write_shared.Goals as goal

pub events-init : goal.events-init
events-init g c = record {
  written = λ old all h. h;
  flag = refl;
  waits = c.requires.waits;
  room = c.requires.room;
  recalls = recalls_fresh _ _ _ _ _ _ _ c.clear.ensures.items
      (λ head. c.shrink_to_fit.ensures.entries.2 head ∙ rw c.clear-2.ensures.empty refl);
}

pub events-smaller : goal.events-smaller
events-smaller g c =
    let s = c.in-Some.ensures.event c.args.style _ c.args.window.now c.events.invariant.recalls in
    rw c.in-Ok.ensures.passed.waiting (event_fewer _ _ _ _ _ _ _ s)

pub events-preserved : goal.events-preserved
events-preserved g c =
    let s = c.in-Some.ensures.event c.args.style _ c.args.window.now c.events.invariant.recalls in
    let passed = c.in-Ok.ensures.passed in
    record {
      written = λ old all h.
          let w = event_written _ _ _ _ _ _ _ s all old _ (c.events.invariant.written old all h) in
          let n = first_next _ _ _ all _ old _ _ refl _ _ w in
          rw (passed.waiting, passed.capture) (next_written _ _ _ all _ old _ _ refl _ _ w _
          (c.in-Ok.ensures.bytes n.event n.stands));
      flag = c.in-Ok.ensures.flag ∙ c.events.invariant.flag;
      waits = rw passed.waiting c.next_event.ensures.waits;
      room = rw passed.waiting (let room = c.events.invariant.room in let same = c.next_event.ensures.room in omega
          (arith, room, same));
      recalls = recalls_passed _ _ _ _ _ _ s.0 _ s.1 passed s.2.recalls;
    }

pub pass_event-requires-clause-order : goal.pass_event-requires-clause-order
pass_event-requires-clause-order g c =
    let s = c.in-Some.ensures.event c.args.style _ c.args.window.now c.events.invariant.recalls in
    let all = c.requires.stands in
    let w = event_written _ _ _ _ _ _ _ s all.0 None _ (c.events.invariant.written None all.0
    (record { later = all.1; left = all.3; written = record { done = all.2; appends = tt; printed = all.4 } })) in
    w.written.printed.order

pub pass_event-requires-clause-within : goal.pass_event-requires-clause-within
pass_event-requires-clause-within g c =
    let s = c.in-Some.ensures.event c.args.style _ c.args.window.now c.events.invariant.recalls in
    let all = c.requires.stands in
    let w = event_written _ _ _ _ _ _ _ s all.0 None _ (c.events.invariant.written None all.0
    (record { later = all.1; left = all.3; written = record { done = all.2; appends = tt; printed = all.4 } })) in
    w.written.printed.within

pub pass_event-requires-clause-stands : goal.pass_event-requires-clause-stands
pass_event-requires-clause-stands g c =
    let s = c.in-Some.ensures.event c.args.style _ c.args.window.now c.events.invariant.recalls in
    let all = c.requires.stands in
    let w = event_written _ _ _ _ _ _ _ s all.0 None _ (c.events.invariant.written None all.0
    (record { later = all.1; left = all.3; written = record { done = all.2; appends = tt; printed = all.4 } })) in
    let n = first_next _ _ _ all.0 _ None _ _ refl _ _ w in
    (n.event, n.stands)

pub returns-in-Err-clause-bytes : goal.returns-in-Err-clause-bytes
returns-in-Err-clause-bytes g c = λ old all later done appends stand printed.
    let s = c.in-Some.ensures.event c.args.style _ c.args.window.now c.events.invariant.recalls in
    let w = event_written _ _ _ _ _ _ _ s all old _ (c.events.invariant.written old all
    (record { later = later; left = stand; written = record { done = done; appends = appends; printed = printed } })) in
    let n = first_next _ _ _ all _ old _ _ refl _ _ w in
    next_part _ _ _ all _ old _ _ refl _ _ w _ (c.in-Err.ensures.bytes n.event n.stands)

pub returns-clause-bytes : goal.returns-clause-bytes
returns-clause-bytes g c = λ old all later done appends stand printed.
    let s = c.in_default.ensures.event c.args.style _ c.args.window.now c.events.invariant.recalls in
    let w = end_written _ _ _ _ _ _ s all old _ (c.events.invariant.written old all
    (record { later = later; left = stand; written = record { done = done; appends = appends; printed = printed } })) in
    none_next _ _ _ all _ old _ _ refl w
