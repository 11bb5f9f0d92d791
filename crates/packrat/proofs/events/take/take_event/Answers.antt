use Rattle.std.proofs.Common.{◌+◌, ◌∷◌, length, refl, sym, arith, ◌∙◌}
use Rattle.packrat.specs.declared.events.link.Link.TheVariants.{Opened, Closed, Acted, Join}
use Rattle.packrat.specs.WaitingHeads.{AreWaiting}
use Rattle.packrat.proofs.KeptAtLemmas.{at_head, waiting_within, waiting_next, waiting_join, waiting_fit}
use Rattle.packrat.proofs.KeptAtLemmas.{none_reported, one_reported, join_reported, none_fewer, join_fewer}
use Rattle.packrat.proofs.events.take.take_event.Goals as goal

pub link_at-requires : goal.link_at-requires
link_at-requires c =
    let below = waiting_within _ c.down.top c.down.waiting.heads c.down.invariant.waits in
    omega (arith, below)

pub returns-in_err-top-in-None-clause-kept : goal.returns-in_err-top-in-None-clause-kept
returns-in_err-top-in-None-clause-kept c =
    let none = c.in_err-top-in-None.ensures in
    let no_result = c.from_residual-in_err-top-in-None.ensures in
    sym (none_reported _ c.down.top c.down.waiting.heads _ c.down.invariant.kept c.in-None.ensures.none _
    (none.none.0 ∙ sym none.none.1)) ∙ rw no_result refl

pub down-smaller-in-None : goal.down-smaller-in-None
down-smaller-in-None c = none_fewer _ c.down.top c.down.waiting.heads c.in-None.ensures.none _ _
    c.in_ok-top-in-None.ensures.some

pub down-preserved-in-None : goal.down-preserved-in-None
down-preserved-in-None c = record {
  kept = none_reported _ c.down.top c.down.waiting.heads _ c.down.invariant.kept c.in-None.ensures.none _
      c.in_ok-top-in-None.ensures.some;
  waits = rw c.in_ok-top-in-None.ensures.some at
      (waiting_next _ c.down.top c.down.waiting.heads c.down.invariant.waits);
  room = c.in_ok-top-in-None.ensures.room ∙ c.down.invariant.room;
}

pub returns-in-Some-Opened-clause-kept : goal.returns-in-Some-Opened-clause-kept
returns-in-Some-Opened-clause-kept c =
    let h = at_head c.args.links.now c.down.top _ (Opened c.in-Some-Opened.position) c.requires.order
    c.in-Some-Opened.field-0-is c.in-Some-Opened.ensures.some in
    one_reported _ c.down.top c.down.waiting.heads _ c.down.invariant.kept _ h _ refl

pub returns-in-Some-Opened-clause-waits : goal.returns-in-Some-Opened-clause-waits
returns-in-Some-Opened-clause-waits c = waiting_next _ c.down.top c.down.waiting.heads c.down.invariant.waits

pub returns-in-Some-Closed-clause-kept : goal.returns-in-Some-Closed-clause-kept
returns-in-Some-Closed-clause-kept c =
    let h = at_head c.args.links.now c.down.top _ (Closed c.in-Some-Closed.position) c.requires.order
    c.in-Some-Closed.field-0-is c.in-Some-Closed.ensures.some in
    one_reported _ c.down.top c.down.waiting.heads _ c.down.invariant.kept _ h _ refl

pub returns-in-Some-Closed-clause-waits : goal.returns-in-Some-Closed-clause-waits
returns-in-Some-Closed-clause-waits c = waiting_next _ c.down.top c.down.waiting.heads c.down.invariant.waits

pub returns-in-Some-Acted-clause-kept : goal.returns-in-Some-Acted-clause-kept
returns-in-Some-Acted-clause-kept c =
    let h = at_head c.args.links.now c.down.top _ (Acted c.in-Some-Acted.node) c.requires.order
    c.in-Some-Acted.field-0-is c.in-Some-Acted.ensures.some in
    one_reported _ c.down.top c.down.waiting.heads _ c.down.invariant.kept _ h _ refl

pub returns-in-Some-Acted-clause-waits : goal.returns-in-Some-Acted-clause-waits
returns-in-Some-Acted-clause-waits c = waiting_next _ c.down.top c.down.waiting.heads c.down.invariant.waits

pub push-requires : goal.push-requires
push-requires c =
    let h = at_head c.args.links.now c.down.top _ (Join c.in-Some-Join.first c.in-Some-Join.second) c.requires.order
    c.in-Some-Join.field-0-is c.in-Some-Join.ensures.some in
    let heads = c.in-Some-Join.first ∷ c.in-Some-Join.second ∷ c.down.waiting.heads in
    let waits : AreWaiting (length c.args.links.now + 1) 0 heads =
    waiting_join _ c.down.top c.down.waiting.heads c.down.invariant.waits _ _ h.before.0 h.before.1 in
    let fit = waiting_fit (length c.args.links.now + 1) 0 heads waits in
    let room = c.requires.room in
    let same = c.down.invariant.room in
    omega (arith, fit, room, same)

pub down-smaller : goal.down-smaller
down-smaller c =
    let h = at_head c.args.links.now c.down.top _ (Join c.in-Some-Join.first c.in-Some-Join.second)
    c.requires.order c.in-Some-Join.field-0-is c.in-Some-Join.ensures.some in
    join_fewer _ c.down.top c.down.waiting.heads _ _ h _ c.push.ensures.heads

pub down-preserved : goal.down-preserved
down-preserved c =
    let h = at_head c.args.links.now c.down.top _ (Join c.in-Some-Join.first c.in-Some-Join.second)
    c.requires.order c.in-Some-Join.field-0-is c.in-Some-Join.ensures.some in
    record {
      kept = join_reported _ c.down.top c.down.waiting.heads _ c.down.invariant.kept _ _ h _ c.push.ensures.heads;
      waits = rw c.push.ensures.heads (waiting_join _ c.down.top c.down.waiting.heads c.down.invariant.waits _ _
          h.before.0 h.before.1);
      room = c.push.ensures.room ∙ c.down.invariant.room;
    }
