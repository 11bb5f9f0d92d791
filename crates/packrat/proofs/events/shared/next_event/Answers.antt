use Rattle.std.proofs.Common.{◌+◌, ◌∷◌, length, refl, arith, ◌∙◌}
use Rattle.packrat.specs.declared.events.link.Link.TheVariants.{Opened, Closed, Acted, Join}
use Rattle.packrat.specs.WaitingHeads.{AreWaiting}
use Rattle.packrat.proofs.KeptAtLemmas.{at_head, waiting_within, waiting_next, waiting_join, waiting_fit}
use Rattle.packrat.proofs.KeptAtLemmas.{head_fewer, join_fewer}
use Rattle.packrat.proofs.RecallsLemmas.{passed_head, passed_none, passed_known, passed_begun}
use Rattle.packrat.proofs.events.shared.next_event.Goals as goal

pub link_at-requires : goal.link_at-requires
link_at-requires c =
    let waits = rw c.in-Some.ensures.some at c.heads.invariant.waits in
    let below = waiting_within _ c.in-Some.head c.next_head.new.self.waiting.heads waits in
    omega (arith, below)

pub heads-smaller-in-None : goal.heads-smaller-in-None
heads-smaller-in-None c = rw c.in-Some.ensures.some (head_fewer _ c.in-Some.head c.next_head.new.self.waiting.heads)

pub heads-preserved-in-None : goal.heads-preserved-in-None
heads-preserved-in-None c = record {
  passed = λ style nodes x r.
      passed_none style nodes x _ _ _ c.in-Some.head _ c.in-None.ensures.none
      (passed_head style nodes x _ _ c.heads.walk c.next_head.new.self c.in-Some.head c.in-Some.ensures.some
      c.in-Some.ensures.capture (c.in-Some.ensures.recalls style nodes x _) (c.heads.invariant.passed style nodes x r));
  waits = waiting_next _ c.in-Some.head c.next_head.new.self.waiting.heads
      (rw c.in-Some.ensures.some at c.heads.invariant.waits);
  room = c.in-Some.ensures.room ∙ c.heads.invariant.room;
}

pub returns-in-Some-Opened-clause-event : goal.returns-in-Some-Opened-clause-event
returns-in-Some-Opened-clause-event c = λ style nodes x r.
    let h = at_head c.args.links.now c.in-Some.head _ (Opened c.in-Some-Opened.position) c.requires.order
    c.in-Some-Opened.field-0-is c.in-Some-Opened.ensures.some in (
      c.in-Some.head,
      h.kept,
      passed_head style nodes x _ _ c.heads.walk c.next_head.new.self c.in-Some.head c.in-Some.ensures.some
          c.in-Some.ensures.capture (c.in-Some.ensures.recalls style nodes x _)
          (c.heads.invariant.passed style nodes x r),
    )

pub returns-in-Some-Opened-clause-waits : goal.returns-in-Some-Opened-clause-waits
returns-in-Some-Opened-clause-waits c = waiting_next _ c.in-Some.head c.next_head.new.self.waiting.heads
    (rw c.in-Some.ensures.some at c.heads.invariant.waits)

pub returns-in-Some-Closed-clause-event : goal.returns-in-Some-Closed-clause-event
returns-in-Some-Closed-clause-event c = λ style nodes x r.
    let h = at_head c.args.links.now c.in-Some.head _ (Closed c.in-Some-Closed.position) c.requires.order
    c.in-Some-Closed.field-0-is c.in-Some-Closed.ensures.some in (
      c.in-Some.head,
      h.kept,
      passed_head style nodes x _ _ c.heads.walk c.next_head.new.self c.in-Some.head c.in-Some.ensures.some
          c.in-Some.ensures.capture (c.in-Some.ensures.recalls style nodes x _)
          (c.heads.invariant.passed style nodes x r),
    )

pub returns-in-Some-Closed-clause-waits : goal.returns-in-Some-Closed-clause-waits
returns-in-Some-Closed-clause-waits c = waiting_next _ c.in-Some.head c.next_head.new.self.waiting.heads
    (rw c.in-Some.ensures.some at c.heads.invariant.waits)

pub returns-in-Some-Acted-clause-event : goal.returns-in-Some-Acted-clause-event
returns-in-Some-Acted-clause-event c = λ style nodes x r.
    let h = at_head c.args.links.now c.in-Some.head _ (Acted c.in-Some-Acted.node) c.requires.order
    c.in-Some-Acted.field-0-is c.in-Some-Acted.ensures.some in (
      c.in-Some.head,
      h.kept,
      passed_head style nodes x _ _ c.heads.walk c.next_head.new.self c.in-Some.head c.in-Some.ensures.some
          c.in-Some.ensures.capture (c.in-Some.ensures.recalls style nodes x _)
          (c.heads.invariant.passed style nodes x r),
    )

pub returns-in-Some-Acted-clause-waits : goal.returns-in-Some-Acted-clause-waits
returns-in-Some-Acted-clause-waits c = waiting_next _ c.in-Some.head c.next_head.new.self.waiting.heads
    (rw c.in-Some.ensures.some at c.heads.invariant.waits)

pub heads-smaller-in-Some-passed : goal.heads-smaller-in-Some-passed
heads-smaller-in-Some-passed c =
    rw c.in-Some.ensures.some (head_fewer _ c.in-Some.head c.next_head.new.self.waiting.heads)

pub heads-preserved-in-Some-passed : goal.heads-preserved-in-Some-passed
heads-preserved-in-Some-passed c = record {
  passed = λ style nodes x r.
      passed_known style nodes x _ _ c.next_head.new.self _ c.in-Some.head _ c.in-Some-passed.after
      c.in-Some-passed.ensures refl refl refl
      (passed_head style nodes x _ _ c.heads.walk c.next_head.new.self c.in-Some.head c.in-Some.ensures.some
      c.in-Some.ensures.capture (c.in-Some.ensures.recalls style nodes x _) (c.heads.invariant.passed style nodes x r));
  waits = waiting_next _ c.in-Some.head c.next_head.new.self.waiting.heads
      (rw c.in-Some.ensures.some at c.heads.invariant.waits);
  room = c.in-Some.ensures.room ∙ c.heads.invariant.room;
}

pub begin-requires : goal.begin-requires
begin-requires c =
    let h = at_head c.args.links.now c.in-Some.head _ (Join c.in-Some-Join.first c.in-Some-Join.second)
    c.requires.order c.in-Some-Join.field-0-is c.in-Some-Join.ensures.some in
    let heads = c.in-Some-Join.first ∷ c.in-Some-Join.second ∷ c.next_head.new.self.waiting.heads in
    let waits : AreWaiting (length c.args.links.now + 1) 0 heads =
    waiting_join _ c.in-Some.head c.next_head.new.self.waiting.heads
    (rw c.in-Some.ensures.some at c.heads.invariant.waits) _ _ h.before.0 h.before.1 in
    let fit = waiting_fit (length c.args.links.now + 1) 0 heads waits in
    let room = c.requires.room in
    let same = c.heads.invariant.room in
    let kept = c.in-Some.ensures.room in
    omega (arith, fit, room, same, kept)

pub heads-smaller : goal.heads-smaller
heads-smaller c =
    let h = at_head c.args.links.now c.in-Some.head _ (Join c.in-Some-Join.first c.in-Some-Join.second)
    c.requires.order c.in-Some-Join.field-0-is c.in-Some-Join.ensures.some in
    rw (c.begin.ensures.heads, c.in-Some.ensures.some)
    (join_fewer _ c.in-Some.head c.next_head.new.self.waiting.heads _ _ h _ refl)

pub heads-preserved : goal.heads-preserved
heads-preserved c =
    let h = at_head c.args.links.now c.in-Some.head _ (Join c.in-Some-Join.first c.in-Some-Join.second)
    c.requires.order c.in-Some-Join.field-0-is c.in-Some-Join.ensures.some in
    record {
      passed = λ style nodes x r.
          passed_begun style nodes x _ _ c.next_head.new.self c.begin.new.self c.in-Some.head _ _ h.kept
          c.begin.ensures.joins c.begin.ensures.heads
          (passed_head style nodes x _ _ c.heads.walk c.next_head.new.self c.in-Some.head c.in-Some.ensures.some
          c.in-Some.ensures.capture (c.in-Some.ensures.recalls style nodes x _)
          (c.heads.invariant.passed style nodes x r));
      waits = rw c.begin.ensures.heads (waiting_join _ c.in-Some.head c.next_head.new.self.waiting.heads
          (rw c.in-Some.ensures.some at c.heads.invariant.waits) _ _ h.before.0 h.before.1);
      room = c.begin.ensures.room ∙ c.in-Some.ensures.room ∙ c.heads.invariant.room;
    }
