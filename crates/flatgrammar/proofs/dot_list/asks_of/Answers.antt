use Rattle.std.proofs.Common.{ap, ◌∙◌, sym, subst, Some, ◌≡◌}
use Rattle.flatgrammar.specs.ItemClosures.{dots_of, call_at, Asks, AreAsks}
use Rattle.flatgrammar.proofs.DotListLemmas.{pick_ask, asks_more, leave_one}
use Rattle.flatgrammar.proofs.dot_list.asks_of.Goals as goal
use Rattle.flatgrammar.proofs.dot_list.asks_of.Goals.{in-Some+in_ok-push, in_default}

pub loop-dot-preserved : goal.loop-dot-preserved
loop-dot-preserved c = elim c.match-ask_of.branch [
  | in-Some+in_ok-push w ↦ let pushed = ap (λ v. v.items) w.list-is ∙ w.in_ok-push.ensures.items in record {
    picks = pick_ask (Asks c.args.flat.now) c.args.from.now c.loop-dot.list.items _ c.loop-dot.dot-index _
        w.in-Some.ask c.loop-dot-test.true w.in-Some.ensures.dot pushed c.loop-dot.invariant.picks;
    report = asks_more c.args.flat.now c.loop-dot.list.items _ w.in-Some.ask c.loop-dot.invariant.report
        (subst (λ v. call_at c.args.flat.now v ≡ Some (w.in-Some.ask.target, w.in-Some.ask.next))
        (sym w.in-Some.ensures.dot) w.in-Some.ensures.call) pushed;
  }
  | in_default w ↦ record {
    picks = leave_one (Asks c.args.flat.now) c.args.from.now (dots_of c.loop-dot.list.items) _
        c.loop-dot.dot-index _ c.loop-dot-test.true (ap (λ v. dots_of v.items) w.list-is) w.in_default.ensures.none
        c.loop-dot.invariant.picks;
    report = subst (λ v. AreAsks c.args.flat.now v.items) (sym w.list-is) c.loop-dot.invariant.report;
  }
]
