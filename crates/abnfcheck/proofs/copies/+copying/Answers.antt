-- One member more.
use Rattle.abnfcheck.proofs.CopiedRulesLemmas.{copies_more}
use Rattle.abnfcheck.proofs.copies.+copying.Goals as goal

pub all_copied-loop-member-preserved : goal.all_copied-loop-member-preserved
all_copied-loop-member-preserved t c =
    copies_more _ _ c.args.members.now c.loop-member.member-index _ _ c.in_ok-push.ensures.items c.loop-member.invariant
    c.loop-member-test.true c.member-item.is c.in_ok-copied.ensures
