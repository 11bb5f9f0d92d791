use Rattle.std.proofs.Common.{map}
use Rattle.abnftexts.specs.GivenRules.{text_rule}
use Rattle.abnftexts.specs.JoinedRules.{clash_at}
use Rattle.abnftexts.proofs.FatesLemmas.{one-more}
use Rattle.abnftexts.proofs.join.order.find_clashes.Goals as goal

pub loop-number-preserved : goal.loop-number-preserved
loop-number-preserved c = one-more (clash_at (map text_rule c.args.rules.now))
    c.args.rules.now c.loop-number.number c.index-rules-number.result c.loop-number.clashes.items
    c.push_clash.new.clashes.items _ c.loop-number-test.true c.index-rules-number.is c.in_ok-push_clash.ensures
    c.loop-number.invariant
