-- One line more.
use Rattle.std.proofs.Common.{Some, refl}
use Rattle.coverlines.proofs.RuleBasesLemmas as b
use Rattle.coverlines.proofs.needed.add_named_lines.Goals as goal

pub loop-one-preserved : goal.loop-one-preserved
loop-one-preserved c = b.next_named_line c.in-Some.context (Some c.in-Some.context) c.args.named.now
    c.loop-one.one-index c.one-item.result (record { id = c.one-item.result.id; word = c.in_ok-word.word })
    c.args.found.now.items c.loop-one.found.items c.push.new.self.items refl c.loop-one-test.true c.one-item.is refl
    (rw c.deref.ensures.value at c.in_ok-word.ensures) c.in_ok-push.ensures.items c.loop-one.invariant
