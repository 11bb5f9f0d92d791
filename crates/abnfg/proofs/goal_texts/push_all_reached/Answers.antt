-- One line more.
use Rattle.std.proofs.Common.{append-nil, sym}
use Rattle.abnfread.specs.AbnfViews.{rules_of}
use Rattle.abnfg.proofs.CoverTextLemmas.{reached_all, reached_pushed}
use Rattle.abnfg.proofs.goal_texts.push_all_reached.Goals as goal

pub loop-index-init : goal.loop-index-init
loop-index-init c = sym (append-nil c.args.out.now.items)

pub loop-index-preserved : goal.loop-index-preserved
loop-index-preserved c =
    reached_pushed c.args.unit (rules_of c.args.rules.now) c.args.lines.now c.loop-index.index
    c.index-lines-index.result c.args.out.now.items c.loop-index.out.items c.push_reached.new.out.items
    c.loop-index-test.true c.index-lines-index.is c.loop-index.invariant c.in_ok-push_reached.ensures

pub returns : goal.returns
returns c =
    reached_all c.args.unit (rules_of c.args.rules.now) c.args.lines.now c.loop-index.index c.args.out.now.items
    c.loop-index.out.items c.loop-index-test.false c.loop-index.invariant
