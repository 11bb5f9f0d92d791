-- One goal more.
use Rattle.std.proofs.Common.{◌++◌, ◌∙◌, ap, append-nil, sym}
use Rattle.std.proofs.lemmas.List.{take_all}
use Rattle.abnfg.specs.CoverGoals.{missed_line, missed_lines}
use Rattle.abnfread.specs.AbnfViews.{rules_of}
use Rattle.abnfg.proofs.CoverTextLemmas.{pieces_pushed}
use Rattle.abnfg.proofs.goal_texts.push_all_missed.Goals as goal

pub loop-goal-init : goal.loop-goal-init
loop-goal-init c = sym (append-nil c.args.out.now.items)

pub loop-goal-preserved : goal.loop-goal-preserved
loop-goal-preserved c =
    pieces_pushed (missed_line (rules_of c.args.rules.now)) c.args.missed.now c.loop-goal.goal-index
    c.goal-item.result c.args.out.now.items c.loop-goal.out.items c.push_missed.new.out.items
    c.loop-goal-test.true c.goal-item.is c.loop-goal.invariant c.in_ok-push_missed.ensures

pub returns : goal.returns
returns c =
    c.loop-goal.invariant ∙ ap (λ v. c.args.out.now.items ++ missed_lines (rules_of c.args.rules.now) v)
    (take_all c.loop-goal.goal-index c.args.missed.now c.loop-goal-test.false)
