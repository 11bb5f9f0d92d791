use Rattle.std.proofs.lemmas.Result.{IfOk-weaker}
use Rattle.abnfread.specs.AbnfViews.{rules_of}
use Rattle.abnfread.proofs.ElementLemmas.{element-Text, element-Values, element-Range, element-Concat, element-Alt}
use Rattle.abnfread.proofs.ElementLemmas.{element-Rep, element-Opt, element-Name, element-Prose}
use Rattle.ruletable.specs.Letters.{has}
use Rattle.lowering.specs.Pruned.{keep_none, some_none}
use Rattle.lowering.proofs.KeepsLemmas.{no_prose}
use Rattle.lowering.proofs.PruneLemmas as o
use Rattle.lowering.proofs.pruned.+pruning.Goals as goal

pub prune-returns-in-Text : goal.prune-returns-in-Text
prune-returns-in-Text t c = rw (c.in-Text.is, element-Text)
    (IfOk-weaker c.prune_text.result _ _ (λ left all. all c.args.alphabet (rules_of c.args.rules.now))
    (rw c.deref.ensures.value at c.prune_text.ensures))

pub prune-returns-in-Values : goal.prune-returns-in-Values
prune-returns-in-Values t c = rw (c.in-Values.is, element-Values)
    (IfOk-weaker c.prune_values.result _ _ (λ left all. all (rules_of c.args.rules.now))
    (rw c.deref-in-Values.ensures.value at c.prune_values.ensures))

pub prune-returns-in-Range : goal.prune-returns-in-Range
prune-returns-in-Range t c = rw (c.in-Range.is, element-Range) (c.prune_range.ensures (rules_of c.args.rules.now))

pub prune-returns-in-Concat : goal.prune-returns-in-Concat
prune-returns-in-Concat t c = rw (c.in-Concat.is, element-Concat)
    (rw c.deref-in-Concat.ensures.value at c.prune_concat.ensures)

pub prune-returns-in-Alt : goal.prune-returns-in-Alt
prune-returns-in-Alt t c = rw (c.in-Alt.is, element-Alt) (rw c.deref-in-Alt.ensures.value at c.prune_alt.ensures)

pub prune-returns-in_ok-operand-in-Rep : goal.prune-returns-in_ok-operand-in-Rep
prune-returns-in_ok-operand-in-Rep t c = rw (c.in-Rep.is, element-Rep)
    (IfOk-weaker c.prune_repeat.result _ _ (λ left all. all (has c.args.alphabet) (rules_of c.args.rules.now) _
    (rw c.deref-in-Rep.ensures at c.in_ok-operand-in-Rep.ensures)) c.prune_repeat.ensures)

pub prune-returns-in_ok-operand-in-Opt : goal.prune-returns-in_ok-operand-in-Opt
prune-returns-in_ok-operand-in-Opt t c = rw (c.in-Opt.is, element-Opt)
    (IfOk-weaker c.prune_option.result _ _ (λ left all. all (has c.args.alphabet) (rules_of c.args.rules.now) _
    (rw c.deref-in-Opt.ensures at c.in_ok-operand-in-Opt.ensures)) c.prune_option.ensures)

pub prune-returns-in-Name : goal.prune-returns-in-Name
prune-returns-in-Name t c = rw (c.in-Name.is, element-Name)
    (IfOk-weaker c.prune_name.result _ _ (λ left all. all c.args.alphabet c.requires.marks)
    (rw c.deref-in-Name.ensures.value at c.prune_name.ensures))

pub prune-returns-in-Prose : goal.prune-returns-in-Prose
prune-returns-in-Prose t c = rw (c.in-Prose.is, element-Prose)
    (λ p. no_prose (has c.args.alphabet) (rules_of c.args.rules.now) p.derives)

pub prune_concat-loop-member-init : goal.prune_concat-loop-member-init
prune_concat-loop-member-init t c = rw c.new-kept.ensures.items keep_none

pub prune_concat-returns-then-not-some : goal.prune_concat-returns-then-not-some
prune_concat-returns-then-not-some t c =
    o.left_none (has c.args.alphabet) (rules_of c.args.rules.now) _ c.loop-member.kept.items _ _
    c.loop-member-test.true c.member-item.is c.in_ok-left.left c.in_ok-some.some c.push_left.new.kept.items
    c.in_ok-some.ensures c.if-not-some.true c.in_ok-left.ensures

pub prune_concat-loop-member-preserved : goal.prune_concat-loop-member-preserved
prune_concat-loop-member-preserved t c =
    o.left_member (has c.args.alphabet) (rules_of c.args.rules.now) _ c.loop-member.kept.items _ _
    c.loop-member-test.true c.member-item.is c.in_ok-left.left c.in_ok-some.some c.push_left.new.kept.items
    c.in_ok-some.ensures c.if-not-some.false c.in_ok-left.ensures c.loop-member.invariant

pub prune_concat-returns : goal.prune_concat-returns
prune_concat-returns t c = rw element-Concat
    (o.concat_left (has c.args.alphabet) (rules_of c.args.rules.now) c.args.members.now c.loop-member.kept.items
    c.loop-member.member-index c.loop-member-test.false c.loop-member.invariant)

pub prune_alt-loop-alternative-init : goal.prune_alt-loop-alternative-init
prune_alt-loop-alternative-init t c = rw c.new-kept.ensures.items some_none

pub prune_alt-loop-alternative-preserved : goal.prune_alt-loop-alternative-preserved
prune_alt-loop-alternative-preserved t c =
    o.left_alternative (has c.args.alphabet) (rules_of c.args.rules.now) _ c.loop-alternative.kept.items _ _
    c.loop-alternative-test.true c.alternative-item.is c.in_ok-left.left c.in_ok-push_left.field-0
    c.push_left.new.kept.items c.in_ok-push_left.ensures c.in_ok-left.ensures c.loop-alternative.invariant
