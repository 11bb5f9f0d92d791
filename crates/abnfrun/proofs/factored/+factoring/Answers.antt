-- Each variant's copy, and one member more.
use Rattle.std.proofs.Common.{◌∙◌}
use Rattle.std.proofs.lemmas.Result.{IfOk-weaker}
use Rattle.abnfrun.proofs.FactoredRulesLemmas.{concat_factored, kept_more, left_more, name_factored, opt_factored}
use Rattle.abnfrun.proofs.FactoredRulesLemmas.{prose_factored, range_factored, rep_factored, text_factored}
use Rattle.abnfrun.proofs.FactoredRulesLemmas.{values_factored}
use Rattle.abnfrun.specs.FactoredChoices.{nothing}
use Rattle.abnfrun.proofs.factored.+factoring.Goals as goal
use Rattle.abnfrun.proofs.factored.+factoring.Goals.{all_factored-then-is_none+in_ok-factored+in_ok-push}
use Rattle.abnfrun.proofs.factored.+factoring.Goals.{all_factored-else-is_none}

pub all_factored-loop-member-init : goal.all_factored-loop-member-init
all_factored-loop-member-init t c = rw c.new-made.ensures.items nothing

pub all_factored-loop-member-preserved : goal.all_factored-loop-member-preserved
all_factored-loop-member-preserved t c = elim c.if-is_none.branch [
  | all_factored-then-is_none+in_ok-factored+in_ok-push w ↦ rw w.made-is
      (kept_more c.args.kind c.args.members.now c.loop-member.made.items w.push.new.self.items
      c.loop-member.member-index c.member-item.result w.in_ok-factored.field-0 c.loop-member-test.true c.member-item.is
      w.in_ok-factored.ensures w.in_ok-push.ensures.items c.loop-member.invariant)
  | all_factored-else-is_none w ↦ rw w.made-is
      (left_more c.args.kind c.args.members.now c.loop-member.made.items c.loop-member.member-index
      c.member-item.result c.text_in.result c.is_none.result c.loop-member-test.true c.member-item.is
      c.is_none.ensures w.if-is_none.false c.text_in.ensures.found c.loop-member.invariant)
]

pub factored-returns-in-Text : goal.factored-returns-in-Text
factored-returns-in-Text t c = IfOk-weaker c.text_of.result _ _
    (λ made is. text_factored c.args.e.now made c.in-Text.folds c.in-Text.text c.deref.result.now c.in-Text.is is
    c.deref.ensures.value) c.text_of.ensures

pub factored-returns-in_ok-from_slice-in-Values : goal.factored-returns-in_ok-from_slice-in-Values
factored-returns-in_ok-from_slice-in-Values t c =
    values_factored c.args.e.now c.in-Values.values c.in_ok-from_slice-in-Values.field-0 c.in-Values.is
    (c.in_ok-from_slice-in-Values.ensures.items ∙ c.deref-in-Values.ensures.value)

pub factored-returns-in-Range : goal.factored-returns-in-Range
factored-returns-in-Range t c = range_factored c.args.e.now c.in-Range.low c.in-Range.high c.in-Range.is

pub factored-returns-in_ok-all_factored-in-Concat :
    goal.factored-returns-in_ok-all_factored-in-Concat
factored-returns-in_ok-all_factored-in-Concat t c =
    concat_factored c.args.e.now c.in-Concat.members c.in_ok-all_factored-in-Concat.field-0 c.in-Concat.is
    (rw c.deref-in-Concat.ensures.value at c.in_ok-all_factored-in-Concat.ensures)

pub factored-returns-in_ok-operand-in-Rep : goal.factored-returns-in_ok-operand-in-Rep
factored-returns-in_ok-operand-in-Rep t c =
    rep_factored c.args.e.now c.in-Rep.least c.in-Rep.most c.in-Rep.operand c.in_ok-operand-in-Rep.operand c.in-Rep.is
    (rw (c.deref-in-Rep.ensures, ← c.in_ok-operand-in-Rep.ensures.ok) at c.in_ok-factored-in-Rep.ensures)

pub factored-returns-in_ok-new-in-Opt : goal.factored-returns-in_ok-new-in-Opt
factored-returns-in_ok-new-in-Opt t c =
    opt_factored c.args.e.now c.in-Opt.operand c.in_ok-new-in-Opt.field-0 c.in-Opt.is
    (rw (c.deref-in-Opt.ensures, ← c.in_ok-new-in-Opt.ensures.ok) at c.in_ok-factored-in-Opt.ensures)

pub factored-returns-in_ok-from_slice-in-Name : goal.factored-returns-in_ok-from_slice-in-Name
factored-returns-in_ok-from_slice-in-Name t c =
    name_factored c.args.e.now c.in-Name.name c.in_ok-from_slice-in-Name.field-0 c.in-Name.is
    (c.in_ok-from_slice-in-Name.ensures.items ∙ c.deref-in-Name.ensures.value)

pub factored-returns-in_ok-from_slice-in-Prose : goal.factored-returns-in_ok-from_slice-in-Prose
factored-returns-in_ok-from_slice-in-Prose t c =
    prose_factored c.args.e.now c.in-Prose.text c.in_ok-from_slice-in-Prose.field-0 c.in-Prose.is
    (c.in_ok-from_slice-in-Prose.ensures.items ∙ c.deref-in-Prose.ensures.value)
