-- The need of each kind of element, and of one more member.
use Rattle.std.proofs.Common.{sym}
use Rattle.std.proofs.lemmas.List.{length-map}
use Rattle.std.proofs.lemmas.Result.{MatchResult-weaker}
use Rattle.std.specs.Prelude.{IfOk, Result, Ok, Err}
use Rattle.abnfread.specs.AbnfViews.{rule_of}
use Rattle.abnfread.proofs.ElementLemmas.{element-Text, element-Values, element-Range, element-Concat, element-Alt}
use Rattle.abnfread.proofs.ElementLemmas.{element-Rep, element-Opt, element-Name, element-Prose}
use Rattle.abnfcheck.specs.RuleMarks.{of_concat, of_alt}
use Rattle.abnfcheck.proofs.ElementNeedsLemmas as o
use Rattle.abnfcheck.proofs.YieldsLemmas as y
use Rattle.abnfcheck.proofs.rule_marks.+needing.Goals.{add_needs-in-Text+in_ok-need-in-Text}
use Rattle.abnfcheck.proofs.rule_marks.+needing.Goals.{add_needs-in-Values+in_ok-need-in-Values}
use Rattle.abnfcheck.proofs.rule_marks.+needing.Goals.{add_needs-in-Range+in_ok-need-in-Range}
use Rattle.abnfcheck.proofs.rule_marks.+needing.Goals.{add_needs-in-Concat+in_ok-add_all_needs-in-Concat}
use Rattle.abnfcheck.proofs.rule_marks.+needing.Goals.{add_needs-in-Alt+in_ok-add_all_needs-in-Alt}
use Rattle.abnfcheck.proofs.rule_marks.+needing.Goals.{add_needs-in-Rep+in_ok-operand-in-Rep+in_ok-need-in-Rep}
use Rattle.abnfcheck.proofs.rule_marks.+needing.Goals.{add_needs-in-Opt+in_ok-need-in-Opt}
use Rattle.abnfcheck.proofs.rule_marks.+needing.Goals.{add_needs-in-Name+in_ok-rule_id-in-Name+in_ok-need-in-Name}
use Rattle.abnfcheck.proofs.rule_marks.+needing.Goals.{add_needs-in-Prose+in_ok-need-in-Prose}
use Rattle.abnfcheck.proofs.rule_marks.+needing.Goals as goal

-- what two clauses say of one value
ok_both : {T E : Type 0} (r : Result T E) (P Q : T → Type 0) → IfOk r P → IfOk r Q → IfOk r (λ x. P x × Q x)
ok_both (Ok x) P Q p q = (p, q)
ok_both (Err e) P Q p q = tt

pub add_needs-returns : goal.add_needs-returns
add_needs-returns t c = MatchResult-weaker c.push_need.result
    (ok_both c.push_need.result _ _ c.push_need.ensures.number c.push_need.ensures.needs)
    (λ n added. elim c.match-e.branch [
      | add_needs-in-Text+in_ok-need-in-Text w ↦ λ has test. rw (w.in-Text.is, element-Text)
          (o.leaf_numbered has _ _ (rw (w.needs-is, w.need-is) at added.1)
          (rw w.needs-is at added.0) (rw w.in_ok-need-in-Text.ensures
          (y.text_need has _ _ _ _ _ _ _ w.deref.ensures.value w.text_yields.ensures test)))
      | add_needs-in-Values+in_ok-need-in-Values w ↦ λ has test. rw (w.in-Values.is, element-Values)
          (o.leaf_numbered has _ _ (rw (w.needs-is, w.need-is) at added.1)
          (rw w.needs-is at added.0) (rw w.in_ok-need-in-Values.ensures
          (y.values_need has _ _ _ _ _ _ w.deref-in-Values.ensures.value w.values_yield.ensures test)))
      | add_needs-in-Range+in_ok-need-in-Range w ↦ λ has test. rw (w.in-Range.is, element-Range)
          (o.leaf_numbered has _ _ (rw (w.needs-is, w.need-is) at added.1)
          (rw w.needs-is at added.0) (rw w.in_ok-need-in-Range.ensures
          (y.range_need has _ _ _ _ _ _ w.range_yields.ensures test)))
      | add_needs-in-Concat+in_ok-add_all_needs-in-Concat w ↦ λ has test. rw (w.in-Concat.is, element-Concat)
          (o.over_all has _ _ _ (rw (w.needs-is, w.need-is) at added.1)
          (rw w.needs-is at added.0)
          (rw w.deref-in-Concat.ensures.value at (w.in_ok-add_all_needs-in-Concat.ensures has test)) of_concat)
      | add_needs-in-Alt+in_ok-add_all_needs-in-Alt w ↦ λ has test. rw (w.in-Alt.is, element-Alt)
          (o.over_all has _ _ _ (rw (w.needs-is, w.need-is) at added.1)
          (rw w.needs-is at added.0)
          (rw w.deref-in-Alt.ensures.value at (w.in_ok-add_all_needs-in-Alt.ensures has test)) of_alt)
      | add_needs-in-Rep+in_ok-operand-in-Rep+in_ok-need-in-Rep w ↦ λ has test. rw (w.in-Rep.is, element-Rep)
          (o.operand_numbered has _ _ _ (rw (w.needs-is, w.need-is) at added.1)
          (rw w.needs-is at added.0)
          (rw w.deref-in-Rep.ensures at (w.in_ok-operand-in-Rep.ensures has test))
          (λ asked. rw w.in_ok-need-in-Rep.ensures (y.repeat_need has _ _ _ _ _ _ _ asked)))
      | add_needs-in-Opt+in_ok-need-in-Opt w ↦ λ has test. rw (w.in-Opt.is, element-Opt)
          (o.leaf_numbered has _ _ (rw (w.needs-is, w.need-is) at added.1)
          (rw w.needs-is at added.0) (rw w.in_ok-need-in-Opt.ensures (y.option_need has _ _ _ _)))
      | add_needs-in-Name+in_ok-rule_id-in-Name+in_ok-need-in-Name w ↦ λ has test. rw (w.in-Name.is, element-Name)
          (o.leaf_numbered has _ _ (rw (w.needs-is, w.need-is) at added.1)
          (rw w.needs-is at added.0) (rw
          (rw (
            w.len.ensures.len,
            w.in_ok-rule_id-in-Name.ensures,
            w.deref-in-Name.ensures.value,
            sym (length-map c.args.rules.now.rules rule_of),
          ) at w.in_ok-need-in-Name.ensures) (y.named_need has _ _ _ _)))
      | add_needs-in-Prose+in_ok-need-in-Prose w ↦ λ has test. rw (w.in-Prose.is, element-Prose)
          (o.leaf_numbered has _ _ (rw (w.needs-is, w.need-is) at added.1)
          (rw w.needs-is at added.0) (rw w.in_ok-need-in-Prose.ensures (y.prose_need has _ _ _ _)))
    ]) (λ _ _. tt)

pub add_all_needs-loop-member-init : goal.add_all_needs-loop-member-init
add_all_needs-loop-member-init t c = λ has test. o.no_members has _ _ _ _ c.new-numbers.ensures.items

pub add_all_needs-loop-member-preserved : goal.add_all_needs-loop-member-preserved
add_all_needs-loop-member-preserved t c = λ has test.
    rw (c.in_ok-push.ensures.items) (o.next_member has _ c.loop-member-test.true c.member-item.is
    (c.loop-member.invariant has test) (c.in_ok-n.ensures has test))
