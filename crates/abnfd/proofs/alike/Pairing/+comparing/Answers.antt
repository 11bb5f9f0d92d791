-- Each kind of element, and one more member.
use Rattle.std.proofs.Common.{◌≡◌, arith}
use Rattle.std.proofs.lemmas.Result.{IfOk-weaker}
use Rattle.abnfread.proofs.ElementLemmas.{element-Alt, element-Concat, element-Name, element-Opt, element-Range}
use Rattle.abnfread.proofs.ElementLemmas.{element-Rep, element-Text, element-Values}
use Rattle.abnfd.specs.UnchangedRules as a
use Rattle.abnfd.proofs.UnchangedRulesLemmas.{alike_left, none_left}
use Rattle.abnfd.proofs.alike.Pairing.+comparing.Goals as goal

pub are_alike-returns-in-Text : goal.are_alike-returns-in-Text
are_alike-returns-in-Text t c = λ is.
    rw (c.in-Text.is, element-Text, c.is_text.ensures is, c.deref.ensures.value) a.text_alike

pub are_alike-returns-in-Values : goal.are_alike-returns-in-Values
are_alike-returns-in-Values t c = λ is.
    rw (c.in-Values.is, element-Values, c.has_values.ensures is, c.deref-in-Values.ensures.value) a.values_alike

pub are_alike-returns-in-Range : goal.are_alike-returns-in-Range
are_alike-returns-in-Range t c = λ is. rw (c.in-Range.is, element-Range, c.is_range.ensures is) a.range_alike

pub are_alike-returns-in-Concat-d : goal.are_alike-returns-in-Concat-d
are_alike-returns-in-Concat-d t c = IfOk-weaker c.all_alike.result _ _
    (λ alike are is. rw (
      c.in-Concat.is,
      c.in-Concat-d.is,
      element-Concat c.in-Concat.members,
      element-Concat c.in-Concat-d.others,
    ) (a.concat_alike
    (rw (c.deref-in-Concat-d.ensures.value, c.deref-in-Concat-d-2.ensures.value) at are is))) c.all_alike.ensures

pub are_alike-returns-in-Alt-d : goal.are_alike-returns-in-Alt-d
are_alike-returns-in-Alt-d t c = IfOk-weaker c.all_alike-in-Alt-d.result _ _
    (λ alike are is. rw (c.in-Alt.is, c.in-Alt-d.is, element-Alt c.in-Alt.alternatives, element-Alt c.in-Alt-d.others)
    (a.alt_alike (rw (c.deref-in-Alt-d.ensures.value, c.deref-in-Alt-d-2.ensures.value) at are is)))
    c.all_alike-in-Alt-d.ensures

pub are_alike-returns-in-Opt-d : goal.are_alike-returns-in-Opt-d
are_alike-returns-in-Opt-d t c = IfOk-weaker c.are_alike.result _ _
    (λ alike are is. rw (c.in-Opt.is, c.in-Opt-d.is, element-Opt c.in-Opt.operand, element-Opt c.in-Opt-d.other)
    (a.opt_alike (rw (c.deref-in-Opt-d.ensures, c.deref-in-Opt-d-2.ensures) at are is))) c.are_alike.ensures

pub are_alike-returns-in-Name-d : goal.are_alike-returns-in-Name-d
are_alike-returns-in-Name-d t c = IfOk-weaker c.are_paired.result _ _
    (λ alike are is. rw (c.in-Name.is, c.in-Name-d.is, element-Name c.in-Name.name, element-Name c.in-Name-d.other)
    (a.name_alike (rw (c.deref-in-Name-d.ensures.value, c.deref-in-Name-d-2.ensures.value) at are is)))
    c.are_paired.ensures

pub is_alike_rep-returns : goal.is_alike_rep-returns
is_alike_rep-returns t c =
    let least : c.args.least ≡ c.in-Rep.other_least = grind (arith, c.if-least-other_least.false) in
    let most = c.is_same_bound.ensures c.if-not-is_same_bound.false in
    IfOk-weaker c.are_alike.result _ _
    (λ alike are is. rw (
      c.in-Rep.is,
      least,
      most,
      element-Rep c.in-Rep.other_least c.in-Rep.other_most c.in-Rep.other,
    )
    (a.rep_alike (rw c.deref.ensures at are is))) c.are_alike.ensures

pub all_alike-loop-i-preserved : goal.all_alike-loop-i-preserved
all_alike-loop-i-preserved t c =
    let lt = c.loop-i-test.true in
    let end = c.loop-i.auto.i-end in
    let size = c.loop-i.invariant.size in
    record {
      size = size;
      left = λ rest. c.loop-i.invariant.left (alike_left _ c.args.members.now c.args.others.now c.loop-i.i
          c.index-members-i.result c.index-others-i.result (omega (arith, lt, end)) (omega (arith, lt, end, size))
          c.index-members-i.is c.index-others-i.is
          (c.in_ok-are_alike.ensures c.if-not-branch.false) rest);
    }

pub all_alike-returns : goal.all_alike-returns
all_alike-returns t c = λ _.
    let past = c.loop-i-test.false in
    let size = c.loop-i.invariant.size in
    c.loop-i.invariant.left (none_left _ c.args.members.now c.args.others.now c.loop-i.i (omega (arith, past))
    (omega (arith, past, size)))
