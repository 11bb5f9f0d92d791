-- What is left of each form of an element.
use Rattle.abnfread.proofs.ElementLemmas.{element-Concat, element-Alt}
use Rattle.abnfread.proofs.ElementLemmas.{element-Rep, element-Opt, element-Name, element-Prose}
use Rattle.abnfhints.specs.WithoutLetter.{in_concat, in_alt, in_rep, in_opt, keeps_name, keeps_prose, none_without}
use Rattle.abnfhints.proofs.WithoutLemmas.{next_without}
use Rattle.abnfhints.proofs.without.+leaving.Goals as goal

pub without-returns-in_ok-members-in-Concat : goal.without-returns-in_ok-members-in-Concat
without-returns-in_ok-members-in-Concat t c = rw
    (c.in-Concat.is, element-Concat c.in-Concat.members, element-Concat c.in_ok-members-in-Concat.members)
    (in_concat (rw c.deref-in-Concat.ensures.value at c.in_ok-members-in-Concat.ensures))

pub without-returns-in_ok-alternatives-in-Alt : goal.without-returns-in_ok-alternatives-in-Alt
without-returns-in_ok-alternatives-in-Alt t c = rw
    (c.in-Alt.is, element-Alt c.in-Alt.alternatives, element-Alt c.in_ok-alternatives-in-Alt.alternatives)
    (in_alt (rw c.deref-in-Alt.ensures.value at c.in_ok-alternatives-in-Alt.ensures))

pub without-returns-in_ok-operand-in-Rep : goal.without-returns-in_ok-operand-in-Rep
without-returns-in_ok-operand-in-Rep t c = rw (
  c.in-Rep.is,
  element-Rep c.in-Rep.least c.in-Rep.most c.in-Rep.operand,
  element-Rep c.in-Rep.least c.in-Rep.most c.in_ok-operand-in-Rep.operand,
  c.in_ok-operand-in-Rep.ensures.ok,
)
    (in_rep (rw c.deref-in-Rep.ensures at c.in_ok-left-in-Rep.ensures))

pub without-returns-in_ok-operand-in-Opt : goal.without-returns-in_ok-operand-in-Opt
without-returns-in_ok-operand-in-Opt t c = rw (
  c.in-Opt.is,
  element-Opt c.in-Opt.operand,
  element-Opt c.in_ok-operand-in-Opt.operand,
  c.in_ok-operand-in-Opt.ensures.ok,
)
    (in_opt (rw c.deref-in-Opt.ensures at c.in_ok-left-in-Opt.ensures))

pub without-returns-in_ok-from_slice-in-Name : goal.without-returns-in_ok-from_slice-in-Name
without-returns-in_ok-from_slice-in-Name t c = rw (
  c.in-Name.is,
  element-Name c.in-Name.name,
  element-Name c.in_ok-from_slice-in-Name.field-0,
  c.in_ok-from_slice-in-Name.ensures.items,
  c.deref-in-Name.ensures.value,
) keeps_name

pub without-returns-in-Prose : goal.without-returns-in-Prose
without-returns-in-Prose t c = rw (c.in-Prose.is, element-Prose c.in-Prose.field-0, element-Prose) keeps_prose

pub all_without-loop-member-init : goal.all_without-loop-member-init
all_without-loop-member-init t c = rw c.new-left.ensures.items none_without

pub all_without-loop-member-preserved : goal.all_without-loop-member-preserved
all_without-loop-member-preserved t c = rw c.in_ok-push.ensures.items
    (next_without c.args.letter _ _ _ _ _ c.loop-member-test.true c.member-item.is c.loop-member.invariant
    c.in_ok-without.ensures)
