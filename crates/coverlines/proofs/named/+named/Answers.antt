-- The names in one more member, and in each kind of element.
use Rattle.std.proofs.lemmas.Result.{IfOk-weaker}
use Rattle.abnfread.specs.AbnfViews.{element_of, elements_of, rules_of}
use Rattle.abnfread.proofs.ElementLemmas.{element-Concat, element-Alt, element-Rep, element-Opt, element-Name}
use Rattle.coverlines.proofs.NamedIdsLemmas as n
use Rattle.coverlines.proofs.named.+named.Goals as goal

pub add_all_named-loop-member-init : goal.add_all_named-loop-member-init
add_all_named-loop-member-init t c = n.no_member_adds (rules_of c.args.rules.now) c.args.members.now
    c.args.row.now.items

pub add_all_named-loop-member-preserved : goal.add_all_named-loop-member-preserved
add_all_named-loop-member-preserved t c = n.next_member_adds (rules_of c.args.rules.now) c.args.members.now
    c.loop-member.member-index c.member-item.result c.args.row.now.items c.loop-member.row.items
    c.add_named.new.row.items c.loop-member-test.true c.member-item.is c.loop-member.invariant
    c.in_ok-add_named.ensures

pub add_all_named-returns : goal.add_all_named-returns
add_all_named-returns t c = n.all_members_add (rules_of c.args.rules.now) c.args.members.now
    c.loop-member.member-index c.args.row.now.items c.loop-member.row.items c.loop-member-test.false
    c.loop-member.invariant

pub add_named-returns-in-Name : goal.add_named-returns-in-Name
add_named-returns-in-Name t c = IfOk-weaker c.add_id.result _ _ (λ done adds.
    rw (c.in-Name.is, element-Name) (n.name_adds (rules_of c.args.rules.now) c.args.row.now.items
    c.add_id.new.row.items c.in-Name.name.items (rw c.deref.ensures.value at adds))) c.add_id.ensures

pub add_named-returns-in-Concat : goal.add_named-returns-in-Concat
add_named-returns-in-Concat t c = IfOk-weaker c.add_all_named.result _ _ (λ done adds.
    rw (c.in-Concat.is, element-Concat) (n.concat_adds (rules_of c.args.rules.now) c.args.row.now.items
    c.add_all_named.new.row.items (elements_of c.in-Concat.members.items)
    (rw c.deref-in-Concat.ensures.value at adds))) c.add_all_named.ensures

pub add_named-returns-in-Alt : goal.add_named-returns-in-Alt
add_named-returns-in-Alt t c = IfOk-weaker c.add_all_named-in-Alt.result _ _ (λ done adds.
    rw (c.in-Alt.is, element-Alt) (n.alt_adds (rules_of c.args.rules.now) c.args.row.now.items
    c.add_all_named-in-Alt.new.row.items (elements_of c.in-Alt.alternatives.items)
    (rw c.deref-in-Alt.ensures.value at adds))) c.add_all_named-in-Alt.ensures

pub add_named-returns-in-Rep : goal.add_named-returns-in-Rep
add_named-returns-in-Rep t c = IfOk-weaker c.add_named.result _ _ (λ done adds.
    rw (c.in-Rep.is, element-Rep) (n.rep_adds (rules_of c.args.rules.now) c.args.row.now.items
    c.add_named.new.row.items c.in-Rep.least c.in-Rep.most (element_of c.in-Rep.operand.value)
    (rw c.deref-in-Rep.ensures at adds))) c.add_named.ensures

pub add_named-returns-in-Opt : goal.add_named-returns-in-Opt
add_named-returns-in-Opt t c = IfOk-weaker c.add_named-in-Opt.result _ _ (λ done adds.
    rw (c.in-Opt.is, element-Opt) (n.opt_adds (rules_of c.args.rules.now) c.args.row.now.items
    c.add_named-in-Opt.new.row.items (element_of c.in-Opt.operand.value)
    (rw c.deref-in-Opt.ensures at adds))) c.add_named-in-Opt.ensures
