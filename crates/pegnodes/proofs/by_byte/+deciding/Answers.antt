-- What is decided of a node, from what is decided of those below.
use Rattle.std.proofs.Common.{◌∙◌, ap, sym, subst, Some}
use Rattle.pegnodes.specs.ByByte.{below, by_any}
use Rattle.pegnodes.specs.Decides.{DecidesShape}
use Rattle.pegnodes.specs.Nodes.{Bytes, Seq, Choice, shape_of}
use Rattle.pegnodes.proofs.DecidesLemmas.{some_as, at_node, name_decides, seq_decides, choice_decides, members_done}
use Rattle.pegnodes.proofs.DecidesLemmas.{members_more, members_left, members_failed, members_took, alternatives_done}
use Rattle.pegnodes.proofs.DecidesLemmas.{alternatives_more, alternatives_succeeded, takes_succeeds, stays_succeeds}
use Rattle.pegnodes.proofs.by_byte.+deciding.Goals as goal

pub below-returns : goal.below-returns
below-returns t c = some_as _ _ c.by_node.result (λ d h. below (sym c.mark_or.ensures ∙ c.if-mark_or.false) h)
    c.by_node.ensures

pub by_alternatives-returns-in-Takes : goal.by_alternatives-returns-in-Takes
by_alternatives-returns-in-Takes t c n at =
    alternatives_succeeded c.args.grammar.now c.args.b n c.args.alternatives.now c.loop-i.i c.loop-i.count
    (c.loop-i.invariant n at) c.loop-i-test.true at
    c.in_ok-alternative.alternative c.in_ok-sum.sum c.in_ok-alternative.ensures c.in_ok-sum.ensures
    (takes_succeeds _ c.in-Takes.is)

pub by_alternatives-returns-in-Stays : goal.by_alternatives-returns-in-Stays
by_alternatives-returns-in-Stays t c n at =
    alternatives_succeeded c.args.grammar.now c.args.b n c.args.alternatives.now c.loop-i.i c.loop-i.count
    (c.loop-i.invariant n at) c.loop-i-test.true at
    c.in_ok-alternative.alternative c.in_ok-sum.sum c.in_ok-alternative.ensures c.in_ok-sum.ensures
    (stays_succeeds _ c.in-Stays.is)

pub by_alternatives-loop-i-preserved : goal.by_alternatives-loop-i-preserved
by_alternatives-loop-i-preserved t c n at =
    alternatives_more c.args.grammar.now c.args.b n c.args.alternatives.now c.loop-i.i c.loop-i.count
    (c.loop-i.invariant n at) c.loop-i-test.true at
    c.in_ok-alternative.alternative c.in_ok-sum.sum c.in_ok-alternative.ensures c.in_ok-sum.ensures c.in-Fails.is

pub by_alternatives-returns : goal.by_alternatives-returns
by_alternatives-returns t c n at =
    alternatives_done c.args.grammar.now c.args.b n c.args.alternatives.now c.loop-i.i c.loop-i.count
    (c.loop-i.invariant n at) c.loop-i-test.false

pub by_members-returns-in-Fails : goal.by_members-returns-in-Fails
by_members-returns-in-Fails t c n at =
    members_failed c.args.grammar.now c.args.b n c.args.members.now c.loop-i.i c.loop-i.count c.loop-i.leaves
    (c.loop-i.invariant n at) c.loop-i-test.true at
    (sym c.is_key_of_members.ensures ∙ c.if-is_key_of_members.false) c.in_ok-member.member
    c.in_ok-sum.sum c.in_ok-member.ensures c.in_ok-sum.ensures c.in-Fails.is

pub by_members-returns-in-Takes : goal.by_members-returns-in-Takes
by_members-returns-in-Takes t c n at =
    members_took c.args.grammar.now c.args.b n c.args.members.now c.loop-i.i c.loop-i.count c.loop-i.leaves
    (c.loop-i.invariant n at) c.loop-i-test.true at
    (sym c.is_key_of_members.ensures ∙ c.if-is_key_of_members.false) c.in_ok-member.member
    c.in_ok-sum.sum c.in_ok-member.ensures c.in_ok-sum.ensures c.if-leaves.false c.in-Takes.is c.if-i-members.false

pub by_members-loop-i-preserved-then-is_event : goal.by_members-loop-i-preserved-then-is_event
by_members-loop-i-preserved-then-is_event t c n at =
    members_left c.args.grammar.now c.args.b n c.args.members.now c.loop-i.i c.loop-i.count c.loop-i.leaves
    (c.loop-i.invariant n at) c.loop-i-test.true at
    (sym c.is_key_of_members.ensures ∙ c.if-is_key_of_members.false) (c.is_event.ensures c.if-is_event.true)
    c.in_ok-passed.passed.count c.in_ok-passed.ensures.1

pub by_members-loop-i-preserved : goal.by_members-loop-i-preserved
by_members-loop-i-preserved t c n at =
    members_more c.args.grammar.now c.args.b n c.args.members.now c.loop-i.i c.loop-i.count c.loop-i.leaves
    (c.loop-i.invariant n at) c.loop-i-test.true at
    (sym c.is_key_of_members.ensures ∙ c.if-is_key_of_members.false) c.in_ok-member.member
    c.in_ok-sum.sum c.in_ok-member.ensures c.in_ok-sum.ensures c.in-Stays.is

pub by_members-returns : goal.by_members-returns
by_members-returns t c n at =
    members_done c.args.grammar.now c.args.b n c.args.members.now c.loop-i.i c.loop-i.count c.loop-i.leaves
    (c.loop-i.invariant n at) c.if-leaves-2.false c.loop-i-test.false

pub by_body-returns : goal.by_body-returns
by_body-returns t c = some_as _ _ c.summed.result (λ d h n.
    name_decides c.args.grammar.now c.args.b n c.args.id c.in_ok-body.body c.in_ok-decided.decided d
    c.in_ok-body.ensures c.in_ok-decided.ensures h) c.summed.ensures

pub by_node-returns-in-Any : goal.by_node-returns-in-Any
by_node-returns-in-Any t c =
    at_node c.args.grammar.now c.args.b c.args.n _ _ _ c.in_ok-set.ensures c.in-Any.is by_any

pub by_node-returns-in-Set : goal.by_node-returns-in-Set
by_node-returns-in-Set t c =
    at_node c.args.grammar.now c.args.b c.args.n _ _ _ c.in_ok-set.ensures c.in-Set.is
    (c.by_set.ensures c.args.grammar.now c.args.n)

pub by_node-returns-in-Bytes : goal.by_node-returns-in-Bytes
by_node-returns-in-Bytes t c = some_as _ _ c.by_bytes.result (λ d h.
    at_node c.args.grammar.now c.args.b c.args.n _ _ d c.in_ok-set.ensures c.in-Bytes.is
    (subst (λ v. DecidesShape c.args.grammar.now c.args.b c.args.n (Bytes v) d) c.deref.ensures.value
    (h c.args.grammar.now c.args.n))) c.by_bytes.ensures

pub by_node-returns-in-Name : goal.by_node-returns-in-Name
by_node-returns-in-Name t c = some_as _ _ c.by_body.result (λ d h.
    at_node c.args.grammar.now c.args.b c.args.n _ _ d c.in_ok-set.ensures c.in-Name.is (h c.args.n))
    c.by_body.ensures

pub by_node-returns-in_ok-decided-in-Seq : goal.by_node-returns-in_ok-decided-in-Seq
by_node-returns-in_ok-decided-in-Seq t c = some_as _ _ c.summed.result (λ d h.
    at_node c.args.grammar.now c.args.b c.args.n _ _ d c.in_ok-set.ensures c.in-Seq.is
    (subst (λ v. DecidesShape c.args.grammar.now c.args.b c.args.n (Seq v) d) c.deref-in-Seq.ensures.value
    (seq_decides c.args.grammar.now c.args.b c.args.n _ c.in_ok-decided-in-Seq.decided d
    (c.in_ok-decided-in-Seq.ensures c.args.n (c.in_ok-set.ensures ∙ ap (λ w. Some (shape_of w)) c.in-Seq.is
    ∙ ap (λ v. Some (Seq v)) (sym c.deref-in-Seq.ensures.value))) h))) c.summed.ensures

pub by_node-returns-in_ok-decided-in-Choice : goal.by_node-returns-in_ok-decided-in-Choice
by_node-returns-in_ok-decided-in-Choice t c = some_as _ _ c.summed-in-Choice.result (λ d h.
    at_node c.args.grammar.now c.args.b c.args.n _ _ d c.in_ok-set.ensures c.in-Choice.is
    (subst (λ v. DecidesShape c.args.grammar.now c.args.b c.args.n (Choice v) d) c.deref-in-Choice.ensures.value
    (choice_decides c.args.grammar.now c.args.b c.args.n _ c.in_ok-decided-in-Choice.decided d
    (c.in_ok-decided-in-Choice.ensures c.args.n (c.in_ok-set.ensures ∙ ap (λ w. Some (shape_of w)) c.in-Choice.is
    ∙ ap (λ v. Some (Choice v)) (sym c.deref-in-Choice.ensures.value))) h))) c.summed-in-Choice.ensures

pub by_node-returns-in_ok-below-in-Opt : goal.by_node-returns-in_ok-below-in-Opt
by_node-returns-in_ok-below-in-Opt t c = some_as _ _ c.over_opt.result (λ d h.
    at_node c.args.grammar.now c.args.b c.args.n _ _ d c.in_ok-set.ensures c.in-Opt.is
    (h c.args.grammar.now c.args.b c.args.n c.in-Opt.operand c.in_ok-below-in-Opt.ensures)) c.over_opt.ensures

pub by_node-returns-in_ok-below-in-And : goal.by_node-returns-in_ok-below-in-And
by_node-returns-in_ok-below-in-And t c = some_as _ _ c.over_and.result (λ d h.
    at_node c.args.grammar.now c.args.b c.args.n _ _ d c.in_ok-set.ensures c.in-And.is
    (h c.args.grammar.now c.args.b c.args.n c.in-And.operand c.in_ok-below-in-And.ensures)) c.over_and.ensures

pub by_node-returns-in_ok-below-in-Not : goal.by_node-returns-in_ok-below-in-Not
by_node-returns-in_ok-below-in-Not t c = some_as _ _ c.over_not.result (λ d h.
    at_node c.args.grammar.now c.args.b c.args.n _ _ d c.in_ok-set.ensures c.in-Not.is
    (h c.args.grammar.now c.args.b c.args.n c.in-Not.operand c.in_ok-below-in-Not.ensures)) c.over_not.ensures

pub by_node-returns-in_ok-below-in-Star : goal.by_node-returns-in_ok-below-in-Star
by_node-returns-in_ok-below-in-Star t c = some_as _ _ c.over_star.result (λ d h.
    at_node c.args.grammar.now c.args.b c.args.n _ _ d c.in_ok-set.ensures c.in-Star.is
    (h c.args.grammar.now c.args.b c.args.n c.in-Star.operand c.in_ok-below-in-Star.ensures)) c.over_star.ensures

pub by_node-returns-in_ok-below-in-Plus : goal.by_node-returns-in_ok-below-in-Plus
by_node-returns-in_ok-below-in-Plus t c = some_as _ _ c.over_plus.result (λ d h.
    at_node c.args.grammar.now c.args.b c.args.n _ _ d c.in_ok-set.ensures c.in-Plus.is
    (h c.args.grammar.now c.args.b c.args.n c.in-Plus.operand c.in-Plus.star c.in_ok-below-in-Plus.ensures))
    c.over_plus.ensures
