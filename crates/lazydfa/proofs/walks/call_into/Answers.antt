use Rattle.std.proofs.Common.{refl, sym, ◌∙◌}
use Rattle.std.proofs.lemmas.Result.{IfOk-weaker}
use Rattle.lazydfa.specs.Conts.{stack_of}
use Rattle.lazydfa.proofs.ContsLemmas.{kept_both}
use Rattle.lazydfa.proofs.NameWalksLemmas.{into_node, into_none, past_name, past_none}
use Rattle.lazydfa.proofs.walks.call_into.Goals as goal

pub returns-in_default-clause-adds : goal.returns-in_default-clause-adds
returns-in_default-clause-adds c =
    into_none c.args.tables.now c.args.cont.node c.args.cont.step
    (stack_of c.args.conts.now.items.items c.args.cont.next) _ _
    (sym c.called_node.ensures ∙ c.in_default.is)

pub returns-then-not-is_name-clause-kept : goal.returns-then-not-is_name-clause-kept
returns-then-not-is_name-clause-kept c =
    IfOk-weaker c.enter.result _ _ (λ done kept. kept_both _ _ _ c.in_ok-below.ensures.kept kept) c.enter.ensures.kept

pub returns-then-not-is_name-clause-adds : goal.returns-then-not-is_name-clause-adds
returns-then-not-is_name-clause-adds c =
    IfOk-weaker c.enter.result _ _ (λ done adds. into_node c.args.tables.now c.args.cont.node c.args.cont.step
    (stack_of c.args.conts.now.items.items c.args.cont.next) c.in-Some.node c.in-Some.next
    (sym c.called_node.ensures ∙ c.in-Some.is) _ _ _ _
    (sym c.is_name.ensures ∙ c.if-not-is_name.true) c.in_ok-below.ensures.is.is adds) c.enter.ensures.adds

pub returns-then-not-null-clause-adds : goal.returns-then-not-null-clause-adds
returns-then-not-null-clause-adds c =
    past_none c.args.tables.now c.args.cont.node c.args.cont.step
    (stack_of c.args.conts.now.items.items c.args.cont.next) c.in-Some.node c.in-Some.next
    (sym c.called_node.ensures ∙ c.in-Some.is) _ _
    (sym c.is_name.ensures ∙ c.if-not-is_name.false) (sym c.null.ensures ∙ c.if-not-null.true)

pub returns-clause-adds : goal.returns-clause-adds
returns-clause-adds c =
    IfOk-weaker c.add.result _ _ (λ done one. past_name c.args.tables.now c.args.cont.node c.args.cont.step
    (stack_of c.args.conts.now.items.items c.args.cont.next) c.in-Some.node c.in-Some.next
    (sym c.called_node.ensures ∙ c.in-Some.is) _ _ _ c.in_ok-id.id _ _ c.in_ok-id.ensures.kept
    (sym c.is_name.ensures ∙ c.if-not-is_name.false) (sym c.null.ensures ∙ c.if-not-null.false) refl
    c.in_ok-id.ensures.is one) c.add.ensures
