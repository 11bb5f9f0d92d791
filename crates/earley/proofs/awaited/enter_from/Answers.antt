use Rattle.std.proofs.Common.{subst, sym, ◌∙◌}
use Rattle.std.proofs.lemmas.Bool.{eqb-true}
use Rattle.std.proofs.lemmas.Result.{IfOk-weaker}
use Rattle.flatgrammar.specs.Positions.{In}
use Rattle.earley.proofs.OldDotsLemmas.{calls_name, calls_nothing, contains_in, enters_node, enters_none, was_entered}
use Rattle.earley.proofs.awaited.enter_from.Goals as goal

pub returns-in_default : goal.returns-in_default
returns-in_default c =
    enters_none c.args.tables.now c.args.dots.now c.args.from c.args.entered.now.items c.args.old.now.items
    (calls_nothing c.args.tables.now c.args.dots.now c.args.from c.args.entered.now.items c.args.old.now.items
    (sym c.called_node.ensures ∙ c.in_default.is))

pub returns-then-is_name : goal.returns-then-is_name
returns-then-is_name c =
    enters_none c.args.tables.now c.args.dots.now c.args.from c.args.entered.now.items c.args.old.now.items
    (calls_name c.args.tables.now c.args.dots.now c.args.from c.args.entered.now.items c.args.old.now.items
    c.in-Some.node c.in-Some._next (sym c.called_node.ensures ∙ c.in-Some.is)
    (sym c.is_name.ensures ∙ c.if-is_name.true))

pub returns-then-contains : goal.returns-then-contains
returns-then-contains c =
    enters_none c.args.tables.now c.args.dots.now c.args.from c.args.entered.now.items c.args.old.now.items
    (was_entered c.args.tables.now c.args.dots.now c.args.from c.args.entered.now.items c.args.old.now.items
    c.in-Some.node c.in-Some._next (sym c.called_node.ensures ∙ c.in-Some.is)
    (let e = c.if-contains.ensures.cases in subst (λ v. In c.in-Some.node v) c.deref.ensures.value
    (contains_in c.deref.result.now c.in-Some.node (e.0, e.1, eqb-true _ _ (e.2 _)))))

pub returns : goal.returns
returns c = IfOk-weaker c.add_node.result _ _ (λ done adds.
    enters_node c.args.tables.now c.args.dots.now c.args.from c.args.entered.now.items c.args.old.now.items
    c.in-Some.node c.in-Some._next (sym c.called_node.ensures ∙ c.in-Some.is) _ _
    (sym c.is_name.ensures ∙ c.if-is_name.false) c.in_ok-push.ensures.items adds) c.add_node.ensures
