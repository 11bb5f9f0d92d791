use Rattle.std.proofs.Common.{Bool, true, cond, List, sym, ◌∙◌, ap, subst, take_all, get_or}
use Rattle.std.specs.List.{list_any}
use Rattle.flatgrammar.specs.declared.closure.DottedRule.{DottedRule}
use Rattle.refusedlines.specs.SoughtParts.{AreDotsIn, is_pair}
use Rattle.refusedlines.proofs.SoughtPartsLemmas.{dot_added}
use Rattle.refusedlines.proofs.parts.dots_in.Goals as goal

pub loop-dot-init : goal.loop-dot-init
loop-dot-init c = λ n k. ap (λ v. list_any (is_pair (n, k)) v) c.new-set.ensures.empty

pub loop-dot-preserved : goal.loop-dot-preserved
loop-dot-preserved c = λ n k.
    let none : DottedRule = record { node = 0; step = 0 } in
    let dot : DottedRule = get_or c.args.dots.now c.loop-dot.dot-index none in
    c.in_ok-insert.ensures.updates.0 (n, k)
    ∙ (ap (λ (b : Bool). cond (is_pair (dot.node, dot.step) (n, k)) true b) (c.loop-dot.invariant n k)
    ∙ sym (dot_added c.args.dots.now c.loop-dot.dot-index none c.loop-dot-test.true n k))

pub returns : goal.returns
returns c =
    subst (λ (v : List DottedRule). AreDotsIn v c.loop-dot.set)
    (take_all c.loop-dot.dot-index c.args.dots.now c.loop-dot-test.false) c.loop-dot.invariant
