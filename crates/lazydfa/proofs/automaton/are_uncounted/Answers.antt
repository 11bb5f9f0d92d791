use Rattle.std.proofs.Common.{◌≡◌, ◌<◌, ◌≤◌, ap, sym, ◌∙◌, subst, length, get_or}
use Rattle.std.proofs.lemmas.Option.{slice_get-get_or}
use Rattle.std.specs.Prelude.{Some}
use Rattle.lazydfa.proofs.AreUncountedLemmas.{none_to_next, none_to_end}
use Rattle.lazydfa.proofs.automaton.are_uncounted.Goals as goal

pub loop-node-preserved : goal.loop-node-preserved
loop-node-preserved c =
    none_to_next c.args.tables.now.nodes.items c.loop-node.node-index c.node-item.result
    (slice_get-get_or c.args.tables.now.nodes.items c.loop-node.node-index c.node-item.result
    (subst (λ v. c.loop-node.node-index < length v) c.deref-node-items.ensures.value c.loop-node-test.true)
    ∙ ap (λ v. Some v) (sym (subst (λ v. c.node-item.result ≡ get_or v c.loop-node.node-index c.node-item.result)
    c.deref-node-items.ensures.value c.node-item.is)))
    (λ h. let t = c.counts_iterations.ensures.1 h in let f = c.if-counts_iterations.false in absurd (cc (t, f)))
    c.loop-node.invariant

pub returns : goal.returns
returns c = λ _. none_to_end c.args.tables.now c.loop-node.node-index
    (subst (λ v. length v ≤ c.loop-node.node-index) c.deref-node-items.ensures.value c.loop-node-test.false)
    c.loop-node.invariant
