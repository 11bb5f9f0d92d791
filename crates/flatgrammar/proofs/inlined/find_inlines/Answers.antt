use Rattle.std.proofs.Common.{◌≡◌, ◌<◌, ◌+◌, ◌-◌, ◌∙◌, IfSome, length, subst, arith, length-set}
use Rattle.flatgrammar.specs.Inlines.{IsInlined}
use Rattle.flatgrammar.proofs.InlinedLemmas.{inlines_set, low_set, allowed_at}
use Rattle.flatgrammar.proofs.inlined.find_inlines.Goals as goal

pub inlined_of-inlined-requires : goal.inlined_of-inlined-requires
inlined_of-inlined-requires c =
    let lt : c.loop-node.node - 1 < length c.in_ok-callers.callers.items =
    (let le = c.loop-node.invariant.within in let pos = c.loop-node-test.true in omega (arith, le, pos)) in
    allowed_at c.args.flat.now c.in_ok-callers.callers.items (c.loop-node.node - 1) c.index.result.now
    c.in_ok-callers.ensures lt c.index.ensures

pub loop-node-preserved : goal.loop-node-preserved
loop-node-preserved c =
    let pos = c.loop-node-test.true in
    let count = c.loop-node.invariant.count in
    let lt : c.loop-node.node - 1 < length c.loop-node.inlines.items =
    (let le = c.loop-node.invariant.within in omega (arith, le, pos, count)) in
    let m_is : c.loop-node.node ≡ c.loop-node.node - 1 + 1 = omega (arith, pos) in
    record {
      count = length-set c.loop-node.inlines.items (c.loop-node.node - 1) c.inlined_of-inlined.result ∙ count;
      within = (let le = c.loop-node.invariant.within in omega (arith, le));
      low = low_set c.args.flat.now c.loop-node.inlines.items (c.loop-node.node - 1) c.inlined_of-inlined.result lt
          c.loop-node.node m_is c.loop-node.invariant.low;
      high = inlines_set c.args.flat.now c.loop-node.inlines.items (c.loop-node.node - 1) c.inlined_of-inlined.result lt
          c.loop-node.node m_is c.loop-node.invariant.low c.loop-node.invariant.high
          (subst (λ v. IfSome c.inlined_of-inlined.result (λ i. IsInlined c.args.flat.now v (c.loop-node.node - 1) i))
          c.deref.ensures.value c.inlined_of-inlined.ensures);
    }
