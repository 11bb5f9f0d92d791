use Rattle.std.proofs.Common.{◌≡◌, inl, inr, Some, ◌∙◌, subst, arith}
use Rattle.std.specs.Prelude.{slice_get}
use Rattle.std.proofs.lemmas.Option.{slice_get_within}
use Rattle.pegnodes.specs.Nodes.{shape_of, shapes_of}
use Rattle.pegnodes.specs.Predictive.{of_shape}
use Rattle.pegnodes.proofs.HasShapeLemmas.{node_at, length-shapes}
use Rattle.pegnodes.proofs.ForesightLemmas.{below_or_from}
use Rattle.pegnodes.proofs.predictive.are_alike.Goals as goal

pub loop-n-init : goal.loop-n-init
loop-n-init c = λ n lt. absurd (omega (arith, lt))

pub loop-n-preserved : goal.loop-n-preserved
loop-n-preserved c = λ n lt k is bodies of shape at. elim (below_or_from c.loop-n.n n) [
  | inl low ↦ c.loop-n.invariant n low k is bodies of shape at
  | inr high ↦
      let here : n ≡ c.loop-n.n = omega (arith, lt, high) in
      let there = node_at _ _ _ c.loop-n-test.true c.index-nodes-n.is in
      let moved = subst (λ v. slice_get (shapes_of c.args.nodes.now) v ≡ Some shape) here at in
      let same : shape_of c.index-nodes-n.result ≡ shape = cc (there, moved) in
      subst (λ v. of_shape bodies c.in-Ok.byte of v ≡ of_shape bodies k of v) same
      (c.is_alike.ensures c.if-not-is_alike.false k is bodies of)
]

pub returns-clause-alike : goal.returns-clause-alike
returns-clause-alike c = λ t k is bodies of n shape at.
    let low = slice_get_within (shapes_of c.args.nodes.now) n shape at in
    let count = length-shapes c.args.nodes.now in
    let end = c.loop-n-test.false in
    let same : c.in-Ok.byte ≡ c.args.b = c.in-Ok.ensures.1 in
    subst (λ v. of_shape bodies v of shape ≡ of_shape bodies k of shape) same
    (c.loop-n.invariant n (omega (arith, low, count, end)) k (same ∙ is) bodies of shape at)
