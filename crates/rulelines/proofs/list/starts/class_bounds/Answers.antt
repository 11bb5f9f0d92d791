use Rattle.std.proofs.Common.{subst}
use Rattle.std.proofs.lemmas.Result.{IfOk-weaker}
use Rattle.rulelines.specs.Starts.{HaveEnds}
use Rattle.rulelines.proofs.StartsLemmas.{both_ends, bounds_kept}
use Rattle.rulelines.proofs.list.starts.class_bounds.Goals as goal

pub returns-then-edges-clause-bounds : goal.returns-then-edges-clause-bounds
returns-then-edges-clause-bounds c = IfOk-weaker c.with_ends.result _ _ (λ all ends.
    bounds_kept c.args.flat.now c.args.inner.alphabet c.args.inner.terminator c.in_ok-bounds.bounds.items all.items
    c.in_ok-bounds.ensures (subst (λ v. HaveEnds v all.items) c.deref.ensures.value ends)) c.with_ends.ensures

pub returns-then-edges-clause-ends : goal.returns-then-edges-clause-ends
returns-then-edges-clause-ends c = IfOk-weaker c.with_ends.result _ _ (λ all ends asked.
    both_ends c.args.flat.now c.args.inner.alphabet c.args.inner.terminator c.in_ok-bounds.bounds.items all.items
    c.in_ok-bounds.ensures (subst (λ v. HaveEnds v all.items) c.deref.ensures.value ends)) c.with_ends.ensures
