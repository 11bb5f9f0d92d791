use Rattle.std.proofs.Common.{arith, refl}
use Rattle.std.proofs.lemmas.Option.{get_or_from_slice_get, slice_get_within}
use Rattle.fixpoint.proofs.RowsOfLemmas as m
use Rattle.fixpoint.proofs.ContainsLemmas as s
use Rattle.fixpoint.proofs.rows.are_below.Goals as goal

pub returns-then-m-count : goal.returns-then-m-count
returns-then-m-count c = (
  λ e. absurd (cc e),
  λ h. let lt = m.within_at c.args.these.now c.args.count c.loop-m.m-index h c.loop-m-test.true in
      let ge = c.if-m-count.true in absurd (omega (arith, lt, ge)),
)

pub returns : goal.returns
returns c = (
  λ _ n h.
      let at = s.get_in c.args.these.now n h in
      let e = get_or_from_slice_get c.args.these.now at.0 n 0 at.1 in
      let lt = slice_get_within c.args.these.now at.0 n at.1 in
      let end = c.loop-m-test.false in
      let below = c.loop-m.invariant at.0 (omega (arith, lt, end)) in
      omega (arith, below, e),
  λ _. refl,
)
