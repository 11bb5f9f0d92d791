-- No id is that of a rule.
use Rattle.std.proofs.Common.{◌≡◌, arith, get_or, refl}
use Rattle.std.proofs.lemmas.Bool.{both_ways}
use Rattle.std.proofs.lemmas.Option.{get_or_from_slice_get, slice_get_within}
use Rattle.fixpoint.proofs.ContainsLemmas.{get_in}
use Rattle.abnfd.proofs.by_name.redefines.Goals as goal

pub returns : goal.returns
returns c = (
  (λ e. absurd (both_ways _ refl e)),
  (λ f.
      let ids = c.args.again.now in
      let at = get_in ids f.0 f.2 in
      let lt = slice_get_within ids at.0 f.0 at.1 in
      let is : get_or ids at.0 0 ≡ f.0 = get_or_from_slice_get ids at.0 f.0 0 at.1 in
      let past = c.loop-id-test.false in
      let low = f.1 in
      absurd (c.loop-id.invariant at.0 (omega (arith, lt, past)) (omega (arith, is, low)))),
)
